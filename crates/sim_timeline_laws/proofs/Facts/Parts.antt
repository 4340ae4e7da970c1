-- THE PLAIN ENGINE MEETS THE TIMELINE'S LAWS, with slots of the size that the buffers of e make. Assumes nothing.
use Rattle.std.specs.Prelude.{List, ℕ}
use Rattle.machine.specs.declared.Machine.{Machine}
use Rattle.table_machine.specs.Tables.{table_of, TableOf}
use Rattle.sim.specs.Model.Engine.{Conf}
use Rattle.sim.proofs.Facts.OperationCases.{engine_says}
use Rattle.timeline_laws.proofs.Facts.Parts.{Parts}
use Rattle.sim_slots.specs.Model.Slots.{slot_size}
use Rattle.sim_timeline_laws.specs.Meaning.{Mean, mean_of, next_of, NoRoom, plain_engine}
use Rattle.sim_timeline_laws.proofs.Facts.Step.{mean_steps, next_config, next_halted, halted_room}
use Rattle.sim_timeline_laws.proofs.Facts.Advance.{advance_goes}
use Rattle.sim_timeline_laws.proofs.Facts.Fits.{FitsLike, steps_low, advanced_fits, packed_fills, packed_back}

-- `Good` requires nothing: the laws hold for every meaning
abbrev pub plain_parts : (m : Machine) (s : List ℕ) (table : TableOf m (table_of m s)) (e : Conf) → Parts plain_engine m s table (slot_size m e)
plain_parts m s table e = record {
  Mean = Mean;
  mean = mean_of m;
  config = λ x. x.config;
  next = next_of m s;
  NoRoom = NoRoom m s;
  Fits = FitsLike m s e;
  Good = λ x. Unit {0};
  fits_check = λ u f. f.accepted;
  fits_low = λ u f. steps_low m s e u f;
  fits_good = λ u f. tt;
  now_is = λ u. mean_steps m u;
  next_good = λ x g r. tt;
  next_is = λ x g r. next_config m s x;
  next_stays = λ x g h. next_halted m s x h;
  no_room_runs = λ x g r h. halted_room m s x h r;
  advances = λ n u f l. advance_goes m s table n u (engine_says m s u f.accepted) l;
  advance_fits = λ n u f l. advanced_fits m s e n u f l;
  pack_length = λ u old f l. packed_fills m s e u old f l;
  unpack_pack = λ u t old f g l. packed_back m s e u t old f g l;
}
