-- The run-length engine meets the timeline's laws, for one table and given numbers of places. Assumes nothing.
use Rattle.std.specs.Prelude.{◌≡◌, refl, List, ℕ}
use Rattle.std.proofs.Common.{ap}
use Rattle.machine.specs.declared.Machine.{Machine}
use Rattle.table_machine.specs.TableMachine.{Halted}
use Rattle.table_machine.specs.Tables.{table_of, TableOf}
use Rattle.table_machine.proofs.Facts.Run.{step_halted, not_defined}
use Rattle.timeline_laws.proofs.Facts.Parts.{Parts}
use Rattle.rle_slots.specs.Model.Slots.{bytes_for}
use Rattle.rle_timeline_laws.specs.Meaning.{Meant, meant, mean_of, next_of, NoRoom, chain_engine}
use Rattle.rle_timeline_laws.proofs.Facts.FitsWith.{Fits}
use Rattle.rle_timeline_laws.proofs.Facts.Fits.{steps_low, advance_fits, advances}
use Rattle.rle_timeline_laws.proofs.Facts.Slots.{slot_length, slot_back}

module _ (m : Machine) (s : List ℕ) where
  pub halted_stays : (x : Meant) → Halted (table_of m s) x.config → next_of m s x ≡ x
  halted_stays x h = ap (λ c. meant c x.lefts x.rights) (step_halted (table_of m s) x.config h)

  pub full_runs : (x : Meant) → NoRoom m s x → ¬ Halted (table_of m s) x.config
  full_runs x f h = not_defined _ f.act h f.has

  module _ (table : TableOf m (table_of m s)) (lefts rights : ℕ) where
    abbrev pub chain_parts : Parts chain_engine m s table (bytes_for lefts rights)
    chain_parts = record {
      Mean = Meant;
      mean = mean_of;
      config = λ x. x.config;
      next = next_of m s;
      NoRoom = NoRoom m s;
      Fits = Fits m s lefts rights;
      -- no condition: every configuration with places has a next step
      Good = λ x. Unit {0};
      fits_check = λ u f. f.accepted;
      fits_low = steps_low m s lefts rights;
      fits_good = λ u f. tt;
      now_is = λ u. refl;
      next_good = λ x g r. tt;
      next_is = λ x g r. refl;
      next_stays = λ x g h. halted_stays x h;
      no_room_runs = λ x g r. full_runs x r;
      advances = advances m s lefts rights table;
      advance_fits = advance_fits m s lefts rights table;
      pack_length = slot_length m s lefts rights;
      unpack_pack = slot_back m s lefts rights;
    }
