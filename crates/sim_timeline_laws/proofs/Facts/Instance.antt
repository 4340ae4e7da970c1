-- EVERY PLAIN ENGINE THAT THE CHECK ACCEPTS IS AN INSTANCE of the timeline's theory, and a fresh one holds the word's configuration. Assumes nothing.
use Rattle.sim.specs.declared.Simulator.{Simulator}
use Rattle.outcome.specs.declared.Refusal.{Refusal}
use Rattle.std.specs.Prelude.{◌≡◌, refl, Bool, false, List, ℕ, Err, Ok, Result}
use Rattle.std.proofs.Common.{◌∙◌, arith, le-ltb}
use Rattle.machine.specs.declared.Machine.{Machine}
use Rattle.table_laws.specs.WellFormed.{Bytes}
use Rattle.table_machine.specs.TableMachine.{blank_tape, start}
use Rattle.table_machine.specs.Tables.{table_of, TableOf, Bare}
use Rattle.table_machine.proofs.Facts.Table.{accepted_table}
use Rattle.tape.specs.Model.Moves.{Held}
use Rattle.sim.specs.Model.Engine.{Conf, conf, tape1, tape2}
use Rattle.sim.specs.Model.Operations.{Made, made, new_answer, engine_check}
use Rattle.sim.proofs.Facts.OperationCases.{engine_says}
use Rattle.sim_refines.specs.Meaning.{has, tape_if, config_of}
use Rattle.sim_refines.proofs.Facts.Fresh.{new_holds}
use Rattle.timeline_rule.specs.Model.Timeline.{answered}
use Rattle.timeline_laws.proofs.Facts.Parts.{laws_of}
use Rattle.timeline_laws.specs.Instance.{Instance, Instances, Beginnings}
use Rattle.sim_slots.specs.Model.Slots.{slot_size}
use Rattle.sim_slots.specs.Model.Kind.{Lent, reply_on, made_on}
use Rattle.sim_timeline_laws.specs.Meaning.{plain_engine}
use Rattle.sim_timeline_laws.proofs.Facts.Step.{mean_config}
use Rattle.sim_timeline_laws.proofs.Facts.Fits.{same_slot}
use Rattle.sim_timeline_laws.proofs.Facts.Parts.{plain_parts}

-- ---- a tape that the machine lacks is blank in the configuration held

lacking : (b : Bool) (h : Held) → b ≡ false → tape_if b h ≡ blank_tape
lacking b h q = rw q refl

pub held-bare : (m : Machine) (e : Conf) → Bare m.tapes (config_of m e)
held-bare m e = record {
  second = λ l. lacking (has m 1) (tape1 e) (le-ltb 1 m.tapes (omega arith));
  third = λ l. lacking (has m 2) (tape2 e) (le-ltb 2 m.tapes (omega arith));
}

-- ---- the instance

module _ (m : Machine) (s : List ℕ) (e : Conf) (bytes : Bytes s) (accepted : engine_check m s e ≡ Ok tt) where
  abbrev table : TableOf m (table_of m s)
  table = accepted_table m s bytes (engine_says m s e accepted).table

  pub instance_of : Instance plain_engine m s e
  instance_of = record {
    table = table;
    laws = laws_of plain_engine m s table (slot_size m e) (plain_parts m s table e);
    fits = record { accepted = accepted; same0 = refl; same1 = refl; same2 = refl };
    bare = held-bare m e;
    same_size = λ u g. same_slot m s e u g;
    same_config = λ u. mean_config m u;
    same_engine = λ u v x. x;
    full_is = λ j. (λ n. n, λ n. n);
  }

pub plain_instances : Instances plain_engine
plain_instances m s bytes e q = instance_of m s e bytes q

-- ---- what `new` answered

made_holds : (m : Machine) (s w : List ℕ) (b : Lent) (g : Made) → new_answer m s w b.c0 b.c1 b.c2 ≡ g → (e : Conf) → made_on g ≡ answered e → config_of m e ≡ start m.start w
made_holds m s w b g q e r = by g.answer (q ∙ refl) r
  where
    by : (f : Result Simulator Refusal) → new_answer m s w b.c0 b.c1 b.c2 ≡ made f g.c0 g.c1 g.c2 → reply_on f g.c0 g.c1 g.c2 ≡ answered e → config_of m e ≡ start m.start w
    by (Err why) q r = let z : ◌≡◌ {A = ℕ} 0 1 = cc in absurd (omega arith)
    by (Ok v) q r =
        let z : conf v g.c0 g.c1 g.c2 ≡ e = cc in
        rw (← z) (new_holds m s w b.c0 b.c1 b.c2 v g.c0 g.c1 g.c2 q)

pub plain-begins : Beginnings plain_engine
plain-begins m s w b e q = made_holds m s w b (new_answer m s w b.c0 b.c1 b.c2) refl e q
