-- The table read from the bytes of an accepted table is a table of the machine, so `never` is sound for it. Assumes nothing.
use Rattle.std.specs.Prelude.{◌≡◌, List, ℕ, Ok}
use Rattle.std.proofs.Math.Path.{subst}
use Rattle.outcome.specs.declared.NonHaltProof.{NonHaltProof}
use Rattle.outcome.specs.declared.Outcome.TheVariants.{NeverHalts}
use Rattle.machine.specs.declared.Machine.{Machine}
use Rattle.machine.specs.Layout.{stride_of, entry_number}
use Rattle.machine.specs.Model.Check.{table_check}
use Rattle.table_laws.specs.WellFormed.{Bytes, EntryOf, WellFormed}
use Rattle.table_laws.proofs.Facts.CheckExact.{table_check_accepted}
use Rattle.table_laws.proofs.Facts.Reading.{entry_of_machine}
use Rattle.table_machine.specs.TableMachine.{run, start, Halted, Verdict}
use Rattle.table_machine.specs.Tables.{table_of, TableOf}
use Rattle.table_machine.proofs.Facts.Never.{never_sound}

module _ (m : Machine) (s : List ℕ) where
  pub table_of_machine : WellFormed m s → TableOf m (table_of m s)
  unfolding table_of
  table_of_machine w q x y z a e = subst (EntryOf m) e (entry_of_machine m s w (entry_number m.symbols (stride_of m) q x y z))

  module _ (bytes : Bytes s) (accepted : table_check m s ≡ Ok tt) where
    pub accepted_table : TableOf m (table_of m s)
    accepted_table = table_of_machine (table_check_accepted m s bytes accepted)

    pub accepted_never_sound : (word : List ℕ) (k steps : ℕ) (p : NonHaltProof) → Verdict m.tapes (table_of m s) (run (table_of m s) k (start m.start word)) (NeverHalts steps p)
        → (n : ℕ) → ¬ (Halted (table_of m s) (run (table_of m s) n (run (table_of m s) k (start m.start word))))
    accepted_never_sound = never_sound m (table_of m s) accepted_table m.start
