-- The laws of the table machine of document 01 as an automaton. Assumes nothing.
use Rattle.std.specs.Prelude.{ℕ, zero, suc, ◌≡◌, refl, List}
use Rattle.std.proofs.Common.{sym, ap, ◌∙◌, subst, arith}
use Rattle.outcome.specs.declared.Outcome.{Outcome}
use Rattle.outcome.specs.declared.Outcome.TheVariants as Out
use Rattle.outcome.specs.declared.NonHaltProof.{NonHaltProof}
use Rattle.outcome.specs.Numbers.{steps_of}
use Rattle.outcome.proofs.Facts.Numbers.{never_of}
use Rattle.machine.specs.declared.Machine.{Machine}
use Rattle.table_machine.specs.TableMachine.{Table, Config, step, run, Halted, Verdict, halts, stays, walks, goes}
use Rattle.table_machine.specs.Tables.{table_of, TableOf, Bare}
use Rattle.table_machine.proofs.Facts.Run.{run_suc}
use Rattle.table_machine.proofs.Facts.Never.{never_sound_bare}
use Rattle.timeline_laws.specs.Automaton.{iterate, IsFull, IsNever}

pub verdict_not_full : (t : ℕ) (d : Table) (c : Config) (o : Outcome) → Verdict t d c o → ¬ IsFull o
verdict_not_full t d c o (halts h) = λ f. omega (arith, f)
verdict_not_full t d c o (stays a h r) = λ f. omega (arith, f)
verdict_not_full t d c o (walks a x h r) = λ f. omega (arith, f)
verdict_not_full t d c o (goes a h r u) = λ f. omega (arith, f)

pub iterate-run : (d : Table) (n : ℕ) (c : Config) → iterate (step d) n c ≡ run d n c
unfolding iterate run
iterate-run d zero c = refl
iterate-run d (suc n) c = ap (step d) (iterate-run d n c) ∙ sym (run_suc d n c)

module _ (m : Machine) (s : List ℕ) (table : TableOf m (table_of m s)) where
  pub never_on : (c : Config) (o : Outcome) → Bare m.tapes c → Verdict m.tapes (table_of m s) c o → IsNever o → (n : ℕ) → ¬ Halted (table_of m s) (iterate (step (table_of m s)) n c)
  never_on c o b v u n = subst (λ x. ¬ Halted (table_of m s) x) (sym (iterate-run (table_of m s) n c)) (by (never_of o u))
    where
      by : (p : NonHaltProof) × (o ≡ Out.NeverHalts (steps_of o) p) → ¬ Halted (table_of m s) (run (table_of m s) n c)
      by q = never_sound_bare m (table_of m s) table c b (steps_of o) q.0 (subst (Verdict m.tapes (table_of m s) c) q.1 v) n
