-- Consequences for a run: without fuel its answer is the verdict, and `never` is sound. Assumes nothing.
use Rattle.symbol.specs.declared.State.{State}
use Rattle.std.specs.Prelude.{◌≡◌, refl, ◌↔◌, Bool, true, List, ℕ, ◌+◌, ◌-◌, ◌≤◌, ◌<◌, ◌^◌, Ok, Option}
use Rattle.std.proofs.Common.{subst, arith}
use Rattle.std.proofs.Math.Decide.{dec_lt}
use Rattle.outcome.specs.declared.NonHaltProof.{NonHaltProof}
use Rattle.outcome.specs.declared.Outcome.{Outcome}
use Rattle.outcome.specs.declared.Outcome.TheVariants.{NeverHalts}
use Rattle.machine.specs.declared.Machine.{Machine}
use Rattle.machine.specs.Model.Check.{table_check}
use Rattle.table_laws.specs.WellFormed.{Bytes}
use Rattle.table_machine.specs.TableMachine.{run, Halted, halts}
use Rattle.table_machine.specs.Tables.{table_of, TableOf, Bare}
use Rattle.table_machine.proofs.Facts.Run.{run_add}
use Rattle.table_machine.proofs.Facts.Verdict.{verdict_unique}
use Rattle.table_machine.proofs.Facts.Never.{never_sound_bare}
use Rattle.table_machine.proofs.Facts.Table.{accepted_table}
use Rattle.run_rules.specs.Model.Task.{Task, task}
use Rattle.rle.specs.Model.Engine.{Conf, macro_of, End, end, on_plan, run_within, run_of, Plan, Stop}
use Rattle.rle_refines.specs.Meaning.{config_of, ChainFits}
use Rattle.rle_refines.specs.Statement.{table_in, Judged, Answers, verdict, Refines}
use Rattle.rle_refines.proofs.Facts.Plan as P
use Rattle.rle_refines.proofs.Facts.Plan.{Plans, plan_right}
use Rattle.rle_refines.proofs.Facts.Refinement.{chain_refines}

module _ (k : Task) (table : TableOf k.machine (table_in k)) (single : k.machine.tapes ≡ 1) where
  -- ---- without fuel the run makes no step, and its answer is exactly the verdict

  module _ (σ : Conf) (f : ChainFits k.machine σ) where
    -- a plan without fuel is a stop
    stop_says : (Q : End → Type 0) → ((o : Outcome) → Plans k 0 σ (Stop o) → Q (end σ o)) → Q (run_of k 0 σ)
    unfolding run_of run_within
    stop_says Q h = by (plan_right k table single 0 σ f)
      where
        by : {p : Plan} → Plans k 0 σ p → Q (on_plan p (end σ) (λ j. run_within k 0 (0 - j.repeats) (macro_of j σ)))
        by (P.no_entry x) = h _ (P.no_entry x)
        by (P.loops p t v) = h _ (P.loops p t v)
        by (P.spent a e u z) = h _ (P.spent a e u z)
        by (P.stops a e u l r) = h _ (P.stops a e u l r)
        by (P.lacks_place a e u l r g) = h _ (P.lacks_place a e u l r g)
        by (P.macro_steps a n e u g x r) = absurd (omega (arith, r.some, r.within))

    pub no_fuel_verdict : k.proves ≡ true → Judged k (config_of σ) (run_of k 0 σ).outcome
    no_fuel_verdict t = stop_says (λ x. Judged k (config_of σ) x.outcome) by
      where
        by : (o : Outcome) → Plans k 0 σ (Stop o) → Judged k (config_of σ) o
        by o (P.no_entry h) = halts h
        by o (P.loops p q v) = v
        by o (P.spent a e u z) = u t
        by o (P.stops a e u l r) = absurd (omega arith)
        by o (P.lacks_place a e u l r g) = absurd (omega arith)

    pub verdict_exact : k.proves ≡ true → (o : Outcome) → Judged k (config_of σ) o ↔ (o ≡ (run_of k 0 σ).outcome)
    verdict_exact t o = (λ v. verdict_unique _ _ _ o _ v (no_fuel_verdict t), λ e. rw e (no_fuel_verdict t))

-- ---- never is sound, for every engine value that fits

-- the tapes that the machine lacks are blank in the configuration held
pub bare_config : (t : ℕ) (σ : Conf) → Bare t (config_of σ)
bare_config t σ = record { second = λ _. refl; third = λ _. refl }

never_verdict : {k : Task} {fuel made n : ℕ} {e : Conf} {p : NonHaltProof} → Answers k fuel made e (NeverHalts n p) → Judged k (config_of e) (NeverHalts n p)
never_verdict (verdict _ t v g) = v

module _ (m : Machine) (s : List ℕ) (bytes : Bytes s) (accepted : table_check m s ≡ Ok tt) (single : m.tapes ≡ 1) (proves : Bool) (rule : Option State) (fuel : ℕ) (σ : Conf)
    (fits : ChainFits m σ) (small : σ.sim.steps + fuel ≤ 2 ^ 62) (n : ℕ) (p : NonHaltProof) (says : (run_of (task m s proves rule) fuel σ).outcome ≡ NeverHalts n p) where
  refined : Refines (task m s proves rule) fuel σ (run_of (task m s proves rule) fuel σ)
  refined = chain_refines m s bytes accepted single proves rule fuel σ fits small

  abbrev ended : Conf
  ended = (run_of (task m s proves rule) fuel σ).at

  -- from where the run ended, the table machine halts at no step
  pub never_onward : (j : ℕ) → ¬ (Halted (table_of m s) (run (table_of m s) j (config_of ended)))
  never_onward = never_sound_bare m (table_of m s) (accepted_table m s bytes accepted) (config_of ended) (bare_config m.tapes ended) n p
      (never_verdict (subst (Answers (task m s proves rule) fuel refined.made ended) says refined.answers))

  -- nor from where the run began
  pub never_halts : (j : ℕ) → ¬ (Halted (table_of m s) (run (table_of m s) j (config_of σ)))
  never_halts j = by (dec_lt j refined.made)
    where
      by : Dec (j < refined.made) → ¬ (Halted (table_of m s) (run (table_of m s) j (config_of σ)))
      by (yes l) = refined.went.running j l
      by (no l) =
          let e : j ≡ refined.made + (j - refined.made) = omega arith in
          λ h. never_onward (j - refined.made) (rw (refined.went.holds, ← run_add, ← e) h)
