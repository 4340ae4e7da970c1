-- What follows for a run: `never` is sound, a run without fuel gives the verdict, and two runs in a row are one. Assumes nothing.
use Rattle.symbol.specs.declared.State.{State}
use Rattle.std.specs.Prelude.{◌≡◌, refl, ◌↔◌, Bool, true, false, List, ℕ, zero, suc, ◌+◌, ◌-◌, ◌≤◌, ◌<◌, ◌^◌, Ok, Option}
use Rattle.std.proofs.Common.{subst, zero-add, suc-add, arith}
use Rattle.std.proofs.Math.Decide.{dec_lt}
use Rattle.notation.specs.Choice.{pick}
use Rattle.outcome.specs.declared.NonHaltProof.{NonHaltProof}
use Rattle.outcome.specs.declared.Outcome.{Outcome}
use Rattle.outcome.specs.declared.Outcome.TheVariants.{OutOfFuel, NeverHalts}
use Rattle.machine.specs.declared.Machine.{Machine}
use Rattle.machine.specs.declared.Action.{Action}
use Rattle.machine.specs.Model.Check.{table_check}
use Rattle.table_laws.specs.WellFormed.{Bytes}
use Rattle.table_machine.specs.TableMachine.{run, Halted, halts}
use Rattle.table_machine.specs.Tables.{table_of}
use Rattle.table_machine.proofs.Facts.Run.{run_add}
use Rattle.table_machine.proofs.Facts.Verdict.{verdict_unique}
use Rattle.table_machine.proofs.Facts.Never.{never_sound_bare}
use Rattle.table_machine.proofs.Facts.Table.{accepted_table}
use Rattle.run_checks.specs.declared.inner.look.Look.{Look}
use Rattle.run_checks.specs.declared.inner.look.Look.TheVariants.{Halt, Never, Go}
use Rattle.sim.specs.Model.Engine.{Task, task, Conf, End, on_look, matches, halted_end, never_end, fuel_end, full_end, stopped_end, roomy_of, look_of, step_of, run_with, run_of}
use Rattle.sim_refines.specs.Meaning.{config_of, EngineFits}
use Rattle.sim_refines.specs.Statement.{held_by, Judged, Sees, no_entry, loops, goes_on, Answers, verdict, Refines}
use Rattle.sim_refines.proofs.Facts.Step.{bare_config}
use Rattle.sim_refines.proofs.Facts.Look.{look_sees}
use Rattle.sim_refines.proofs.Facts.Refinement.{plain_refines}

-- ---- a run without fuel answers the verdict, and nothing else

module _ (k : Task) (proves : k.proves ≡ true) (σ : Conf) (fits : EngineFits k.machine σ) where
  no_fuel_verdict : Judged k (held_by k σ) (run_of k 0 σ).outcome
  unfolding run_of run_with
  no_fuel_verdict = by (look_sees k σ fits)
    where
      by : {x : Look} → Sees k (held_by k σ) x → Judged k (held_by k σ) (on_look x (halted_end σ) (never_end σ) (λ a. fuel_end σ)).outcome
      by (no_entry h) = halts h
      by (loops p t v) = v
      by (goes_on a e u) = u proves

  pub verdict_exact : (o : Outcome) → Judged k (held_by k σ) o ↔ (o ≡ (run_of k 0 σ).outcome)
  verdict_exact o = (λ v. verdict_unique _ _ _ o _ v no_fuel_verdict, λ e. rw e no_fuel_verdict)

-- ---- never is sound, for every engine value that fits

never_verdict : {k : Task} {fuel made n : ℕ} {σ e : Conf} {p : NonHaltProof} → Answers k fuel made σ e (NeverHalts n p) → Judged k (held_by k e) (NeverHalts n p)
never_verdict (verdict _ t v g) = v

module _ (m : Machine) (s : List ℕ) (bytes : Bytes s) (accepted : table_check m s ≡ Ok tt) (proves : Bool) (rule : Option State) (fuel : ℕ) (σ : Conf)
    (fits : EngineFits m σ) (small : σ.sim.steps + fuel ≤ 2 ^ 62) (n : ℕ) (p : NonHaltProof) (says : (run_of (task m s proves rule) fuel σ).outcome ≡ NeverHalts n p) where
  refined : Refines (task m s proves rule) fuel σ (run_of (task m s proves rule) fuel σ)
  refined = plain_refines m s bytes accepted proves rule fuel σ fits small

  -- from the end of the run the table machine halts at no step
  pub never_onward : (j : ℕ) → ¬ (Halted (table_of m s) (run (table_of m s) j (config_of m (run_of (task m s proves rule) fuel σ).at)))
  never_onward = never_sound_bare m (table_of m s) (accepted_table m s bytes accepted) _ (bare_config m _) n p
      (never_verdict (subst (Answers (task m s proves rule) fuel refined.made σ _) says refined.answers))

  -- nor from the start of the run
  pub never_halts : (j : ℕ) → ¬ (Halted (table_of m s) (run (table_of m s) j (config_of m σ)))
  never_halts j = by (dec_lt j refined.made)
    where
      by : Dec (j < refined.made) → ¬ (Halted (table_of m s) (run (table_of m s) j (config_of m σ)))
      by (yes l) = refined.went.running j l
      by (no l) =
          let e : j ≡ refined.made + (j - refined.made) = omega arith in
          λ h. never_onward (j - refined.made) (rw (refined.went.holds, ← run_add, ← e) h)

-- ---- two runs in a row

pub run_twice : (k : Task) (a b : ℕ) (σ : Conf) (n : ℕ) → (run_of k a σ).outcome ≡ OutOfFuel n → run_of k b (run_of k a σ).at ≡ run_of k (a + b) σ
unfolding run_of run_with pick
run_twice k zero b σ n = rw zero-add (by (look_of k σ))
  where
    by : (x : Look) → (on_look x (halted_end σ) (never_end σ) (λ c. fuel_end σ)).outcome ≡ OutOfFuel n → run_of k b (on_look x (halted_end σ) (never_end σ) (λ c. fuel_end σ)).at ≡ run_of k b σ
    by Halt e = let z : ◌≡◌ {A = ℕ} 0 1 = cc in absurd (omega arith)
    by (Never p) e = let z : ◌≡◌ {A = ℕ} 0 1 = cc in absurd (omega arith)
    by (Go c) e = refl
run_twice k (suc a) b σ n = rw suc-add (by (λ c. run_twice k a b (step_of σ c) n) (look_of k σ))
  where
    first : ℕ → Action → Bool → Bool → End
    first f c roomy left = pick roomy (pick left (stopped_end (step_of σ c)) (run_of k f (step_of σ c))) (full_end σ)

    -- the rest, after a step by c
    Rest : Action → Type 0
    Rest c = (run_of k a (step_of σ c)).outcome ≡ OutOfFuel n → run_of k b (run_of k a (step_of σ c)).at ≡ run_of k (a + b) (step_of σ c)

    go : (c : Action) → Rest c → (roomy left : Bool) → (first a c roomy left).outcome ≡ OutOfFuel n → run_of k b (first a c roomy left).at ≡ first (a + b) c roomy left
    go c r false left e = let z : ◌≡◌ {A = ℕ} 0 1 = cc in absurd (omega arith)
    go c r true true e = let z : ◌≡◌ {A = ℕ} 0 1 = cc in absurd (omega arith)
    go c r true false e = r e

    on : ℕ → Look → End
    on f x = on_look x (halted_end σ) (never_end σ) (λ c. first f c (roomy_of σ c) (matches k.rule σ.sim.state))

    by : ((c : Action) → Rest c) → (x : Look) → (on a x).outcome ≡ OutOfFuel n → run_of k b (on a x).at ≡ on (a + b) x
    by r Halt e = let z : ◌≡◌ {A = ℕ} 0 1 = cc in absurd (omega arith)
    by r (Never p) e = let z : ◌≡◌ {A = ℕ} 0 1 = cc in absurd (omega arith)
    by r (Go c) e = go c (r c) (roomy_of σ c) (matches k.rule σ.sim.state) e
