-- The plain engine's rule of a full step, and the tests of its run and its step. Assumes nothing.
use Rattle.std.specs.Prelude.{◌≡◌, refl, false, List, ℕ, suc, None, Option, Some}
use Rattle.std.proofs.Common.{ap, ◌∙◌, subst, arith}
use Rattle.std.proofs.Math.Path.{subst⁻¹}
use Rattle.notation.specs.Choice.{pick}
use Rattle.notation.proofs.Facts.Tests.{clash, by_test, pick_cases, pick_false}
use Rattle.outcome.specs.declared.Outcome.{Outcome}
use Rattle.outcome.specs.declared.Outcome.TheVariants.{OutOfFuel}
use Rattle.outcome.specs.declared.Status.TheVariants as Step
use Rattle.machine.specs.declared.Machine.{Machine}
use Rattle.machine.specs.declared.Action.{Action}
use Rattle.run_checks.specs.declared.inner.look.Look.{Look}
use Rattle.run_checks.specs.declared.inner.look.Look.TheVariants.{Halt, Never, Go}
use Rattle.table_machine.specs.TableMachine.{Table, Config, entry, out_of_fuel_at, Verdict, halts, stays, walks, goes}
use Rattle.table_machine.specs.Tables.{table_of, TableOf}
use Rattle.table_machine.proofs.Facts.Run.{not_defined}
use Rattle.table_machine.proofs.Facts.Verdict.{verdict_unique}
use Rattle.sim.specs.Model.Engine.{Task, task, Conf, End, on_look, halted_end, never_end, full_end, stopped_end, matches, look_with, roomy_of, step_of, run_with, run_of, Once, once, once_of}
use Rattle.sim.specs.Model.Operations.{bare_of}
use Rattle.sim_refines.specs.Meaning.{config_of, EngineFits}
use Rattle.sim_refines.specs.Statement.{table_in, held_by, Judged, Sees, no_entry, loops, goes_on}
use Rattle.sim_refines.proofs.Facts.Look.{look_sees}
use Rattle.sim_timeline_laws.specs.Meaning.{mean_of, NoRoom}
use Rattle.sim_timeline_laws.proofs.Facts.Step.{step_room, step_full, mean_bare}

-- ---- the engine: a step lacks space on one of its tapes

-- a full step has an entry
pub full_act : (m : Machine) (s : List ℕ) (σ : Conf) → NoRoom m s (mean_of m σ) → (a : Action) × (entry (table_of m s) (config_of m σ) ≡ Some a)
unfolding mean_of
full_act m s σ g = (g.0, g.1)

module _ (m : Machine) (s : List ℕ) (table : TableOf m (table_of m s)) (σ : Conf) (f : EngineFits m (bare_of m σ)) where
  pub lacks_some : (a : Action) → entry (table_of m s) (config_of m (bare_of m σ)) ≡ Some a → roomy_of (bare_of m σ) a ≡ false → NoRoom m s (mean_of m σ)
  lacks_some a e r = subst (NoRoom m s) (mean_bare m σ) (step_full m s table (bare_of m σ) f a e r)

  pub some_lacks : (a : Action) → entry (table_of m s) (config_of m (bare_of m σ)) ≡ Some a → NoRoom m s (mean_of m σ) → roomy_of (bare_of m σ) a ≡ false
  some_lacks a e g =
      by_test (roomy_of (bare_of m σ) a) (λ t. absurd (step_room m s table (bare_of m σ) f a e t (subst⁻¹ (NoRoom m s) (mean_bare m σ) g))) (λ n. n)

-- ---- a run, and a step, whose next step is full

same-act : (x : Option Action) (a b : Action) → x ≡ Some b → x ≡ Some a → b ≡ a
same-act x a b h g = cc

module _ (k : Task) (σ : Conf) (f : EngineFits k.machine σ) (a : Action) (reads : entry (table_in k) (held_by k σ) ≡ Some a)
    (going : Judged k (held_by k σ) (out_of_fuel_at (held_by k σ))) (lacks : roomy_of σ a ≡ false) where
  pub full_ends : (fuel : ℕ) → run_of k (suc fuel) σ ≡ full_end σ
  unfolding run_of run_with
  full_ends fuel = by (look_sees k σ f)
    where
      on : Action → End
      on b = pick (roomy_of σ b) (pick (matches k.rule σ.sim.state) (stopped_end (step_of σ b)) (run_of k fuel (step_of σ b))) (full_end σ)

      by : {l : Look} → Sees k (held_by k σ) l → on_look l (halted_end σ) (never_end σ) on ≡ full_end σ
      by (no_entry h) = absurd (not_defined _ a h reads)
      by (loops p t v) = let e = verdict_unique _ _ _ _ _ v going in let z : ◌≡◌ {A = ℕ} 0 1 = cc in absurd (omega arith)
      by (goes_on b e u) = let q : b ≡ a = same-act (entry (table_in k) (held_by k σ)) a b e reads in pick_false _ _ _ (ap (roomy_of σ) q ∙ lacks)

-- the step makes no never test
pub full_once : (m : Machine) (s : List ℕ) (σ : Conf) → EngineFits m σ → (a : Action) → entry (table_of m s) (config_of m σ) ≡ Some a → roomy_of σ a ≡ false
    → once_of m s σ ≡ once σ Step.Full
unfolding once_of
full_once m s σ f a reads lacks = by (look_sees (task m s false None) σ f)
  where
    by : {l : Look} → Sees (task m s false None) (config_of m σ) l
        → on_look l (once σ Step.Halted) (λ p. once σ Step.Halted) (λ b. pick (roomy_of σ b) (once (step_of σ b) Step.Running) (once σ Step.Full)) ≡ once σ Step.Full
    by (no_entry h) = absurd (not_defined _ a h reads)
    by (loops p t v) = absurd (clash t refl)
    by (goes_on b e u) = let q : b ≡ a = same-act (entry (table_of m s) (config_of m σ)) a b e reads in pick_false _ _ _ (ap (roomy_of σ) q ∙ lacks)

-- a step that answers full has changed nothing
pub once_full : (m : Machine) (s : List ℕ) (σ : Conf) → (once_of m s σ).status ≡ Step.Full → (once_of m s σ).at ≡ σ
unfolding once_of
once_full m s σ = by (look_with m s false σ)
  where
    Same : Once → Type 0
    Same o = o.status ≡ Step.Full → o.at ≡ σ

    by : (l : Look) → Same (on_look l (once σ Step.Halted) (λ p. once σ Step.Halted) (λ a. pick (roomy_of σ a) (once (step_of σ a) Step.Running) (once σ Step.Full)))
    by Halt = λ e. refl
    by (Never p) = λ e. refl
    by (Go a) = pick_cases (roomy_of σ a) _ _ Same (λ t e. let z : ◌≡◌ {A = ℕ} 0 1 = cc in absurd (omega arith)) (λ t e. refl)

-- ---- a verdict that is out of fuel

pub fuel_verdict : (t : ℕ) (d : Table) (c : Config) (o : Outcome) → Verdict t d c o → (n : ℕ) → o ≡ OutOfFuel n → Verdict t d c (out_of_fuel_at c) × (c.steps ≡ n)
fuel_verdict t d c o (halts h) n e = let z : ◌≡◌ {A = ℕ} 0 1 = cc in absurd (omega arith)
fuel_verdict t d c o (stays a h s) n e = let z : ◌≡◌ {A = ℕ} 0 1 = cc in absurd (omega arith)
fuel_verdict t d c o (walks a x h w) n e = let z : ◌≡◌ {A = ℕ} 0 1 = cc in absurd (omega arith)
fuel_verdict t d c o (goes a h s w) n e = (goes a h s w, cc)
