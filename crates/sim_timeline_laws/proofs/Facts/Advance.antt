-- An advance of the engine makes all the steps of its meaning, or stops at the first that is full. Assumes nothing.
use Rattle.std.specs.Prelude.{◌≡◌, true, false, List, None}
use Rattle.std.proofs.Math.Path.{refl, subst, subst⁻¹}
use Rattle.std.proofs.Common.{sym, ap, ◌∙◌, add-one, arith}
use Prim.Native.Nat.{ℕ, zero, suc, ◌+◌, ◌≤◌, ◌^◌}
use Rattle.notation.specs.Choice.{pick}
use Rattle.notation.proofs.Facts.Tests.{clash, pick_cases}
use Rattle.notation.specs.Limits.{steps_most}
use Rattle.outcome.specs.declared.Outcome.{Outcome}
use Rattle.machine.specs.declared.Machine.{Machine}
use Rattle.machine.specs.declared.Action.{Action}
use Rattle.table_machine.specs.TableMachine.{Config, Halted, Verdict, halts}
use Rattle.table_machine.specs.Tables.{table_of, TableOf}
use Rattle.run_checks.specs.declared.inner.look.Look.{Look}
use Rattle.sim.specs.Model.Engine.{Task, task, Conf, End, on_look, matches, halted_end, never_end, fuel_end, full_end, stopped_end, roomy_of, step_of, run_with, run_of}
use Rattle.sim.specs.Model.Operations.{bare_sim, bare_of, back_of}
use Rattle.sim.proofs.Facts.OperationCases.{Passed}
use Rattle.sim_refines.specs.Meaning.{config_of, EngineFits}
use Rattle.sim_refines.specs.Statement.{held_by, Sees, no_entry, loops, goes_on}
use Rattle.sim_refines.proofs.Facts.Step.{step_keeps}
use Rattle.sim_refines.proofs.Facts.Look.{look_sees}
use Rattle.sim_refines.proofs.Facts.Run.{verdict_exact}
use Rattle.sim_refines.proofs.Facts.MissingTapes.{bare_fits, bare_back}
use Rattle.timeline_laws.specs.Laws.{Advance}
use Rattle.timeline_laws.proofs.Facts.Advance.{Steps, steps_none, steps_one, steps_halted, advance_after, advance_done, advance_full}
use Rattle.timeline_laws.specs.TableRun.{machine}
use Rattle.timeline_rule.specs.Model.Kind.{verdict_or}
use Rattle.sim_slots.specs.Model.Advance.{ran_from, advance_of}
use Rattle.sim_timeline_laws.specs.Meaning.{Mean, mean_of, next_of, NoRoom}
use Rattle.sim_timeline_laws.proofs.Facts.Step.{step_mean, step_room, step_full, next_halted, halted_room, mean_bare}

module _ (m : Machine) (s : List ℕ) (table : TableOf m (table_of m s)) where
  -- a run without the never test, and one with it
  abbrev quiet : Task
  quiet = task m s false None

  abbrev proving : Task
  proving = task m s true None

  abbrev config_in : Mean → Config
  config_in x = x.config

  -- the law of an advance of n steps that begins with meaning x, answers o and leaves meaning y
  abbrev Goes : ℕ → Mean → Outcome → Mean → Type 0
  Goes n x o y = Advance (machine m s table) Mean config_in (next_of m s) (NoRoom m s) n x o y

  -- a run without the never test leaves an engine that fits, and ends by the law of an advance, where o is the verdict there
  record Ran (n : ℕ) (σ : Conf) (e : End) : Type 0 where
    fits : EngineFits m e.at
    ends : (o : Outcome) → Verdict m.tapes (table_of m s) (config_of m e.at) o → Goes n (mean_of m σ) (verdict_or e.outcome o) (mean_of m e.at)

  -- ---- the three ends of the loop

  module _ (n : ℕ) (σ : Conf) (f : EngineFits m σ) where
    ran_halted : Halted (table_of m s) (config_of m σ) → Ran n σ (halted_end σ)
    unfolding mean_of
    ran_halted h = record {
      fits = f;
      ends = λ o v. advance_done (next_of m s) (NoRoom m s) (machine m s table) config_in n (mean_of m σ) (mean_of m σ) _
          (steps_halted (next_of m s) (NoRoom m s) n (mean_of m σ) (next_halted m s (mean_of m σ) h) (halted_room m s (mean_of m σ) h)) (halts h);
    }

    ran_out : Ran 0 σ (fuel_end σ)
    unfolding mean_of
    ran_out = record {
      fits = f;
      ends = λ o v. advance_done (next_of m s) (NoRoom m s) (machine m s table) config_in 0 (mean_of m σ) (mean_of m σ) o (steps_none (next_of m s) (NoRoom m s) (mean_of m σ)) v;
    }

    ran_full : NoRoom m s (mean_of m σ) → Ran (suc n) σ (full_end σ)
    unfolding mean_of
    ran_full r = record {
      fits = f;
      ends = λ o v. advance_full (next_of m s) (NoRoom m s) (machine m s table) config_in (suc n) (mean_of m σ) _ (omega arith) r refl refl;
    }

  -- ---- a step, and a run from there

  ran_on : (n : ℕ) (σ τ : Conf) (e : End) → mean_of m τ ≡ next_of m s (mean_of m σ) → ¬ NoRoom m s (mean_of m σ) → Ran n τ e → Ran (suc n) σ e
  ran_on n σ τ e q r w = record {
    fits = w.fits;
    ends = λ o v. subst (λ j. Goes j (mean_of m σ) (verdict_or e.outcome o) (mean_of m e.at)) (add-one n)
        (advance_after (next_of m s) (NoRoom m s) (machine m s table) config_in 1 n (mean_of m σ) (mean_of m τ) (mean_of m e.at) (verdict_or e.outcome o)
        (subst⁻¹ (Steps (next_of m s) (NoRoom m s) 1 (mean_of m σ)) q (steps_one (next_of m s) (NoRoom m s) (mean_of m σ) r)) (w.ends o v));
  }

  step_counted : (σ : Conf) (a : Action) → (step_of σ a).sim.steps ≡ σ.sim.steps + 1
  unfolding step_of
  step_counted σ a = refl

  ran : (n : ℕ) (σ : Conf) → EngineFits m σ → σ.sim.steps + n ≤ 2 ^ 62 → Ran n σ (run_of quiet n σ)
  unfolding run_of run_with matches
  ran zero σ f small = by (look_sees quiet σ f)
    where
      by : {x : Look} → Sees quiet (held_by quiet σ) x → Ran 0 σ (on_look x (halted_end σ) (never_end σ) (λ a. fuel_end σ))
      by (no_entry h) = ran_halted 0 σ f h
      by (loops p t v) = absurd (clash t refl)
      by (goes_on a e u) = ran_out 0 σ f
  ran (suc n) σ f small = by (λ a. ran n (step_of σ a)) (look_sees quiet σ f)
    where
      by : ((a : Action) → EngineFits m (step_of σ a) → (step_of σ a).sim.steps + n ≤ 2 ^ 62 → Ran n (step_of σ a) (run_of quiet n (step_of σ a)))
          → {x : Look} → Sees quiet (held_by quiet σ) x
          → Ran (suc n) σ
          (on_look x (halted_end σ) (never_end σ)
          (λ a. pick (roomy_of σ a) (pick (matches None σ.sim.state) (stopped_end (step_of σ a)) (run_of quiet n (step_of σ a))) (full_end σ)))
      by on (no_entry h) = ran_halted (suc n) σ f h
      by on (loops p t v) = absurd (clash t refl)
      by on (goes_on a e u) = pick_cases (roomy_of σ a) _ _ (Ran (suc n) σ)
          (λ r. pick_cases (matches None σ.sim.state) _ _ (Ran (suc n) σ)
          (λ t. absurd (clash t refl))
          (λ t.
          let k = step_keeps m s σ f table a e r (omega arith) in
          ran_on n σ (step_of σ a) _ (step_mean m s table σ f a e r) (step_room m s table σ f a e r) (on a k.fits (omega (arith, step_counted σ a)))))
          (λ r. ran_full n σ f (step_full m s table σ f a e r))

  -- ---- an advance, of an engine that passes the check

  module _ (n : ℕ) (σ : Conf) (p : Passed m s σ) (small : σ.sim.steps + n ≤ steps_most) where
    abbrev ending : End
    ending = run_of quiet n (bare_of m σ)

    abbrev back : Conf
    back = back_of m σ ending.at

    whole : Ran n (bare_of m σ) ending
    unfolding bare_sim
    whole = ran n (bare_of m σ) (bare_fits m σ p.fits) small

    here : bare_of m back ≡ ending.at
    here = bare_back m σ ending.at whole.fits

    judged : Verdict m.tapes (table_of m s) (config_of m ending.at) (run_of proving 0 (bare_of m back)).outcome
    judged = subst⁻¹ (λ τ. Verdict m.tapes (table_of m s) (config_of m ending.at) (run_of proving 0 τ).outcome) here
        ((verdict_exact proving refl ending.at whole.fits (run_of proving 0 ending.at).outcome).1 refl)

    same_mean : mean_of m ending.at ≡ mean_of m back
    same_mean = ap (mean_of m) (sym here) ∙ mean_bare m back

    pub advance_goes : Goes n (mean_of m σ) (advance_of m s n σ).0 (mean_of m (advance_of m s n σ).1)
    unfolding advance_of ran_from
    advance_goes = subst (λ y. Goes n (mean_of m σ) (verdict_or ending.outcome (run_of proving 0 (bare_of m back)).outcome) y) same_mean
        (subst (λ x. Goes n x (verdict_or ending.outcome (run_of proving 0 (bare_of m back)).outcome) (mean_of m ending.at)) (mean_bare m σ)
        (whole.ends (run_of proving 0 (bare_of m back)).outcome judged))
