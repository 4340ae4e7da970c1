-- A call on an engine that passes its check leaves an engine that passes its check. Assumes nothing.
use Rattle.outcome.specs.declared.Refusal.{Refusal}
use Rattle.std.specs.Prelude.{◌≡◌, List, eqb, ltb, Err, None, Ok, Option, Result, Some, ⊤}
use Rattle.std.proofs.Math.Path.{refl}
use Prim.Native.Nat.{ℕ, zero, suc, ◌≤◌, max}
use Rattle.std.proofs.Common.{arith, leb-true, ltb-false}
use Rattle.notation.proofs.Facts.Tests.{both_split, pick_cases}
use Rattle.notation.specs.Limits.{steps_most}
use Rattle.outcome.specs.declared.Outcome.{Outcome}
use Rattle.machine.specs.declared.Machine.{Machine}
use Rattle.tape.specs.Fits.{TapeOk}
use Rattle.tape.proofs.Facts.Moves.{fits_safe}
use Rattle.sim.specs.Model.Engine.{Conf}
use Rattle.sim.specs.Model.Operations.{sizes_fit, engine_check}
use Rattle.sim.proofs.Facts.OperationCases.{engine_says}
use Rattle.timeline_rule.specs.Model.Engine.{Ops}
use Rattle.timeline_rule.specs.declared.Call.{Call}
use Rattle.timeline_rule.specs.Model.Timeline.{Reply, target, ended, turned, record_due, stride, advance_to, go_on, from_slot, go_back, stay, go_to, call_check, on_check, call}
use Rattle.timeline_rule.proofs.Facts.Loop.{not_done, strides, Strides}
use Rattle.timeline_rule.specs.Model.Kind.{Kind, TimelineOf, ops_of, call_on}
use Rattle.timeline_rule.specs.Invariants.{Sound, Fits, GoOk, rewind_of}
use Rattle.timeline_rule.proofs.Facts.TurnCases.{moves}
use Rattle.timeline_rule.proofs.Facts.GoCases.{seek_ok, to_low, back_loop}
use Rattle.sim_slots.proofs.Facts.FitCases.{fitted}
use Rattle.sim_slots.specs.Model.Slots.{slot_size}
use Rattle.sim_slots.specs.Model.Kind.{plain_kind}
use Rattle.sim_slots.proofs.Facts.Sound.{plain_sound}

module _ (X : Kind) (m : Machine) (s : List ℕ) (size : ℕ) (Fit : X.State → Type 0) (E : Sound X m s size Fit) where
  abbrev O : Ops Outcome
  O = ops_of X m s size

  way_fits : (gas t : ℕ) (w : TimelineOf X) → Fit w.engine → X.now w.engine ≤ t → t ≤ steps_most → Fit (advance_to O gas t w).1.engine
  unfolding advance_to
  way_fits zero t w f l h = f
  way_fits (suc gas) t w f l h =
      pick_cases (ended t (X.now v.engine) (X.now w.engine)) ((stride O t (record_due O w)).0, v) (advance_to O gas t v) (λ r. Fit r.1.engine)
      (λ q. r.fits) (λ q. way_fits gas t v r.fits (omega (arith, (not_done t (X.now v.engine) (X.now w.engine) q).0)) h)
    where
      v : TimelineOf X
      v = turned O t w

      r : Strides (moves X m s size Fit E) t w
      r = strides (moves X m s size Fit E) t w f l h

  module _ (t : ℕ) (w : TimelineOf X) (ok : GoOk X size Fit t w) where
    on_fits : X.now w.engine ≤ t → Fit (go_on O t w).1.engine
    unfolding go_on
    on_fits l = way_fits _ t w ok.rec.fits l ok.top

    from_fits : (x : Option X.State) → x ≡ rewind_of X m s size t w → Fit (from_slot O t w x).1.engine
    unfolding go_on
    from_fits None e = ok.rec.fits
    from_fits (Some r) e = let l = back_loop X m s size Fit E t w ok r e in way_fits _ t _ l.rec.fits l.below l.top

    to_fits : Fit (go_to O t w).1.engine
    unfolding go_to stay go_back rewind_of
    to_fits = pick_cases {A = Reply Outcome × TimelineOf X} (eqb t (X.now w.engine)) _ _ (λ r. Fit r.1.engine)
        (λ q. E.advance_fits 0 w.engine ok.rec.fits (to_low X m s size Fit E t w ok))
        (λ q. pick_cases (ltb t (X.now w.engine)) (go_back O t w) (go_on O t w) (λ r. Fit r.1.engine)
        (λ q. from_fits _ refl) (λ q. on_fits (ltb-false t (X.now w.engine) q)))

  call_fits : (w : TimelineOf X) (c : Call) → X.check m s w.engine ≡ Ok tt → X.slot_size m w.engine ≡ size → Fit (call O w c).1.engine
  unfolding call
  call_fits w c a z = on (call_check O w t) refl
    where
      t : ℕ
      t = target (X.now w.engine) c

      on : (r : Result ⊤ Refusal) → r ≡ call_check O w t → Fit (on_check O r w (go_to O (max t w.times.first) w)).1.engine
      on (Err why) e = E.accepted w.engine a z
      on (Ok tt) e = to_fits _ w (seek_ok X m s size t w (Ok tt) e Fit E _ refl z refl)

-- ---- over the plain engine

module _ (m : Machine) (s : List ℕ) where
  pub call_kept : (w : TimelineOf plain_kind) (c : Call) → engine_check m s w.engine ≡ Ok tt → engine_check m s (call_on plain_kind m s w c).1.engine ≡ Ok tt
  unfolding call_on
  call_kept w c a = (call_fits plain_kind m s (slot_size m w.engine) (Fits plain_kind m s (slot_size m w.engine)) (plain_sound m s (slot_size m w.engine)) w c a refl).accepted

  -- its tape 0 has its numbers in range
  pub tape_ok_holds : (σ : Conf) → engine_check m s σ ≡ Ok tt → TapeOk σ.sim.t0 σ.c0
  unfolding sizes_fit
  tape_ok_holds σ a =
      let p = engine_says m s σ a in
      (fits_safe m.symbols σ.sim.t0 σ.c0 (fitted m σ.sim σ.c0 σ.c1 σ.c2 p.fits).fits0 (leb-true _ _ (both_split p.sizes).0)).ok
