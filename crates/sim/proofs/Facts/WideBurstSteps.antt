-- One ordinary step of a burst on several tapes is one step of the run. Assumes nothing.
use Rattle.std.specs.Prelude.{◌≡◌, Bool, true, false, List, ℕ, ◌+◌, ◌-◌, ◌≤◌, eqb, Option, Some}
use Rattle.std.proofs.Math.Path.{refl, sym}
use Rattle.std.proofs.Common.{ap, ◌∙◌, arith, eqb-true}
use Rattle.std.proofs.lemmas.Bool.{eqb-false}
use Rattle.notation.specs.Choice.{pick, both}
use Rattle.notation.proofs.Facts.Tests.{by_test}
use Rattle.notation.specs.Limits.{steps_most}
use Rattle.symbol.specs.declared.State.{State}
use Rattle.symbol.specs.declared.Dir.{Dir}
use Rattle.symbol.specs.declared.Dir.TheVariants.{L, R, N}
use Rattle.machine.specs.declared.Machine.{Machine}
use Rattle.machine.specs.declared.Action.{Action}
use Rattle.machine.specs.Layout.{stride_of}
use Rattle.tape.specs.Model.Moves.{Held, room_for}
use Rattle.run_checks.specs.declared.inner.look.Look.TheVariants.{Go}
use Rattle.run_checks.specs.Model.Look.{stays, stays_all, judge_of, entry_of}
use Rattle.run_checks.proofs.Facts.LookCases.{look_judged}
use Rattle.sim_burst_wide.specs.declared.inner.WideBurstState.{WideBurstState}
use Rattle.sim_burst_wide.specs.Model.{Moving, SafeAll, WideStep, Walk, here, more, Carried}
use Rattle.sim.specs.declared.Simulator.{Simulator}
use Rattle.sim.specs.Model.Engine.{Task, task, Conf, conf, tape0, tape1, tape2, look_with, look_of, rooms_of, roomy_of, step_of, run_of}
use Rattle.sim.proofs.Facts.EngineCases.{stepped, run_next}
use Rattle.sim.specs.Model.Turns.{RunOk}
use Rattle.sim.proofs.Facts.OrdinaryStep.{go_leaves, go_moves}
use Rattle.sim.specs.Model.Bursts.{Misses, wide_burst_start, into_wide, SameRun}

-- ---- no proved loop

moves_some : (d0 d1 d2 : Dir) (b : Bool) → (d0 ≡ N → d1 ≡ N → d2 ≡ N → ⊥) → both (stays d0) (both (stays d1) (both (stays d2) b)) ≡ false
unfolding stays both
moves_some L d1 d2 b h = refl
moves_some R d1 d2 b h = refl
moves_some N L d2 b h = refl
moves_some N R d2 b h = refl
moves_some N N L b h = refl
moves_some N N R b h = refl
moves_some N N N b h = absurd (h refl refl refl)

not_all : (a : Action) (r0 r1 r2 : ℕ) → Moving a → stays_all a r0 r1 r2 ≡ false
unfolding stays_all
not_all a r0 r1 r2 h = moves_some a.dir0 a.dir1 a.dir2 _ h.moving

judged : (p : Bool) (tapes : ℕ) (q : State) (a : Action) (r0 r1 r2 : ℕ) (h : Held) → (tapes ≡ 1 → ⊥) → (a.next.0 ≡ q.0 → Moving a)
    → Go a ≡ judge_of p tapes q a r0 r1 r2 h
judged p tapes q a r0 r1 r2 h n ordinary = by_test (eqb a.next.0 q.0)
    (λ z. go_moves p tapes q a r0 r1 r2 h (not_all a r0 r1 r2 (ordinary (eqb-true _ _ z))) n)
    (λ z. go_leaves p tapes q a r0 r1 r2 h (eqb-false _ _ z))

-- ---- one step

module _ (m : Machine) (s : List ℕ) (p : Bool) (rule : Option State) (stop stride : ℕ) (several : m.tapes ≡ 1 → ⊥) (stride_is : stride ≡ stride_of m) (miss : Misses rule stop) where
  abbrev job : Task
  job = task m s p rule

  module _ (x y : WideBurstState) (c0 c1 c2 d0 d1 d2 : List ℕ) (b : WideStep s stop m.symbols stride x c0 c1 c2 y d0 d1 d2) (steps : ℕ) where
    abbrev σ : Conf
    σ = conf (into_wide steps x) c0 c1 c2

    looked : look_of job σ ≡ Go b.act
    unfolding look_with entry_of
    looked =
        sym
        (look_judged m s p σ.sim.state (tape0 σ) (tape1 σ) (tape2 σ) _ _ _ (Some b.act) (rw (← stride_is) (sym b.says)) refl refl refl
        b.act (Go b.act) (judged p m.tapes _ b.act _ _ _ _ several b.ordinary) refl)

    roomy : roomy_of σ b.act ≡ true
    unfolding rooms_of room_for pick both
    roomy = simp (b.inside0, b.inside1, b.inside2)

    step_is : conf (into_wide (steps + 1) y) d0 d1 d2 ≡ step_of σ b.act
    step_is =
        (λ i. conf (record { state = record { 0 = b.state_is i }; steps = steps + 1; t0 = y.t0; t1 = y.t1; t2 = y.t2 }) d0 d1 d2)
        ∙ stepped (into_wide steps x) c0 c1 c2 d0 d1 d2 b.act y.t0 y.t1 y.t2 b.acts0 b.acts1 b.acts2

    ran_on : run_of job y.left (conf (into_wide (steps + 1) y) d0 d1 d2) ≡ run_of job x.left σ
    ran_on =
        rw (b.left_is, step_is)
        (run_next job σ _ b.act looked x.left b.fuel roomy (miss.misses x.state b.goes) refl)

  -- ---- a walk

  less : (x : WideBurstState) (c0 c1 c2 : List ℕ) (y : WideBurstState) (d0 d1 d2 : List ℕ) → Walk s stop m.symbols stride x c0 c1 c2 y d0 d1 d2 → y.left ≤ x.left
  less x c0 c1 c2 y d0 d1 d2 here = omega arith
  less x c0 c1 c2 y d0 d1 d2 (more z e0 e1 e2 y' d0' d1' d2' w b) =
      let h : z.left ≤ x.left = less x c0 c1 c2 z e0 e1 e2 w in
      omega (arith, b.left_is)

  pub walked : (x : WideBurstState) (c0 c1 c2 : List ℕ) (y : WideBurstState) (d0 d1 d2 : List ℕ) → Walk s stop m.symbols stride x c0 c1 c2 y d0 d1 d2 → (steps : ℕ)
      → run_of job y.left (conf (into_wide (steps + (x.left - y.left)) y) d0 d1 d2) ≡ run_of job x.left (conf (into_wide steps x) c0 c1 c2)
  walked x c0 c1 c2 y d0 d1 d2 here steps = let z : steps + (x.left - x.left) ≡ steps = omega arith in rw z refl
  walked x c0 c1 c2 y d0 d1 d2 (more z e0 e1 e2 y' d0' d1' d2' w b) steps =
      let h : z.left ≤ x.left = less x c0 c1 c2 z e0 e1 e2 w in
      let f : z.left ≡ 0 → ⊥ = b.fuel in
      let l : y.left ≡ z.left - 1 = b.left_is in
      let n : steps + (x.left - y.left) ≡ steps + (x.left - z.left) + 1 = omega arith in
      rw n (ran_on z y e0 e1 e2 d0 d1 d2 b (steps + (x.left - z.left)) ∙ walked x c0 c1 c2 z e0 e1 e2 w steps)

-- ---- the engine after a burst

pub wide_asks : (m : Machine) (stride : ℕ) (v : Simulator) (c0 c1 c2 : List ℕ) (left : ℕ) (x : WideBurstState) → RunOk m stride v c0 c1 c2 left → x ≡ wide_burst_start v left → SafeAll x c0 c1 c2
wide_asks m stride v c0 c1 c2 left x ok e = rw e (record { safe0 = ok.ok.safe0; safe1 = ok.ok.safe1; safe2 = ok.ok.safe2 })

pub onward_asks : (m : Machine) (s : List ℕ) (stop k stride : ℕ) (v : Simulator) (c0 c1 c2 d0 d1 d2 : List ℕ) (left : ℕ) (x y : WideBurstState) → RunOk m stride v c0 c1 c2 left → x ≡ wide_burst_start v left
    → Carried s stop k stride x c0 c1 c2 y d0 d1 d2 → (v.steps + left ≤ steps_most) × (y.left ≤ left)
onward_asks m s stop k stride v c0 c1 c2 d0 d1 d2 left x y ok e r =
    let l : x.left ≡ left = ap (λ (h : WideBurstState). h.left) e in
    (ok.steps_in, omega (arith, r.less))

module _ (m : Machine) (s : List ℕ) (p : Bool) (stop stride : ℕ) (v v' : Simulator) (c0 c1 c2 d0 d1 d2 : List ℕ) (left left' : ℕ) (x at : WideBurstState) where
  same_run_wide : (m.tapes ≡ 1 → ⊥) → RunOk m stride v c0 c1 c2 left → Carried s stop m.symbols stride (wide_burst_start v left) c0 c1 c2 at d0 d1 d2
      → SameRun m s p stop v c0 c1 c2 left (into_wide (v.steps + (left - at.left)) at) d0 d1 d2 at.left
  same_run_wide several start r = record {
    same = λ rule miss. walked m s p rule stop stride several start.ok.stride_is miss (wide_burst_start v left) c0 c1 c2 at d0 d1 d2 r.walk v.steps;
    okay = λ stride' ok. record {
      ok = record {
        symbols_in = ok.ok.symbols_in;
        stride_is = ok.ok.stride_is;
        stride_in = ok.ok.stride_in;
        safe0 = r.safe.safe0;
        safe1 = r.safe.safe1;
        safe2 = r.safe.safe2;
      };
      steps_in = omega (arith, ok.steps_in, r.less);
    };
    less = r.less;
    lens0 = r.lens0;
    lens1 = r.lens1;
    lens2 = r.lens2;
  }

  pub same_run_several : (m.tapes ≡ 1 → ⊥) → RunOk m stride v c0 c1 c2 left → x ≡ wide_burst_start v left → Carried s stop m.symbols stride x c0 c1 c2 at d0 d1 d2
      → (v' ≡ into_wide (v.steps + (left - at.left)) at) × (left' ≡ at.left) → SameRun m s p stop v c0 c1 c2 left v' d0 d1 d2 left'
  same_run_several several start e r after = rw (after.0, after.1) (same_run_wide several start (rw e at r))
