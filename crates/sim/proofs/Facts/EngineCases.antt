-- The look, the step and the run, one fact for each way through the code. Assumes nothing.
use Rattle.std.specs.Prelude.{◌≡◌, refl, Bool, true, false, List, ℕ, ◌+◌, ◌-◌, eqb, Some}
use Rattle.std.proofs.Common.{ap, ◌∙◌, eq-eqb}
use Rattle.notation.specs.Choice.{pick}
use Rattle.notation.proofs.Facts.Tests.{both_split}
use Rattle.outcome.specs.declared.NonHaltProof.{NonHaltProof}
use Rattle.machine.specs.declared.Machine.{Machine}
use Rattle.machine.specs.declared.Action.{Action}
use Rattle.tape.specs.declared.Tape.{Tape}
use Rattle.tape.specs.Model.Moves.{held, room_for, act_of}
use Rattle.sim.specs.declared.Simulator.{Simulator}
pub use Rattle.run_checks.proofs.Facts.LookCases.{entry_is}
use Rattle.run_checks.specs.declared.inner.look.Look.{Look}
use Rattle.run_rules.proofs.Facts.RunCases as Course
use Rattle.run_checks.specs.declared.inner.look.Look.TheVariants.{Halt, Never, Go}
use Rattle.sim.specs.Model.Engine.{Task, Conf, conf, look_with, look_of, rooms_of, roomy_of, step_of, matches, End, end, halted_end, never_end, fuel_end, full_end, stopped_end, task, steps_of, run_with, run_of, Once, once, once_of, status_of}

-- ---- the step

pub stepped : (v : Simulator) (c0 c1 c2 d0 d1 d2 : List ℕ) (a : Action) (u0 u1 u2 : Tape)
    → held u0 d0 ≡ act_of (held v.t0 c0) a.write0.0 a.dir0 → held u1 d1 ≡ act_of (held v.t1 c1) a.write1.0 a.dir1
    → held u2 d2 ≡ act_of (held v.t2 c2) a.write2.0 a.dir2
    → conf (record { state = a.next; steps = v.steps + 1; t0 = u0; t1 = u1; t2 = u2 }) d0 d1 d2 ≡ step_of (conf v c0 c1 c2) a
unfolding step_of
stepped v c0 c1 c2 d0 d1 d2 a u0 u1 u2 p0 p1 p2 =
    λ i. conf (record { state = a.next; steps = v.steps + 1; t0 = (p0 i).tape; t1 = (p1 i).tape; t2 = (p2 i).tape }) (p0 i).cells (p1 i).cells (p2 i).cells

pub rooms_each : (v : Simulator) (n0 n1 n2 : ℕ) (a : Action) → rooms_of v.t0 v.t1 v.t2 n0 n1 n2 a ≡ true
    → (room_for v.t0 n0 a.dir0 ≡ true) × (room_for v.t1 n1 a.dir1 ≡ true) × (room_for v.t2 n2 a.dir2 ≡ true)
unfolding rooms_of
rooms_each v n0 n1 n2 a r =
    let p = both_split r in
    let q = both_split p.1 in
    (p.0, q.0, q.1)

-- ---- one turn of the run, where x is the end of the run

module _ (k : Task) (σ : Conf) (x : End) where
  pub run_halt : (f : ℕ) → look_of k σ ≡ Halt → run_of k f σ ≡ x → halted_end σ ≡ x
  unfolding run_of
  run_halt f e p = Course.run_halt (steps_of k) end σ x f e p

  pub run_never : (f : ℕ) (n : NonHaltProof) → look_of k σ ≡ Never n → run_of k f σ ≡ x → never_end σ n ≡ x
  unfolding run_of
  run_never f n e p = Course.run_never (steps_of k) end σ x f n e p

  module _ (a : Action) (go : look_of k σ ≡ Go a) where
    pub run_fuel : (f : ℕ) → f ≡ 0 → run_of k f σ ≡ x → fuel_end σ ≡ x
    unfolding run_of
    run_fuel f z p = Course.run_fuel (steps_of k) end σ x a go f z p

    pub run_full : (f : ℕ) → (f ≡ 0 → ⊥) → roomy_of σ a ≡ false → run_of k f σ ≡ x → full_end σ ≡ x
    unfolding run_of
    run_full f n r p = Course.run_full (steps_of k) end σ x a go f n r p

    pub run_last : (f : ℕ) → (f ≡ 0 → ⊥) → roomy_of σ a ≡ true → matches k.rule σ.sim.state ≡ true → run_of k f σ ≡ x → stopped_end (step_of σ a) ≡ x
    unfolding run_of
    run_last f n r s p = Course.run_last (steps_of k) end σ x a go f n r s p

    pub run_next : (f : ℕ) → (f ≡ 0 → ⊥) → roomy_of σ a ≡ true → matches k.rule σ.sim.state ≡ false → run_of k f σ ≡ x → run_of k (f - 1) (step_of σ a) ≡ x
    unfolding run_of
    run_next f n r s p = Course.run_next (steps_of k) end σ x a go f n r s p

-- ---- one step

abbrev once_end : End → Once
once_end x = once x.at (status_of x.outcome)

-- a run that stops after a step from this state is one step
pub once-run : (m : Machine) (s : List ℕ) (σ : Conf) (x : End) → x ≡ run_of (task m s false (Some σ.sim.state)) 1 σ
    → once x.at (status_of x.outcome) ≡ once_of m s σ
unfolding once_of run_of run_with pick matches
once-run m s σ x e = ap once_end e ∙ look (look_with m s false σ) refl
  where
    stops : eqb σ.sim.state.0 σ.sim.state.0 ≡ true
    stops = eq-eqb σ.sim.state.0 σ.sim.state.0 refl

    rooms : (a : Action) → look_with m s false σ ≡ Go a → (r : Bool) → roomy_of σ a ≡ r → once_end (run_of (task m s false (Some σ.sim.state)) 1 σ) ≡ once_of m s σ
    rooms a l true r = simp (l, r, stops)
    rooms a l false r = simp (l, r)

    look : (l : Look) → look_with m s false σ ≡ l → once_end (run_of (task m s false (Some σ.sim.state)) 1 σ) ≡ once_of m s σ
    look Halt l = simp l
    look (Never p) l = simp l
    look (Go a) l = rooms a l (roomy_of σ a) refl
