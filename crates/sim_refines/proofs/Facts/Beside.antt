-- Two engines side by side that differ only past the tapes' lengths run and step alike. Assumes nothing.
use Rattle.std.specs.Prelude.{◌≡◌, refl, Bool, true, false, List, eqb, None, Option, Some}
use Rattle.std.proofs.Math.Path.{ap, subst⁻¹}
use Rattle.std.proofs.Common.{◌∙◌}
use Prim.Native.Nat.{ℕ, ◌+◌}
use Rattle.notation.specs.Choice.{pick, both}
use Rattle.symbol.specs.declared.State.{State}
use Rattle.symbol.specs.declared.Dir.{Dir}
use Rattle.outcome.specs.declared.NonHaltProof.TheVariants.{StayLoop, ChainToInfinity}
use Rattle.outcome.specs.declared.Status.TheVariants as Step
use Rattle.machine.specs.declared.Machine.{Machine}
use Rattle.machine.specs.declared.Action.{Action}
use Rattle.tape.specs.Model.Moves.{Held, read_of}
use Rattle.tape.specs.Fits.{TapeSafe}
use Rattle.tape.proofs.Facts.Moves.{act_safe}
use Rattle.tape.specs.Model.Questions.{blank_beyond}
use Rattle.run_checks.specs.declared.inner.look.Look.{Look}
use Rattle.run_checks.specs.declared.inner.look.Look.TheVariants.{Halt, Never, Go}
use Rattle.run_rules.specs.Simulation.{Simulation}
use Rattle.run_rules.proofs.Facts.Simulation.{run_related}
use Rattle.sim.specs.Model.Engine.{Task, Conf, tape0, tape1, tape2, End, end, on_look, stays_all, loop_of, judge_of, look_on, entry_of, look_with, matches, rooms_of, roomy_of, step_of, steps_of, run_of, Once, once, once_of}
use Rattle.sim_refines.proofs.Facts.LiveCells.{Alike, alike_reads, read_same, beyond_same, act_alike}

-- ---- two engines side by side: all three tapes are alike, and safe

pub record Beside (σ τ : Conf) : Type 0 where
  pub state : σ.sim.state ≡ τ.sim.state
  pub steps : σ.sim.steps ≡ τ.sim.steps
  pub alike0 : Alike (tape0 σ) (tape0 τ)
  pub alike1 : Alike (tape1 σ) (tape1 τ)
  pub alike2 : Alike (tape2 σ) (tape2 τ)
  pub safe0 : TapeSafe τ.sim.t0 τ.c0
  pub safe1 : TapeSafe τ.sim.t1 τ.c1
  pub safe2 : TapeSafe τ.sim.t2 τ.c2

read_alike : (g h : Held) → Alike g h → read_of g ≡ read_of h
read_alike g h a = alike_reads read_of g h a (read_same h.tape g.cells h.cells a.cells)

-- besides the symbols read, a look depends only on whether the cells beyond the head are blank
look_on_same : (x : Option Action) (p : Bool) (tapes : ℕ) (q : State) (r0 r1 r2 : ℕ) (g h : Held) → ((d : Dir) → blank_beyond g d ≡ blank_beyond h d)
    → look_on x p tapes q r0 r1 r2 g ≡ look_on x p tapes q r0 r1 r2 h
unfolding look_on judge_of loop_of
look_on_same None p tapes q r0 r1 r2 g h e = refl
look_on_same (Some a) p tapes q r0 r1 r2 g h e =
    ap (λ (b : Bool). pick (both p (eqb a.next.0 q.0))
    (pick (stays_all a r0 r1 r2) (Never (StayLoop q)) (pick (both (eqb tapes 1) (both (eqb r0 0) b)) (Never (ChainToInfinity q a.dir0)) (Go a)))
    (Go a)) (e a.dir0)

module _ (σ τ : Conf) (b : Beside σ τ) where
  look_same : (m : Machine) (s : List ℕ) (p : Bool) → look_with m s p σ ≡ look_with m s p τ
  unfolding look_with
  look_same m s p =
      look_on_same _ p m.tapes σ.sim.state _ _ _ (tape0 σ) (tape0 τ)
      (λ d. alike_reads (λ h. blank_beyond h d) (tape0 σ) (tape0 τ) b.alike0 (beyond_same τ.sim.t0 σ.c0 τ.c0 b.alike0.cells b.safe0.ok.head_in d))
      ∙ (λ i. let r0 : ℕ = read_alike (tape0 σ) (tape0 τ) b.alike0 i in
      let r1 : ℕ = read_alike (tape1 σ) (tape1 τ) b.alike1 i in
      let r2 : ℕ = read_alike (tape2 σ) (tape2 τ) b.alike2 i in
      look_on (entry_of m s (b.state i) r0 r1 r2) p m.tapes (b.state i) r0 r1 r2 (tape0 τ))

  roomy_same : (a : Action) → roomy_of σ a ≡ roomy_of τ a
  roomy_same a = λ i. rooms_of (b.alike0.numbers i) (b.alike1.numbers i) (b.alike2.numbers i) (b.alike0.room i) (b.alike1.room i) (b.alike2.room i) a

  step_beside : (a : Action) → Beside (step_of σ a) (step_of τ a)
  unfolding step_of
  step_beside a = record {
    state = refl;
    steps = ap (λ n. n + 1) b.steps;
    alike0 = act_alike (tape0 σ) (tape0 τ) b.alike0 b.safe0.ok.len_in _ _;
    alike1 = act_alike (tape1 σ) (tape1 τ) b.alike1 b.safe1.ok.len_in _ _;
    alike2 = act_alike (tape2 σ) (tape2 τ) b.alike2 b.safe2.ok.len_in _ _;
    safe0 = act_safe (tape0 τ) _ _ b.safe0;
    safe1 = act_safe (tape1 τ) _ _ b.safe1;
    safe2 = act_safe (tape2 τ) _ _ b.safe2;
  }

-- ---- a run and a step

pub record SameEnd (x y : End) : Type 0 where
  pub outcome : x.outcome ≡ y.outcome
  pub at : Beside x.at y.at

module _ (k : Task) where
  beside : Simulation (steps_of k) (steps_of k) Beside
  beside = record {
    state = λ σ τ b. b.state;
    steps = λ σ τ b. b.steps;
    look = λ σ τ b. look_same σ τ b k.machine k.table k.proves;
    roomy = λ σ τ b a. roomy_same σ τ b a;
    stops = λ σ τ b i. matches k.rule (b.state i);
    step = λ σ τ b a r. step_beside σ τ b a;
  }

  pub run_beside : (f : ℕ) (σ τ : Conf) → Beside σ τ → SameEnd (run_of k f σ) (run_of k f τ)
  unfolding run_of
  run_beside = run_related (steps_of k) (steps_of k) Beside beside end end SameEnd (λ σ τ o b. record { outcome = refl; at = b })

pub record SameOnce (x y : Once) : Type 0 where
  pub status : x.status ≡ y.status
  pub at : Beside x.at y.at

pub once_beside : (m : Machine) (s : List ℕ) (σ τ : Conf) → Beside σ τ → SameOnce (once_of m s σ) (once_of m s τ)
unfolding once_of pick
once_beside m s σ τ b = subst⁻¹ (λ x. SameOnce (on σ x) (on τ (look_with m s false τ))) (look_same σ τ b m s false) (by (look_with m s false τ))
  where
    goes : Conf → Action → Bool → Once
    goes σ a roomy = pick roomy (once (step_of σ a) Step.Running) (once σ Step.Full)

    on : Conf → Look → Once
    on σ x = on_look x (once σ Step.Halted) (λ p. once σ Step.Halted) (λ a. goes σ a (roomy_of σ a))

    go : (a : Action) (roomy : Bool) → SameOnce (goes σ a roomy) (goes τ a roomy)
    go a true = record { status = refl; at = step_beside σ τ b a }
    go a false = record { status = refl; at = b }

    by : (x : Look) → SameOnce (on σ x) (on τ x)
    by Halt = record { status = refl; at = b }
    by (Never p) = record { status = refl; at = b }
    by (Go a) = subst⁻¹ (λ e. SameOnce e (goes τ a (roomy_of τ a))) (ap (goes σ a) (roomy_same σ τ b a)) (go a (roomy_of τ a))
