-- After an advance an engine still fits, its buffers have the same lengths, and it has made at most as many steps as the fuel. Assumes nothing.
use Rattle.std.specs.Prelude.{◌≡◌, refl, Bool, List, ℕ, ◌+◌, ◌-◌, ◌≤◌, ◌^◌, length, None, Ok}
use Rattle.std.proofs.Common.{ap, ◌∙◌, arith, le-leb}
use Rattle.std.proofs.Math.Bool.{false}
use Rattle.notation.specs.Choice.{pick}
use Rattle.notation.proofs.Facts.Tests.{both_true, pick_cases, pick_true, pick_false}
use Rattle.notation.specs.Limits.{steps_most}
use Rattle.machine.specs.declared.Machine.{Machine}
use Rattle.tape.specs.declared.Tape.{Tape}
use Rattle.tape.specs.Model.Moves.{no_tape}
use Rattle.tape.specs.Fits.{tape_fits}
use Rattle.run_checks.specs.declared.inner.look.Look.{Look}
use Rattle.run_checks.specs.declared.inner.look.Look.TheVariants.{Halt, Never, Go}
use Rattle.sim.specs.Model.Engine.{Task, task, Conf, conf, on_look, halted_end, never_end, fuel_end, look_of, run_with, run_of}
use Rattle.sim.specs.Model.Operations.{has1, has2, sizes_fit, bare_sim, bare_of, hand_back, back_of, value_check, engine_check, fuel_fits, fuel_check, run_check}
use Rattle.sim.proofs.Facts.OperationCases.{Passed, engine_says}
use Rattle.sim_slots.specs.Model.Advance.{ran_from, advance_of}
use Rattle.sim_slots.proofs.Facts.Run.{Keeps, Goes, run_goes}
use Rattle.sim_slots.proofs.Facts.FitCases.{fitted, fits_again}
use Rattle.sim_slots.proofs.Facts.RoundTrip.{check_holds}

-- ---- the run's engine, and what it hands back

bare-keeps : (m : Machine) (s : List ℕ) (σ : Conf) → Passed m s σ → Keeps m (bare_of m σ)
unfolding bare_sim
bare-keeps m s σ p =
    let f = fitted m σ.sim σ.c0 σ.c1 σ.c2 p.fits in
    record {
      state_in_holds = f.state_in_holds;
      fits0 = f.fits0;
      fits1 = λ e. ap (λ (t : Tape). tape_fits m.symbols t σ.c1) (pick_true (has1 m) σ.sim.t1 no_tape e) ∙ f.fits1 e;
      fits2 = λ e. ap (λ (t : Tape). tape_fits m.symbols t σ.c2) (pick_true (has2 m) σ.sim.t2 no_tape e) ∙ f.fits2 e;
      none1 = pick_false (has1 m) σ.sim.t1 no_tape;
      none2 = pick_false (has2 m) σ.sim.t2 no_tape;
    }

back_passed : (m : Machine) (s : List ℕ) (n : ℕ) (σ e : Conf) → Passed m s σ → Goes m n (bare_of m σ) e → σ.sim.steps + n ≤ steps_most → Passed m s (back_of m σ e)
unfolding hand_back bare_sim
back_passed m s n σ e p g l = record {
  table = p.table;
  sizes = (λ i. sizes_fit m (g.length0 i) (g.length1 i) (g.length2 i)) ∙ p.sizes;
  fits = fits_again m (hand_back m.tapes σ.sim e.sim) e.c0 e.c1 e.c2 (record {
    state_in_holds = g.keeps.state_in_holds;
    steps_in = le-leb e.sim.steps steps_most (omega (arith, g.within));
    fits0 = g.keeps.fits0;
    fits1 = λ z. ap (λ (t : Tape). tape_fits m.symbols t e.c1) (pick_true (has1 m) e.sim.t1 σ.sim.t1 z) ∙ g.keeps.fits1 z;
    fits2 = λ z. ap (λ (t : Tape). tape_fits m.symbols t e.c2) (pick_true (has2 m) e.sim.t2 σ.sim.t2 z) ∙ g.keeps.fits2 z;
  });
}

-- ---- a run as an advance makes it

module _ (m : Machine) (s : List ℕ) (proves : Bool) (n : ℕ) (σ : Conf) (p : Passed m s σ) (limit : σ.sim.steps + n ≤ steps_most) where
  went : Goes m n (bare_of m σ) (run_of (task m s proves None) n (bare_of m σ)).at
  went = run_goes (task m s proves None) p.table n (bare_of m σ) (bare-keeps m s σ p)

  pub ran_passed : Passed m s (ran_from m s proves n σ).at
  unfolding ran_from
  ran_passed = back_passed m s n σ _ p went limit

  pub ran_climbs : σ.sim.steps ≤ (ran_from m s proves n σ).at.sim.steps
  unfolding ran_from hand_back bare_sim
  ran_climbs = went.climbs

  pub ran_within : (ran_from m s proves n σ).at.sim.steps ≤ σ.sim.steps + n
  unfolding ran_from hand_back bare_sim
  ran_within = went.within

  pub ran_length0 : length (ran_from m s proves n σ).at.c0 ≡ length σ.c0
  unfolding ran_from
  ran_length0 = went.length0

  pub ran_length1 : length (ran_from m s proves n σ).at.c1 ≡ length σ.c1
  unfolding ran_from
  ran_length1 = went.length1

  pub ran_length2 : length (ran_from m s proves n σ).at.c2 ≡ length σ.c2
  unfolding ran_from
  ran_length2 = went.length2

-- ---- the advance

pub advance_at : (m : Machine) (s : List ℕ) (n : ℕ) (σ : Conf) → (advance_of m s n σ).1 ≡ (ran_from m s false n σ).at
unfolding advance_of
advance_at m s n σ = refl

module _ (m : Machine) (s : List ℕ) (n : ℕ) (σ : Conf) (checked : engine_check m s σ ≡ Ok tt) (limit : σ.sim.steps + n ≤ 2 ^ 62) where
  pub advance_fits : engine_check m s (advance_of m s n σ).1 ≡ Ok tt
  unfolding advance_of
  advance_fits = check_holds m s _ (ran_passed m s false n σ (engine_says m s σ checked) limit)

  pub advance_climbs : σ.sim.steps ≤ (advance_of m s n σ).1.sim.steps
  unfolding advance_of
  advance_climbs = ran_climbs m s false n σ (engine_says m s σ checked) limit

  pub advance_length0 : length (advance_of m s n σ).1.c0 ≡ length σ.c0
  unfolding advance_of
  advance_length0 = ran_length0 m s false n σ (engine_says m s σ checked) limit

  pub advance_length1 : length (advance_of m s n σ).1.c1 ≡ length σ.c1
  unfolding advance_of
  advance_length1 = ran_length1 m s false n σ (engine_says m s σ checked) limit

  pub advance_length2 : length (advance_of m s n σ).1.c2 ≡ length σ.c2
  unfolding advance_of
  advance_length2 = ran_length2 m s false n σ (engine_says m s σ checked) limit

-- ---- a run without fuel leaves the engine as it is

stays_at : (k : Task) (σ : Conf) → (run_of k 0 σ).at ≡ σ
unfolding run_of run_with
stays_at k σ = by (look_of k σ)
  where
    by : (x : Look) → (on_look x (halted_end σ) (never_end σ) (λ a. fuel_end σ)).at ≡ σ
    by Halt = refl
    by (Never p) = refl
    by (Go a) = refl

either : (has : Bool) (t u : Tape) → pick has (pick has t u) t ≡ t
either has t u = pick_cases has (pick has t u) t (λ x. x ≡ t) (λ e. pick_true has t u e) (λ e. refl)

back_bare : (m : Machine) (σ : Conf) → back_of m σ (bare_of m σ) ≡ σ
unfolding hand_back bare_sim
back_bare m σ = λ i. conf (record {
  state = σ.sim.state;
  steps = σ.sim.steps;
  t0 = σ.sim.t0;
  t1 = either (has1 m) σ.sim.t1 no_tape i;
  t2 = either (has2 m) σ.sim.t2 no_tape i;
}) σ.c0 σ.c1 σ.c2

pub no_fuel_at : (m : Machine) (s : List ℕ) (proves : Bool) (σ : Conf) → (ran_from m s proves 0 σ).at ≡ σ
unfolding ran_from
no_fuel_at m s proves σ = ap (back_of m σ) (stays_at (task m s proves None) (bare_of m σ)) ∙ back_bare m σ

-- ---- a run's check, from the engine's check and the step limit

pub run_holds : (m : Machine) (s : List ℕ) (n : ℕ) (σ : Conf) → Passed m s σ → σ.sim.steps + n ≤ steps_most → run_check m s n σ ≡ Ok tt
unfolding run_check fuel_check value_check fuel_fits pick
run_holds m s n σ p l =
    let b = both_true (le-leb n steps_most (omega arith)) (le-leb σ.sim.steps (steps_most - n) (omega arith)) in
    rw (p.table, p.sizes, p.fits, b) refl

-- a checked engine meets what an advance requires
pub advance_asks : (m : Machine) (s : List ℕ) (n : ℕ) (σ : Conf) → engine_check m s σ ≡ Ok tt → σ.sim.steps + n ≤ 2 ^ 62 → run_check m s n σ ≡ Ok tt
advance_asks m s n σ c l = run_holds m s n σ (engine_says m s σ c) l
