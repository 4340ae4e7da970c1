-- Tapes that the machine lacks: their fields are 0 while the engine runs, and the caller's own afterwards. The configuration held is the same, and
-- a value that fits by the operations' check fits by the theorem's definition. Assumes nothing.
use Rattle.std.specs.Prelude.{◌≡◌, refl, Bool, true, false, List, ℕ}
use Rattle.std.proofs.Common.{sym, subst, arith, leb-true, ltb-true, le-ltb, lt-ltb, le-leb}
use Rattle.notation.specs.Choice.{pick}
use Rattle.notation.proofs.Facts.Tests.{both_split, both_true, pick_cases, pick_true, pick_false}
use Rattle.machine.specs.declared.Machine.{Machine}
use Rattle.tape.specs.declared.Tape.{Tape}
use Rattle.tape.specs.Model.Moves.{held, no_tape}
use Rattle.tape.specs.Fits.{tape_fits}
use Rattle.tape.proofs.Facts.Fits.{fits_says, fits_holds}
use Rattle.sim.specs.Model.Engine.{Conf, conf, tape0, tape1, tape2}
use Rattle.sim.specs.Model.Operations.{if_has, bare_sim, bare_of, hand_back, back_of, sim_fits}
use Rattle.sim_refines.specs.Meaning.{tape_of, has, tape_if, config_of, FitsIf, EngineFits}
use Rattle.sim_refines.specs.Statement.{Kept}
use Rattle.sim_refines.specs.Operations.{HandedBack}

-- ---- the configuration held

bare_if : (has : Bool) (t : Tape) (c : List ℕ) → tape_if has (held (pick has t no_tape) c) ≡ tape_if has (held t c)
unfolding pick
bare_if true t c = refl
bare_if false t c = refl

pub config_bare : (m : Machine) (σ : Conf) → config_of m (bare_of m σ) ≡ config_of m σ
unfolding bare_sim
config_bare m σ = λ i. record {
  state = σ.sim.state.0;
  steps = σ.sim.steps;
  tape0 = tape_of (held σ.sim.t0 σ.c0);
  tape1 = bare_if (has m 1) σ.sim.t1 σ.c1 i;
  tape2 = bare_if (has m 2) σ.sim.t2 σ.c2 i;
}

back_if : (has : Bool) (t u : Tape) (c : List ℕ) (k : ℕ) → FitsIf has k (held u c) → pick has (pick has u t) no_tape ≡ u
unfolding pick
back_if true t u c k f = refl
back_if false t u c k f = sym f

-- the engine handed back, without the caller's own fields, is the run's end
pub bare_back : (m : Machine) (σ e : Conf) → EngineFits m e → bare_of m (back_of m σ e) ≡ e
unfolding bare_sim hand_back
bare_back m σ e f = λ i. conf (record {
  state = e.sim.state;
  steps = e.sim.steps;
  t0 = e.sim.t0;
  t1 = back_if (has m 1) σ.sim.t1 e.sim.t1 e.c1 m.symbols f.fits1 i;
  t2 = back_if (has m 2) σ.sim.t2 e.sim.t2 e.c2 m.symbols f.fits2 i;
}) e.c0 e.c1 e.c2

-- where no step was made, the engine handed back is the caller's
pub back_bare : (m : Machine) (σ : Conf) → back_of m σ (bare_of m σ) ≡ σ
unfolding hand_back bare_sim
back_bare m σ = λ i. conf (record {
  state = σ.sim.state;
  steps = σ.sim.steps;
  t0 = σ.sim.t0;
  t1 = again (has m 1) σ.sim.t1 i;
  t2 = again (has m 2) σ.sim.t2 i;
}) σ.c0 σ.c1 σ.c2
  where
    again : (b : Bool) (t : Tape) → pick b (pick b t no_tape) t ≡ t
    again b t = pick_cases b (pick b t no_tape) t (λ (x : Tape). x ≡ t) (λ z. pick_true b t no_tape z) (λ z. refl)

-- ---- fitting by the check, and fitting by the theorem's definition

fits_if : (has : Bool) (k : ℕ) (t : Tape) (c : List ℕ) → if_has has (tape_fits k t c) ≡ true → FitsIf has k (held (pick has t no_tape) c)
unfolding pick
fits_if true k t c e = fits_says k t c e
fits_if false k t c e = refl

if_fits : (has : Bool) (k : ℕ) (t u : Tape) (c : List ℕ) → FitsIf has k (held u c) → if_has has (tape_fits k (pick has u t) c) ≡ true
unfolding pick
if_fits true k t u c f = fits_holds k u c f
if_fits false k t u c f = refl

pub bare_fits : (m : Machine) (σ : Conf) → sim_fits m σ.sim σ.c0 σ.c1 σ.c2 ≡ true → EngineFits m (bare_of m σ)
unfolding sim_fits bare_sim
bare_fits m σ e =
    let a = both_split e in
    let b = both_split a.1 in
    let c = both_split b.1 in
    let d = both_split c.1 in
    record {
      state_in_holds = ltb-true _ _ a.0;
      steps_in = leb-true _ _ b.0;
      fits0 = fits_says m.symbols σ.sim.t0 σ.c0 c.0;
      fits1 = fits_if (has m 1) m.symbols σ.sim.t1 σ.c1 d.0;
      fits2 = fits_if (has m 2) m.symbols σ.sim.t2 σ.c2 d.1;
    }

pub back_fits : (m : Machine) (σ e : Conf) → EngineFits m e → sim_fits m (back_of m σ e).sim e.c0 e.c1 e.c2 ≡ true
unfolding sim_fits hand_back
back_fits m σ e f =
    both_true (lt-ltb _ _ f.state_in_holds)
    (both_true (le-leb _ _ f.steps_in)
    (both_true (fits_holds m.symbols e.sim.t0 e.c0 f.fits0)
    (both_true (if_fits (has m 1) m.symbols σ.sim.t1 e.sim.t1 e.c1 f.fits1) (if_fits (has m 2) m.symbols σ.sim.t2 e.sim.t2 e.c2 f.fits2))))

-- the converse: an engine that fits without the caller's own fields passes the check with them
pub fits_bare : (m : Machine) (σ : Conf) → EngineFits m (bare_of m σ) → sim_fits m σ.sim σ.c0 σ.c1 σ.c2 ≡ true
fits_bare m σ f = subst (λ (τ : Conf). sim_fits m τ.sim τ.c0 τ.c1 τ.c2 ≡ true) (back_bare m σ) (back_fits m σ (bare_of m σ) f)

pub handed_back_lem : (m : Machine) (σ e : Conf) → Kept m (bare_of m σ) e → HandedBack m σ (back_of m σ e)
unfolding hand_back
handed_back_lem m σ e k = record {
  fits = back_fits m σ e k.fits;
  tape1 = λ l. (pick_false (has m 1) _ _ (le-ltb 1 m.tapes (omega arith)), k.left1 l);
  tape2 = λ l. (pick_false (has m 2) _ _ (le-ltb 2 m.tapes (omega arith)), k.left2 l);
}
