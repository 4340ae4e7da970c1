-- What the tests of an engine's value say, one by one. Assumes nothing.
use Rattle.std.specs.Prelude.{◌≡◌, Bool, true, List, ℕ, ltb, leb}
use Rattle.std.proofs.Common.{sym, ◌∙◌}
use Rattle.notation.proofs.Facts.Tests.{both_split, both_true, by_test, pick_true, pick_false}
use Rattle.notation.specs.Limits.{steps_most}
use Rattle.machine.specs.declared.Machine.{Machine}
use Rattle.tape.specs.Fits.{tape_fits}
use Rattle.sim.specs.declared.Simulator.{Simulator}
use Rattle.sim.specs.Model.Operations.{has1, has2, if_has, sim_fits}

-- ---- what the tests of an engine say, one by one

pub record Fitted (m : Machine) (v : Simulator) (c0 c1 c2 : List ℕ) : Type 0 where
  pub state_in_holds : ltb v.state.0 m.states ≡ true
  pub steps_in : leb v.steps steps_most ≡ true
  pub fits0 : tape_fits m.symbols v.t0 c0 ≡ true
  pub fits1 : has1 m ≡ true → tape_fits m.symbols v.t1 c1 ≡ true
  pub fits2 : has2 m ≡ true → tape_fits m.symbols v.t2 c2 ≡ true

has_says : (has b : Bool) → if_has has b ≡ true → has ≡ true → b ≡ true
has_says has b h e = sym (pick_true has b true e) ∙ h

has_holds : (has b : Bool) → (has ≡ true → b ≡ true) → if_has has b ≡ true
has_holds has b h = by_test has (λ e. pick_true has b true e ∙ h e) (λ e. pick_false has b true e)

module _ (m : Machine) (v : Simulator) (c0 c1 c2 : List ℕ) where
  pub fitted : sim_fits m v c0 c1 c2 ≡ true → Fitted m v c0 c1 c2
  unfolding sim_fits
  fitted h =
      let a = both_split h in
      let b = both_split a.1 in
      let c = both_split b.1 in
      let d = both_split c.1 in
      record {
        state_in_holds = a.0;
        steps_in = b.0;
        fits0 = c.0;
        fits1 = has_says (has1 m) _ d.0;
        fits2 = has_says (has2 m) _ d.1;
      }

  pub fits_again : Fitted m v c0 c1 c2 → sim_fits m v c0 c1 c2 ≡ true
  unfolding sim_fits
  fits_again f =
      both_true f.state_in_holds
      (both_true f.steps_in (both_true f.fits0 (both_true (has_holds (has1 m) _ f.fits1) (has_holds (has2 m) _ f.fits2))))
