-- The checks of an engine's value: one fact for each return. Assumes nothing.
use Rattle.std.specs.Prelude.{◌≡◌, Bool, true, false, List, ℕ, ◌+◌, ◌-◌, ◌≤◌, ◌<◌, leb, Err, Ok, Result, ⊤}
use Rattle.std.proofs.Common.{sym, ◌∙◌, ap, arith}
use borrow.Author.Tests.{leb-true, leb-false, le-leb, lt-leb, eq-eqb, ne_eqb}
use Rattle.notation.specs.Choice.{pick, both}
use Rattle.notation.proofs.Facts.Tests.{both_split, by_test}
use Rattle.notation.specs.Limits.{steps_most, runs_most, slack, raised_zero}
use Rattle.outcome.specs.declared.Refusal.{Refusal}
use Rattle.outcome.specs.declared.Refusal.TheVariants as Why
use Rattle.machine.specs.declared.Machine.{Machine}
use Rattle.machine.specs.Model.Check.{table_check}
use Rattle.run_checks.specs.Model.Sizes.{fuel_fits}
use Rattle.rle_stack.specs.Model.{places_of, cells_of}
use Rattle.rle.specs.declared.ChainSim.{ChainSim}
use Rattle.rle.specs.Model.Engine.{Conf, conf, left_of, right_of}
use Rattle.rle_counts.proofs.Facts.SumCases.{measured, measured_fits, sides_left, sides_right, sides_near}
use Rattle.rle.specs.Fits.{head_fits, reach_fits, counts_fit, chain_fits, places_fit, value_check, engine_check, run_check}

-- ---- the value

pub reach-left : (v : ChainSim) (l r : ℕ) → l ≤ v.steps + slack → v.tape.head < raised_zero - (v.steps + slack - l) → false ≡ reach_fits v l r
unfolding reach_fits both
reach-left v l r h f = rw (lt-leb (raised_zero + l) (v.tape.head + v.steps + slack) (omega arith))

pub reach_right : (v : ChainSim) (l r : ℕ) → l ≤ v.steps + slack → r ≤ v.steps + slack → raised_zero - (v.steps + slack - l) ≤ v.tape.head
    → leb v.tape.head (raised_zero + (v.steps + slack - r)) ≡ reach_fits v l r
unfolding reach_fits both
reach_right v l r h k f = same ∙ sym (rw (le-leb (raised_zero + l) (v.tape.head + v.steps + slack) (omega arith)))
  where
    same : leb v.tape.head (raised_zero + (v.steps + slack - r)) ≡ leb (v.tape.head + r) (raised_zero + v.steps + slack)
    same = by_test (leb (v.tape.head + r) (raised_zero + v.steps + slack))
        (λ t. le-leb v.tape.head (raised_zero + (v.steps + slack - r)) (omega (arith, leb-true (v.tape.head + r) (raised_zero + v.steps + slack) t)) ∙ sym t)
        (λ t. lt-leb v.tape.head (raised_zero + (v.steps + slack - r)) (omega (arith, leb-false (v.tape.head + r) (raised_zero + v.steps + slack) t)) ∙ sym t)

module _ (m : Machine) (v : ChainSim) (ls ll rs rl : List ℕ) where
  abbrev at : Conf
  at = conf v ls ll rs rl

  pub fits_counts : (b : Bool) → b ≡ counts_fit m v → b ≡ false → false ≡ chain_fits m at
  unfolding chain_fits both
  fits_counts b p e = rw (← p, e)

  module _ (b : Bool) (p : b ≡ counts_fit m v) (e : b ≡ true) where
    pub fits_head : (c : Bool) → c ≡ head_fits v → c ≡ false → false ≡ chain_fits m at
    unfolding chain_fits both
    fits_head c q f = rw (← p, e, ← q, f)

    module _ (c : Bool) (q : c ≡ head_fits v) (f : c ≡ true) (lp : ℕ) (lq : lp ≡ places_of ls ll) (l : ℕ) (lm : l ≡ measured m.symbols lp (v.steps + slack) (left_of at)) where
      lefts : l ≡ measured m.symbols (places_of ls ll) (v.steps + slack) (left_of at)
      lefts = lm ∙ ap (λ (p : ℕ). measured m.symbols p (v.steps + slack) (left_of at)) lq

      pub fits_left : v.steps + slack < l → false ≡ chain_fits m at
      unfolding chain_fits both
      fits_left h = rw (← p, e, ← q, f) (sides_left m.symbols (places_of ls ll) (places_of rs rl) v.steps (left_of at) (right_of at) _ l lefts h)

      module _ (lh : l ≤ v.steps + slack) (rp : ℕ) (rq : rp ≡ places_of rs rl) (r : ℕ) (rm : r ≡ measured m.symbols rp (v.steps + slack) (right_of at)) where
        rights : r ≡ measured m.symbols (places_of rs rl) (v.steps + slack) (right_of at)
        rights = rm ∙ ap (λ (p : ℕ). measured m.symbols p (v.steps + slack) (right_of at)) rq

        pub fits_right : v.steps + slack < r → false ≡ chain_fits m at
        unfolding chain_fits both
        fits_right h = rw (← p, e, ← q, f) (sides_right m.symbols (places_of ls ll) (places_of rs rl) v.steps (left_of at) (right_of at) _ l lefts lh r rights h)

        pub fits_reach : r ≤ v.steps + slack → (x : Bool) → x ≡ reach_fits v l r → x ≡ chain_fits m at
        unfolding chain_fits both
        fits_reach h x xp =
            let y : l ≡ cells_of (left_of at) = (measured_fits m.symbols (places_of ls ll) (v.steps + slack) (left_of at) l lefts lh).1 in
            let z : r ≡ cells_of (right_of at) = (measured_fits m.symbols (places_of rs rl) (v.steps + slack) (right_of at) r rights h).1 in
            xp ∙ (λ i. reach_fits v (y i) (z i))
            ∙ rw (← p, e, ← q, f) (sides_near m.symbols (places_of ls ll) (places_of rs rl) v.steps (left_of at) (right_of at) _ l lefts lh r rights h)

  -- ---- the checks

  pub value_tapes : (m.tapes ≡ 1 → ⊥) → Err Why.SeveralTapes ≡ value_check m at
  unfolding value_check pick
  value_tapes h = rw (ne_eqb m.tapes 1 h)

  module _ (t : m.tapes ≡ 1) (lp : ℕ) (lq : lp ≡ places_of ls ll) where
    pub value_lefts : runs_most < lp → Err Why.BufferSize ≡ value_check m at
    unfolding value_check places_fit pick both
    value_lefts h = rw (eq-eqb m.tapes 1 t, lt-leb (places_of ls ll) runs_most (omega (arith, lq)))

    module _ (lh : lp ≤ runs_most) (rp : ℕ) (rq : rp ≡ places_of rs rl) where
      pub value_rights : runs_most < rp → Err Why.BufferSize ≡ value_check m at
      unfolding value_check places_fit pick both
      value_rights h = rw (eq-eqb m.tapes 1 t, le-leb (places_of ls ll) runs_most (omega (arith, lq)), lt-leb (places_of rs rl) runs_most (omega (arith, rq)))

      module _ (rh : rp ≤ runs_most) (b : Bool) (bp : b ≡ chain_fits m at) where
        pub value_misfit : b ≡ false → Err Why.Misfit ≡ value_check m at
        unfolding value_check places_fit pick both
        value_misfit e = rw (eq-eqb m.tapes 1 t, le-leb (places_of ls ll) runs_most (omega (arith, lq)), le-leb (places_of rs rl) runs_most (omega (arith, rq)), ← bp, e)

        pub value_passed : b ≡ true → (Ok tt) ≡ value_check m at
        unfolding value_check places_fit pick both
        value_passed e = rw (eq-eqb m.tapes 1 t, le-leb (places_of ls ll) runs_most (omega (arith, lq)), le-leb (places_of rs rl) runs_most (omega (arith, rq)), ← bp, e)

  module _ (s : List ℕ) (r : Result ⊤ Refusal) (checked : r ≡ table_check m s) where
    pub engine_table : (why : Refusal) → r ≡ Err why → Err why ≡ engine_check m s at
    unfolding engine_check
    engine_table why e = rw (← checked, e)

    pub engine_value : (x : Result ⊤ Refusal) → r ≡ Ok tt → x ≡ value_check m at → x ≡ engine_check m s at
    unfolding engine_check
    engine_value x e p = rw (← checked, e) p

  module _ (s : List ℕ) (fuel : ℕ) (r : Result ⊤ Refusal) (checked : r ≡ engine_check m s at) where
    pub run_refused : (why : Refusal) → r ≡ Err why → Err why ≡ run_check m s fuel at
    unfolding run_check
    run_refused why e = rw (← checked, e)

    module _ (passed : r ≡ Ok tt) (b : Bool) (limit : b ≡ fuel_fits v.steps fuel) where
      pub run-over : b ≡ false → Err Why.StepLimit ≡ run_check m s fuel at
      unfolding run_check pick
      run-over e = rw (← checked, passed, ← limit, e)

      pub run_passed : b ≡ true → (Ok tt) ≡ run_check m s fuel at
      unfolding run_check pick
      run_passed e = rw (← checked, passed, ← limit, e)

pub counts_steps : (m : Machine) (v : ChainSim) (b : Bool) → b ≡ counts_fit m v → b ≡ true → v.steps ≤ steps_most
unfolding counts_fit
counts_steps m v b p e = leb-true v.steps steps_most (both_split (both_split (sym p ∙ e)).1).0
