-- How many cells a side has where it fits, and whether both sides fit. Assumes nothing.
use Rattle.std.specs.Prelude.{◌≡◌, Bool, true, false, ℕ, ◌+◌, ◌≤◌, ◌<◌, min, leb}
use Rattle.std.proofs.Math.Path.{sym}
use Rattle.std.proofs.Common.{◌∙◌, arith}
use borrow.Author.Tests.{leb-true, leb-false, le-leb, lt-leb}
use Rattle.notation.specs.Choice.{pick, both}
use Rattle.notation.proofs.Facts.Tests.{both_split, by_test, pick_true, pick_false}
use Rattle.notation.specs.Limits.{slack}
use Rattle.rle_stack.specs.Model.{Side, runs_fit, cells_of}
use Rattle.rle_counts.specs.Model.Sums.{side_fits, sides_fit}

-- ---- one side

abbrev pub measured : (k p most : ℕ) → Side → ℕ
measured k p most x = pick (side_fits k p most x) (cells_of x) (most + 1)

module _ (k p most : ℕ) (x : Side) where
  pub measure_places : p < x.count → most + 1 ≡ measured k p most x
  unfolding side_fits both pick
  measure_places h = rw (lt-leb x.count p h)

  module _ (h : x.count ≤ p) (b : Bool) (bp : b ≡ runs_fit k x) where
    pub measure_runs : b ≡ false → most + 1 ≡ measured k p most x
    unfolding side_fits both pick
    measure_runs e = rw (le-leb x.count p h, sym bp ∙ e)

    side_is : b ≡ true → side_fits k p most x ≡ leb (cells_of x) most
    unfolding side_fits both
    side_is e = rw (le-leb x.count p h, sym bp ∙ e)

    pub measure_sum : b ≡ true → (r : ℕ) → r ≡ min (cells_of x) (most + 1) → r ≡ measured k p most x
    measure_sum e r q = by_test (leb (cells_of x) most)
        (λ l.
        let z : r ≡ cells_of x = omega (arith, q, leb-true (cells_of x) most l) in
        z ∙ sym (pick_true (side_fits k p most x) (cells_of x) (most + 1) (side_is e ∙ l)))
        (λ l.
        let z : r ≡ most + 1 = omega (arith, q, leb-false (cells_of x) most l) in
        z ∙ sym (pick_false (side_fits k p most x) (cells_of x) (most + 1) (side_is e ∙ l)))

  side_in : side_fits k p most x ≡ true → cells_of x ≤ most
  unfolding side_fits
  side_in t = leb-true (cells_of x) most (both_split (both_split t).1).1

  -- whether the side fits, by its measure
  measured_over : (r : ℕ) → r ≡ measured k p most x → most < r → side_fits k p most x ≡ false
  measured_over r e h = by_test (side_fits k p most x)
      (λ t. absurd (omega (arith, e ∙ pick_true (side_fits k p most x) (cells_of x) (most + 1) t, side_in t)))
      (λ f. f)

  pub measured_fits : (r : ℕ) → r ≡ measured k p most x → r ≤ most → (side_fits k p most x ≡ true) × (r ≡ cells_of x)
  measured_fits r e h = by_test (side_fits k p most x)
      (λ t. (t, e ∙ pick_true (side_fits k p most x) (cells_of x) (most + 1) t))
      (λ f. absurd (omega (arith, e ∙ pick_false (side_fits k p most x) (cells_of x) (most + 1) f)))

-- ---- both sides

module _ (k lp rp steps : ℕ) (x y : Side) (near : Bool) (l : ℕ) (lm : l ≡ measured k lp (steps + slack) x) where
  pub sides_left : steps + slack < l → false ≡ sides_fit k lp rp steps x y near
  unfolding both
  sides_left h = rw (measured_over k lp (steps + slack) x l lm h)

  module _ (lh : l ≤ steps + slack) (r : ℕ) (rm : r ≡ measured k rp (steps + slack) y) where
    pub sides_right : steps + slack < r → false ≡ sides_fit k lp rp steps x y near
    unfolding both
    sides_right h = rw ((measured_fits k lp (steps + slack) x l lm lh).0, measured_over k rp (steps + slack) y r rm h)

    pub sides_near : r ≤ steps + slack → near ≡ sides_fit k lp rp steps x y near
    unfolding both
    sides_near h = rw ((measured_fits k lp (steps + slack) x l lm lh).0, (measured_fits k rp (steps + slack) y r rm h).0)
