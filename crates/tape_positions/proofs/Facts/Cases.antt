-- Questions about positions, one fact for each path through the code. Assumes nothing.
use Rattle.std.specs.Prelude.{◌≡◌, List, ℕ, ◌+◌, ◌-◌, ◌≤◌, ◌<◌, ◌^◌, min, leb, ltb, ℤ, set, None, Option, Some}
use Rattle.std.proofs.Math.Path.{ap}
use Rattle.std.proofs.Common.{◌∙◌, arith, lt-ltb, le-ltb, ltb-true}
use Rattle.notation.specs.Choice.{pick, both}
use Rattle.notation.specs.Fill.{fill_from}
use Rattle.notation.proofs.Facts.Fill.{fill_next}
use Rattle.notation.specs.Position.{◌⊖◌, up, dn}
use Rattle.notation.proofs.Facts.Position.{diff-⊖}
use Rattle.notation.proofs.Facts.Tests.{both_split, pick_cases}
use Rattle.symbol.specs.Model.{raised_of, index_at, index_of, index_of_raised}
use Rattle.symbol.proofs.Facts.Places.{index_alike}
use Rattle.tape_cells.specs.Model.{reach, found_cell, first_written, last_written}
use Rattle.tape_positions.specs.Model.{cell_at, raised_at, place_of, window_from, window_at, cells_below, last_up_to, first_from}

-- ---- a cell by its position

pub index_reach : (f : Option ℕ) (u d o len n : ℕ) → f ≡ index_at u d o len → len ≤ n → reach f ≤ n
unfolding index_at
index_reach f u d o len n e h = rw e (pick_cases (both (leb d (o + u)) (ltb (o + u - d) len)) (Some (o + u - d)) None (λ g. reach g ≤ n)
    (λ t. omega (arith, ltb-true (o + u - d) len (both_split t).1))
    (λ t. omega arith))

module _ (o len : ℕ) (c : List ℕ) where
  pub cell_at_lem : (y z : ℤ) (f : Option ℕ) (x : ℕ) → x ≡ found_cell c f → f ≡ index_of y o len → y ≡ z → x ≡ cell_at o len c z
  unfolding cell_at
  cell_at_lem y z f x p q e = p ∙ ap (found_cell c) q ∙ ap (λ (v : ℤ). found_cell c (index_of v o len)) e

  module _ (r : ℕ) where
    pub raised_over : 2 ^ 64 ≤ r → 0 ≡ raised_at o len c r
    unfolding raised_at pick
    raised_over g = rw (le-ltb _ _ g)

    pub raised_at_holds : (f : Option ℕ) (x : ℕ) → x ≡ found_cell c f → f ≡ index_of_raised r o len → r < 2 ^ 64 → x ≡ raised_at o len c r
    unfolding raised_at cell_at pick
    raised_at_holds f x p q g =
        let e : index_of_raised r o len ≡ index_of (r ⊖ 2 ^ 63) o len = index_alike r (2 ^ 63) _ _ _ _ (omega (arith, diff-⊖ r (2 ^ 63))) in
        rw (lt-ltb _ _ g) (p ∙ ap (found_cell c) (q ∙ e))

  -- ---- the window

  pub window_turn : (b n j w : ℕ) (out x : List ℕ) → fill_from (place_of o len c b) (n - j) j out ≡ x → j < n
      → w ≡ raised_at o len c (b + j) → fill_from (place_of o len c b) (n - (j + 1)) (j + 1) (set out j w) ≡ x
  window_turn b n j w out x e g p = fill_next (place_of o len c b) n j w out x e g p

  pub window_is : (y z : ℤ) (b : ℕ) (out out₁ : List ℕ) → out₁ ≡ window_from o len c b out → b ≡ raised_of y → y ≡ z → out₁ ≡ window_at o len c z out
  window_is y z b out out₁ p q e = p ∙ ap (λ (v : ℕ). window_from o len c v out) (q ∙ ap raised_of e)

  -- ---- the nearest cell that is not blank

  module _ (b : ℕ) (y z : ℤ) (is : b + dn y ≡ 2 ^ 63 + up y) (same : y ≡ z) where
    below_is : (p : ℕ) → cells_below b (2 ^ 63) p len ≡ cells_below (up z) (dn z) p len
    below_is p =
        let e : p + b - 2 ^ 63 ≡ p + up y - dn y = omega arith in
        ap (λ (n : ℕ). min n len) (e ∙ ap (λ (v : ℤ). p + up v - dn v) same)

    pub last_is : (f : Option ℕ) (n : ℕ) → f ≡ last_written c n → n ≡ cells_below b (2 ^ 63) (o + 1) len → f ≡ last_up_to o len c z
    last_is f n q r = q ∙ ap (last_written c) (r ∙ below_is (o + 1))

    pub first_is : (f : Option ℕ) (n : ℕ) → f ≡ first_written c n len → n ≡ cells_below b (2 ^ 63) o len → f ≡ first_from o len c z
    first_is f n q r = q ∙ ap (λ (m : ℕ). first_written c m len) (r ∙ below_is o)
