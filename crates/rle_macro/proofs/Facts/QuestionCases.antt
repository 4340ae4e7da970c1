-- The questions on a tape of two sides, a lemma for each return. Assumes nothing.
use Rattle.std.specs.Prelude.{◌≡◌, ℕ, ◌+◌, ◌-◌, ◌≤◌, ◌<◌, ◌^◌}
use Rattle.std.proofs.Math.Path.{sym}
use Rattle.std.proofs.Common.{◌∙◌, arith}
use borrow.Author.Tests.{lt-ltb, le-ltb, eq-eqb, ne_eqb}
use Rattle.notation.specs.Choice.{pick}
use Rattle.rle_stack.specs.Model.{Side, cell_at, written_of}
use Rattle.rle_macro.specs.Model.Questions.{cell_on, window_on, count_on}

module _ (h c : ℕ) (l r : Side) (p : ℕ) where
  pub cell_head : p ≡ h → c ≡ cell_on h c l r p
  unfolding cell_on pick
  cell_head e = simp (eq-eqb p h e)

  pub cell_left : (p ≡ h → ⊥) → p < h → (x : ℕ) → x ≡ cell_at l (h - p - 1) → x ≡ cell_on h c l r p
  unfolding cell_on pick
  cell_left n b x e = e ∙ sym (rw (ne_eqb p h n, lt-ltb p h b))

  pub cell_right : (p ≡ h → ⊥) → h ≤ p → (x : ℕ) → x ≡ cell_at r (p - h - 1) → x ≡ cell_on h c l r p
  unfolding cell_on pick
  cell_right n b x e = e ∙ sym (rw (ne_eqb p h n, le-ltb p h b))

module _ (h c : ℕ) (l r : Side) (p j : ℕ) where
  pub window_past : p < 18446744073709551616 → 18446744073709551615 - p < j → 0 ≡ window_on h c l r p j
  unfolding window_on pick
  window_past b g = rw (le-ltb (p + j) (2 ^ 64) (omega arith))

  pub window_cell_holds : p < 18446744073709551616 → j ≤ 18446744073709551615 - p → (x : ℕ) → x ≡ cell_on h c l r (p + j) → x ≡ window_on h c l r p j
  unfolding window_on pick
  window_cell_holds b g x e = e ∙ sym (rw (lt-ltb (p + j) (2 ^ 64) (omega arith)))

module _ (c : ℕ) (l r : Side) (a b : ℕ) (ea : a ≡ written_of l) (eb : b ≡ written_of r) where
  pub count_blank : c ≡ 0 → a + b ≡ count_on c l r
  unfolding count_on pick
  count_blank e =
      let z : a + b ≡ written_of l + 0 + written_of r = omega (arith, ea, eb) in
      z ∙ sym (rw (eq-eqb c 0 e))

  pub count_one : (c ≡ 0 → ⊥) → a + 1 + b ≡ count_on c l r
  unfolding count_on pick
  count_one e =
      let z : a + 1 + b ≡ written_of l + 1 + written_of r = omega (arith, ea, eb) in
      z ∙ sym (rw (ne_eqb c 0 e))
