-- The run-length engine's tape by position: where a position lies from the head, its symbol, and that the code finds this symbol. Assumes nothing.
use Rattle.std.specs.Prelude.{◌≡◌, refl, ℕ, zero, suc, ◌+◌, ◌-◌, ◌≤◌, ◌^◌, eqb, ltb, ℤ, pos, negsuc}
use Rattle.std.proofs.Math.Path.{sym}
use Rattle.std.proofs.Common.{ap, ◌∙◌, arith}
use borrow.Author.Tests.{eqb-true, eqb-false, ltb-true, ltb-false}
use Rattle.notation.specs.Position.{◌⊖◌, up, dn}
use Rattle.notation.proofs.Facts.Position.{ints, diff-⊖}
use Rattle.notation.proofs.Facts.Tests.{pick_cases}
use Rattle.symbol.specs.Model.{raised_of}
use Rattle.machine.specs.declared.Machine.{Machine}
use Rattle.rle_stack.specs.Model.{Side, cells_of}
use Rattle.rle.specs.Model.Engine.{Conf, left_of, right_of}
use Rattle.rle.specs.Model.Questions.{raised_cell, cell_on}
use Rattle.rle_refines.specs.Meaning.{stack_of, Stream, stream_of, distance, look, tape_of, ChainFits}
use Rattle.rle_refines.proofs.Facts.Sides.{total_is}
use Rattle.rle_refines.proofs.Facts.Tape.{diff-distance, cell_left, cell_right}
use Rattle.rle_refines.proofs.Facts.MacroStep.{read_held}
use Rattle.rle_refines.proofs.Facts.SideCells.{cell_at_lem, past_cells}

-- past the live runs of a side all cells are blank
pub side_past : (x : Side) (d : ℕ) → cells_of x ≤ d → stream_of x d ≡ 0
side_past x d l = past_cells (stack_of x) d (omega (arith, total_is x.symbols x.lengths x.count))

-- position z is the head's, or lies d + 1 cells to one side; the last index is its symbol
pub data Seen (l : Stream) (c : ℕ) (r : Stream) (h : ℕ) (z : ℤ) : ℕ → Type 0 where
  here : up z + 2 ^ 63 ≡ h + dn z → Seen l c r h z c
  leftward : (d : ℕ) → up z + 2 ^ 63 + suc d ≡ h + dn z → Seen l c r h z (l d)
  rightward : (d : ℕ) → up z + 2 ^ 63 ≡ h + suc d + dn z → Seen l c r h z (r d)

module _ (σ : Conf) where
  abbrev pub left : Stream
  left = stream_of (left_of σ)

  abbrev pub right : Stream
  right = stream_of (right_of σ)

  abbrev pub cur : ℕ
  cur = σ.sim.tape.cur

  abbrev pub head : ℕ
  head = σ.sim.tape.head

  abbrev pub SeenAt : ℤ → ℕ → Type 0
  SeenAt z x = Seen left cur right head z x

  pub seen : (z : ℤ) → SeenAt z ((tape_of σ).cell z)
  seen z = by (distance (head ⊖ 2 ^ 63) z) refl
    where
      by : (k : ℤ) → distance (head ⊖ 2 ^ 63) z ≡ k → SeenAt z (look left cur right k)
      by (pos zero) e = here (omega (ints, diff-distance (head ⊖ 2 ^ 63) z, diff-⊖ head (2 ^ 63)))
      by (pos (suc d)) e = rightward d (omega (ints, diff-distance (head ⊖ 2 ^ 63) z, diff-⊖ head (2 ^ 63)))
      by (negsuc d) e = leftward d (omega (ints, diff-distance (head ⊖ 2 ^ 63) z, diff-⊖ head (2 ^ 63)))

  module _ (z : ℤ) where
    pub at_head : up z + 2 ^ 63 ≡ head + dn z → (tape_of σ).cell z ≡ cur
    at_head e =
        let q : z ≡ head ⊖ 2 ^ 63 = omega (ints, diff-⊖ head (2 ^ 63)) in
        ap (λ y. (tape_of σ).cell y) q ∙ read_held σ

    pub at_left : (d : ℕ) → up z + 2 ^ 63 + suc d ≡ head + dn z → (tape_of σ).cell z ≡ left d
    at_left d e =
        let q : z ≡ head ⊖ (2 ^ 63 + suc d) = omega (ints, diff-⊖ head (2 ^ 63 + suc d)) in
        ap (λ y. (tape_of σ).cell y) q ∙ cell_left left right cur head σ.sim.lowest σ.sim.highest d

    pub at_right : (d : ℕ) → up z + 2 ^ 63 ≡ head + suc d + dn z → (tape_of σ).cell z ≡ right d
    at_right d e =
        let q : z ≡ (head + suc d) ⊖ 2 ^ 63 = omega (ints, diff-⊖ (head + suc d) (2 ^ 63)) in
        ap (λ y. (tape_of σ).cell y) q ∙ cell_right left right cur head σ.sim.lowest σ.sim.highest d

  -- the furthest cell to the left has a position of 64 bits
  pub left_in : (m : Machine) → ChainFits m σ → cells_of (left_of σ) ≤ head
  left_in m f = omega (arith, f.left_far, f.steps_in)

  -- the code finds the tape's cell, for any engine value
  pub cell_is : (p : ℕ) → raised_cell σ p ≡ (tape_of σ).cell (p ⊖ 2 ^ 63)
  unfolding raised_cell cell_on
  cell_is p = pick_cases (eqb p head) cur _ (λ x. x ≡ (tape_of σ).cell (p ⊖ 2 ^ 63))
      (λ t. sym (at_head (p ⊖ 2 ^ 63) (omega (arith, diff-⊖ p (2 ^ 63), eqb-true p head t))))
      (λ t. let n = eqb-false p head t in
      pick_cases (ltb p head) _ _ (λ x. x ≡ (tape_of σ).cell (p ⊖ 2 ^ 63))
      (λ u. cell_at_lem _ _ _ (head - p - 1) ∙ sym (at_left (p ⊖ 2 ^ 63) (head - p - 1) (omega (arith, diff-⊖ p (2 ^ 63), ltb-true p head u))))
      (λ u. cell_at_lem _ _ _ (p - head - 1) ∙ sym (at_right (p ⊖ 2 ^ 63) (p - head - 1) (omega (arith, diff-⊖ p (2 ^ 63), ltb-false p head u, n)))))

  -- the same for a position z of 64 bits
  pub raised_is : (z : ℤ) → dn z ≤ 2 ^ 63 → raised_cell σ (raised_of z) ≡ (tape_of σ).cell z
  raised_is z low =
      let e : raised_of z ⊖ 2 ^ 63 ≡ z = omega (ints, diff-⊖ (raised_of z) (2 ^ 63)) in
      cell_is (raised_of z) ∙ ap (λ y. (tape_of σ).cell y) e
