-- How many cells of the run-length engine's tape are not blank: those of the runs that are not blank, and the head's if it is not. Assumes nothing.
use Rattle.std.specs.Prelude.{◌≡◌, Bool, ℤ, ◌≤ℤ◌, ◌<ℤ◌}
use Rattle.std.proofs.Math.Path.{ap}
use Rattle.std.proofs.Common.{◌∙◌}
use Prim.Native.Nat.{ℕ, suc, ◌+◌, ◌-◌, ◌≤◌, ◌<◌, ◌^◌}
use native.Mathlib.Omega.{arith}
use Rattle.std.proofs.Math.Dec.{eqb}
use Rattle.notation.specs.Choice.{pick}
use Rattle.notation.specs.Position.{◌⊖◌}
use Rattle.notation.proofs.Facts.Position.{ints, diff-⊖}
use Rattle.notation.specs.ScanDown.{count_fails}
use Rattle.machine.specs.declared.Machine.{Machine}
use Rattle.rle_stack.specs.Model.{cells_of, written_of}
use Rattle.rle.specs.Model.Engine.{Conf, left_of, right_of}
use Rattle.rle.specs.Model.Questions.{count_of, count_on}
use Rattle.rle_refines.specs.Meaning.{tape_of, ChainFits}
use Rattle.rle_refines.proofs.Facts.Cells.{here, leftward, rightward, left, right, SeenAt, seen, at_head, at_left, at_right, side_past, left_in}
use Rattle.rle_refines.proofs.Facts.SideCounts.{count_same, count_add, count_back, blank_in, weight_is}

-- ---- the tape

-- of the n cells from a raised position on, `count` are not blank; every other cell is blank
pub record CountedIn (cell : ℤ → ℕ) (from n count : ℕ) : Type 0 where
  pub inside : count_fails (λ i. eqb (cell ((from + i) ⊖ 2 ^ 63)) 0) n ≡ count
  pub below : (z : ℤ) → z <ℤ (from ⊖ 2 ^ 63) → cell z ≡ 0
  pub above : (z : ℤ) → ((from + n) ⊖ 2 ^ 63) ≤ℤ z → cell z ≡ 0

-- the same for the cells from the furthest of the left side to the furthest of the right side
abbrev pub CountedOn : Conf → (count : ℕ) → Type 0
CountedOn σ n = CountedIn (tape_of σ).cell (σ.sim.tape.head - cells_of (left_of σ)) (cells_of (left_of σ) + 1 + cells_of (right_of σ)) n

module _ (m : Machine) (σ : Conf) (f : ChainFits m σ) where
  abbrev lefts : ℕ
  lefts = cells_of (left_of σ)

  abbrev rights : ℕ
  rights = cells_of (right_of σ)

  abbrev from : ℕ
  from = σ.sim.tape.head - lefts

  in_reach : lefts ≤ σ.sim.tape.head
  in_reach = left_in σ m f

  blank_from : ℕ → Bool
  blank_from i = eqb ((tape_of σ).cell ((from + i) ⊖ 2 ^ 63)) 0

  left_count : count_fails blank_from lefts ≡ written_of (left_of σ)
  unfolding blank_from
  left_count = count_same blank_from (λ i. blank_in (left σ) (lefts - 1 - i)) lefts
      (λ i l. ap (λ x. eqb x 0) (at_left σ ((from + i) ⊖ 2 ^ 63) (lefts - 1 - i) (omega (arith, diff-⊖ (from + i) (2 ^ 63), in_reach))))
      ∙ count_back (blank_in (left σ)) lefts ∙ weight_is σ.ls σ.ll σ.sim.tape.left

  head_blank : blank_from lefts ≡ eqb σ.sim.tape.cur 0
  unfolding blank_from
  head_blank = ap (λ x. eqb x 0) (at_head σ ((from + lefts) ⊖ 2 ^ 63) (omega (arith, diff-⊖ (from + lefts) (2 ^ 63), in_reach)))

  right_count : count_fails (λ i. blank_from (lefts + 1 + i)) rights ≡ written_of (right_of σ)
  unfolding blank_from
  right_count = count_same (λ i. blank_from (lefts + 1 + i)) (blank_in (right σ)) rights
      (λ i l. ap (λ x. eqb x 0) (at_right σ ((from + (lefts + 1 + i)) ⊖ 2 ^ 63) i (omega (arith, diff-⊖ (from + (lefts + 1 + i)) (2 ^ 63), in_reach))))
      ∙ weight_is σ.rs σ.rl σ.sim.tape.right

  all_counted : count_fails blank_from (lefts + 1 + rights) ≡ count_of σ
  unfolding count_fails count_of count_on
  all_counted =
      let e : lefts + 1 ≡ suc lefts = omega arith in
      let h : pick {A = ℕ} (blank_from lefts) 0 1 ≡ pick {A = ℕ} (eqb σ.sim.tape.cur 0) 0 1 = rw head_blank in
      count_add blank_from (lefts + 1) rights
      ∙ omega (arith, ap (count_fails blank_from) e, h, left_count, right_count)

  pub count_within : CountedOn σ (count_of σ)
  unfolding blank_from
  count_within = record {
    inside = all_counted;
    below = λ z b. low z _ b (seen σ z);
    above = λ z b. high z _ b (seen σ z);
  }
    where
      low : (z : ℤ) (v : ℕ) → z <ℤ (from ⊖ 2 ^ 63) → SeenAt σ z v → v ≡ 0
      low z v b (here e) = absurd (omega (ints, b, diff-⊖ from (2 ^ 63)))
      low z v b (leftward d e) = side_past (left_of σ) d (omega (ints, b, diff-⊖ from (2 ^ 63), in_reach))
      low z v b (rightward d e) = absurd (omega (ints, b, diff-⊖ from (2 ^ 63)))

      high : (z : ℤ) (v : ℕ) → ((from + (lefts + 1 + rights)) ⊖ 2 ^ 63) ≤ℤ z → SeenAt σ z v → v ≡ 0
      high z v b (here e) = absurd (omega (ints, b, diff-⊖ (from + (lefts + 1 + rights)) (2 ^ 63), in_reach))
      high z v b (leftward d e) = absurd (omega (ints, b, diff-⊖ (from + (lefts + 1 + rights)) (2 ^ 63), in_reach))
      high z v b (rightward d e) = side_past (right_of σ) d (omega (ints, b, diff-⊖ (from + (lefts + 1 + rights)) (2 ^ 63), in_reach))
