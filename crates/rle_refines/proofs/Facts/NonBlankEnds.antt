-- The lowest and the highest cell that is not blank are where the questions look for them. Assumes nothing.
use Rattle.std.specs.Prelude.{◌≡◌, refl, true, false, ◌+◌, ◌-◌, eqb}
use Rattle.std.proofs.Common.{arith}
use borrow.Author.Tests.{eqb-true, eqb-false}
use Rattle.notation.proofs.Facts.Tests.{pick_cases}
use Rattle.symbol.specs.declared.Dir.TheVariants.{L, R}
use Rattle.machine.specs.declared.Machine.{Machine}
use Rattle.rle_stack.specs.Model.{cells_of, near_of}
use Rattle.rle.specs.Model.Engine.{Conf, left_of, right_of}
use Rattle.rle.specs.Model.Questions.{lowest_of, highest_of, blank_tape}
use Rattle.rle_refines.specs.Meaning.{ChainFits}
use Rattle.rle_refines.proofs.Facts.Cells.{left, right, cur, head, left_in}
use Rattle.rle_refines.proofs.Facts.NonBlank.{left_ends, right_ends, not_all, IsLast, low_left, low_head, low_right, high_right, high_head, high_left}

module _ (m : Machine) (σ : Conf) (f : ChainFits m σ) where
  pub lowest_is : blank_tape σ ≡ false → IsLast m σ f (lowest_of σ) L
  unfolding lowest_of
  lowest_is t = pick_cases (eqb σ.sim.tape.left 0) _ _ (λ p. IsLast m σ f p L)
      (λ u. let n = eqb-true _ _ u in
      pick_cases (eqb (cur σ) 0) _ _ (λ p. IsLast m σ f p L)
      (λ v. let c = eqb-true _ _ v in low_right m σ f (head σ + near_of (right_of σ)) n c (right_ends m σ f (not_all m σ f t c n)) refl)
      (λ v. low_head m σ f (head σ) n (eqb-false _ _ v) refl))
      (λ u. low_left m σ f (head σ - cells_of (left_of σ)) (left_ends m σ f (eqb-false _ _ u)) (omega (arith, left_in σ m f)))

  pub highest_is : blank_tape σ ≡ false → IsLast m σ f (highest_of σ) R
  unfolding highest_of
  highest_is t = pick_cases (eqb σ.sim.tape.right 0) _ _ (λ p. IsLast m σ f p R)
      (λ u. let n = eqb-true _ _ u in
      pick_cases (eqb (cur σ) 0) _ _ (λ p. IsLast m σ f p R)
      (λ v. let c = eqb-true _ _ v in let x = left_ends m σ f (λ l. not_all m σ f t c l n) in
      high_left m σ f (head σ - near_of (left_of σ)) n c x (omega (arith, left_in σ m f, x.within)))
      (λ v. high_head m σ f (head σ) n (eqb-false _ _ v) refl))
      (λ u. high_right m σ f (head σ + cells_of (right_of σ)) (right_ends m σ f (eqb-false _ _ u)) refl)
