-- The run-length engine's count is the number of the non-blank cells, in the plain engine's sense (Counts). Assumes nothing.
use Rattle.std.specs.Prelude.{◌≡◌, Bool, List, eqb, ℤ, Ok}
use Rattle.std.proofs.Common.{sym, ap, ◌∙◌, arith}
use Prim.Native.Nat.{ℕ, ◌+◌, ◌-◌, ◌<◌, ◌^◌}
use Rattle.std.proofs.Math.Decide.{dec_lt}
use borrow.Author.Tests.{eqb-false, ne_eqb}
use Rattle.notation.specs.Position.{◌⊖◌, up, dn}
use Rattle.notation.proofs.Facts.Position.{ints, diff-⊖}
use Rattle.notation.specs.ScanDown.{count_fails}
use Rattle.machine.specs.declared.Machine.{Machine}
use Rattle.sim_refines.specs.Counts.{Among, Counts}
use Rattle.sim_refines.proofs.Facts.Counts.{Fails, fails_of}
use Rattle.rle.specs.Model.Engine.{Conf}
use Rattle.rle.specs.Model.Questions.{count_of, count_answer}
use Rattle.rle_refines.specs.Meaning.{tape_of, ChainFits}
use Rattle.rle_refines.proofs.Facts.Counts.{CountedIn, count_within}
use Rattle.rle_refines.proofs.Facts.Questions.{counted_is}

-- the cells found not blank by the count, numbered upward
module _ (cell : ℤ → ℕ) (from n count : ℕ) (c : CountedIn cell from n count) where
  blank : ℕ → Bool
  blank i = eqb (cell ((from + i) ⊖ 2 ^ 63)) 0

  counts_in : Counts cell (count_fails blank n)
  unfolding blank
  counts_in =
      let f : Fails blank n (count_fails blank n) = fails_of blank n in
      record {
        at = λ i. (from + f.at i) ⊖ 2 ^ 63;
        rising = λ i j l b. omega (ints, f.rising i j l b, diff-⊖ (from + f.at i) (2 ^ 63), diff-⊖ (from + f.at j) (2 ^ 63));
        written = λ i b e. eqb-false _ _ (f.fails i b) e;
        all = λ z w. by f z w (dec_lt (up z + 2 ^ 63) (from + dn z)) (dec_lt (up z + 2 ^ 63) (from + n + dn z));
      }
    where
      by : (f : Fails blank n (count_fails blank n)) (z : ℤ) → ¬ (cell z ≡ 0) → Dec (up z + 2 ^ 63 < from + dn z) → Dec (up z + 2 ^ 63 < from + n + dn z)
          → Among (λ i. (from + f.at i) ⊖ 2 ^ 63) (count_fails blank n) z
      by f z w (yes l) h = absurd (w (c.below z (omega (ints, diff-⊖ from (2 ^ 63)))))
      by f z w (no l) (no h) = absurd (w (c.above z (omega (ints, diff-⊖ (from + n) (2 ^ 63)))))
      by f z w (no l) (yes h) =
          let i : ℕ = up z + 2 ^ 63 - dn z - from in
          let q : (from + i) ⊖ 2 ^ 63 ≡ z = omega (ints, diff-⊖ (from + i) (2 ^ 63)) in
          let r : Among f.at (count_fails blank n) i = f.all i (omega arith) (ne_eqb _ _ (λ e. w (sym (ap cell q) ∙ e))) in
          record { number = r.number; below = r.below; is = omega (ints, r.is, diff-⊖ (from + f.at r.number) (2 ^ 63)) }

  pub counts_of_holds : Counts cell count
  unfolding blank
  counts_of_holds = rw (← c.inside) counts_in

pub count_is : (m : Machine) (σ : Conf) → ChainFits m σ → Counts (tape_of σ).cell (count_of σ)
count_is m σ f = counts_of_holds (tape_of σ).cell _ _ (count_of σ) (count_within m σ f)

-- for the answer of the question
pub chain_counts : (m : Machine) (s : List ℕ) (σ : Conf) (n : ℕ) → count_answer m s σ ≡ Ok n → Counts (tape_of σ).cell n
chain_counts m s σ n e = counts_of_holds (tape_of σ).cell _ _ n (counted_is m s σ n e)
