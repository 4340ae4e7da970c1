-- The check's test whether an engine fits is true exactly where it fits by Meaning. Assumes nothing.
use Rattle.std.specs.Prelude.{◌≡◌, Bool, false, not, List, ℤ, pos, negsuc}
use Rattle.std.proofs.Math.Path.{sym}
use Rattle.std.proofs.Common.{◌∙◌, arith}
use Rattle.std.proofs.Math.Bool.{true}
use Prim.Native.Nat.{ℕ, zero, suc, ◌+◌, ◌-◌, ◌<◌, ◌≤◌, ◌^◌}
use Rattle.std.proofs.Math.Decide.{ℕ_discrete}
use borrow.Author.Tests.{leb-true, ltb-true, eqb-false, ne_eqb, lt-ltb, le-leb, not-true}
use Rattle.notation.specs.Position.{◌⊖◌, up, dn}
use Rattle.notation.proofs.Facts.Position.{diff-⊖}
use Rattle.notation.proofs.Facts.Scan.{all_says, all_holds}
use Rattle.notation.proofs.Facts.Tests.{both_split, both_true}
use Rattle.notation.specs.Limits.{raised_zero}
use Rattle.machine.specs.declared.Machine.{Machine}
use Rattle.rle_stack.specs.Model.{Side, places_of, run_fits, runs_fit}
use Rattle.rle.specs.Model.Engine.{Conf, left_of, right_of}
use Rattle.rle.specs.Fits.{side_fits, head_fits, reach_fits, counts_fit, chain_fits}
use Rattle.rle_refines.specs.Meaning.{stack_upto, RunsFit, SideFits, ChainFits, left_end, right_end, Near}
use Rattle.rle_refines.proofs.Facts.Sides.{top_is}

-- ---- the runs

not_so : (b : Bool) → b ≡ false → not b ≡ true
not_so b e = rw e

module _ (k : ℕ) (ss ls : List ℕ) where
  runs_say : (n : ℕ) → ((j : ℕ) → j < n → run_fits k ss ls j ≡ true) → RunsFit k (stack_upto ss ls n)
  unfolding run_fits
  runs_say zero h = tt
  runs_say (suc n) h =
      let p = both_split (h n (omega arith)) in
      let q = both_split p.1 in
      (ltb-true _ _ p.0, ltb-true _ _ q.0, λ e. eqb-false _ _ (not-true _ q.1) (e ∙ sym (top_is ss ls n)), runs_say n (λ j l. h j (omega arith)))

  runs_hold : (n : ℕ) → RunsFit k (stack_upto ss ls n) → (j : ℕ) → j < n → run_fits k ss ls j ≡ true
  unfolding run_fits
  runs_hold zero f j l = absurd (omega arith)
  runs_hold (suc n) f j l = by (ℕ_discrete j n) (runs_hold n f.3 j)
    where
      by : Dec (j ≡ n) → (j < n → run_fits k ss ls j ≡ true) → run_fits k ss ls j ≡ true
      by (yes e) r = rw e (both_true (lt-ltb _ _ f.0) (both_true (lt-ltb _ _ f.1) (not_so _ (ne_eqb _ _ (λ h. f.2 (h ∙ top_is ss ls n))))))
      by (no e) r = r (omega arith)

module _ (k most : ℕ) (x : Side) where
  side_says : side_fits k (places_of x.symbols x.lengths) most x ≡ true → SideFits k most x
  unfolding side_fits runs_fit
  side_says h =
      let p = both_split h in
      let q = both_split p.1 in
      record {
        live = leb-true _ _ p.0;
        runs = runs_say k x.symbols x.lengths x.count (λ j l. all_says (run_fits k x.symbols x.lengths) x.count 0 q.0 j (omega arith) (omega arith));
        sum = leb-true _ _ q.1;
      }

  side_holds : SideFits k most x → side_fits k (places_of x.symbols x.lengths) most x ≡ true
  unfolding side_fits runs_fit
  side_holds f =
      both_true (le-leb _ _ f.live)
      (both_true (all_holds (run_fits k x.symbols x.lengths) x.count 0 (λ j _ l. runs_hold k x.symbols x.lengths x.count f.runs j (omega arith))) (le-leb _ _ f.sum))

-- ---- the engine

module _ (m : Machine) (σ : Conf) where
  pub fits_holds : chain_fits m σ ≡ true → ChainFits m σ
  unfolding chain_fits counts_fit head_fits reach_fits
  fits_holds h =
      let a = both_split h in
      let b = both_split a.1 in
      let c = both_split b.1 in
      let d = both_split c.1 in
      let e = both_split d.1 in
      let a1 = both_split a.0 in
      let a2 = both_split a1.1 in
      let a3 = both_split a2.1 in
      let b1 = both_split b.0 in
      let b2 = both_split b1.1 in
      let b3 = both_split b2.1 in
      let low : raised_zero - σ.sim.steps ≤ σ.sim.lowest = leb-true _ _ b3.0 in
      record {
        state_in_holds = ltb-true _ _ a1.0;
        steps_in = leb-true _ _ a2.0;
        macros_in = leb-true _ _ a3.0;
        read_in = ltb-true _ _ a3.1;
        low_head = leb-true _ _ b1.0;
        head_high = leb-true _ _ b2.0;
        low_near = omega arith;
        high_near = leb-true _ _ b3.1;
        lefts = side_says m.symbols _ (left_of σ) c.0;
        rights = side_says m.symbols _ (right_of σ) d.0;
        left_far = leb-true _ _ e.0;
        right_far = leb-true _ _ e.1;
      }

  pub holds_fits : ChainFits m σ → chain_fits m σ ≡ true
  unfolding chain_fits counts_fit head_fits reach_fits
  holds_fits f =
      both_true (both_true (lt-ltb _ _ f.state_in_holds) (both_true (le-leb _ _ f.steps_in) (both_true (le-leb _ _ f.macros_in) (lt-ltb _ _ f.read_in))))
      (both_true (both_true (le-leb _ _ f.low_head) (both_true (le-leb _ _ f.head_high) (both_true (le-leb _ _ near) (le-leb _ _ f.high_near))))
      (both_true (side_holds m.symbols _ (left_of σ) f.lefts)
      (both_true (side_holds m.symbols _ (right_of σ) f.rights) (both_true (le-leb _ _ f.left_far) (le-leb _ _ f.right_far)))))
    where
      near : raised_zero - σ.sim.steps ≤ σ.sim.lowest
      near = omega (arith, f.low_near)

-- ---- "its furthest cell's distance from 0"

-- an index i near index o, as a position: it is near 0, where index o is position 0
near_zero : (n i o : ℕ) → o ≤ i + n → i ≤ o + n → Near n (i ⊖ o)
near_zero n i o low high = by (i ⊖ o) (diff-⊖ i o)
  where
    by : (z : ℤ) → up z + o ≡ i + dn z → Near n z
    by (pos x) e = (omega arith, omega arith)
    by (negsuc x) e = (omega arith, omega arith)

-- the bound away from the head is left_far or right_far; the opposite bound follows from that of the head
pub ends-near : (m : Machine) (σ : Conf) → ChainFits m σ → Near (σ.sim.steps + 2 ^ 20) (left_end σ) × Near (σ.sim.steps + 2 ^ 20) (right_end σ)
ends-near m σ f = (
  near_zero _ _ _ (omega (arith, f.left_far)) (omega (arith, f.head_high, f.high_near)),
  near_zero _ _ _ (omega (arith, f.low_near, f.low_head)) (omega (arith, f.right_far)),
)
