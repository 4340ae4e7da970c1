-- A tape passes the test `tape_fits` exactly where `TapeFits` is true of it. Assumes nothing.
use Rattle.std.specs.Prelude.{◌≡◌, ◌↔◌, Bool, true, IsTrue, All, List, ℕ, ◌≤◌, ◌<◌, ltb, length, take}
use Rattle.std.proofs.Common.{sym, ◌∙◌, arith}
use borrow.Author.Tests.{leb-true, ltb-true, le-leb, lt-ltb}
use Rattle.notation.specs.Choice.{both}
use Rattle.notation.proofs.Facts.Lists.{all-part}
use Rattle.notation.proofs.Facts.Scan.{all_says, all_holds}
use Rattle.notation.proofs.Facts.Tests.{both_split, both_true}
use Rattle.notation.specs.Limits.{cells_most}
use Rattle.symbol.specs.Kinds.{symbol_in}
use Rattle.tape.specs.declared.Tape.{Tape}
use Rattle.tape.specs.Fits.{shape_fits, tape_fits, TapeFits, TapeOk}

-- where `shape_fits` returned true, the tape is no longer than the buffer
pub shape_len : (t : Tape) (cap : ℕ) (r : Bool) → r ≡ shape_fits t cap → r ≡ true → t.len ≤ cap
shape_len t cap r e z = leb-true _ _ (both_split (both_split (sym e ∙ z)).1).0

module _ (k : ℕ) (t : Tape) (c : List ℕ) where
  -- what the test of the cells says, where the numbers fit
  pub fits_cells : (r s : Bool) → s ≡ shape_fits t (length c) → s ≡ true → IsTrue r ↔ All (λ x. x < k) (take t.len c) → r ≡ tape_fits k t c
  unfolding tape_fits both
  fits_cells r s e z p =
      let h : t.len ≤ length c = shape_len t (length c) s e z in
      rw (← e, z) (all-part (λ x. x < k) (λ x. ltb x k) (λ x g. lt-ltb x k g) (λ x g. ltb-true x k g) c 0 t.len (omega arith) r p)

  pub fits_says : tape_fits k t c ≡ true → TapeFits k t c
  unfolding tape_fits
  fits_says h =
      let p0 = both_split h in
      let p1 = both_split p0.0 in
      let p2 = both_split p1.1 in
      let p3 = both_split p2.1 in
      let p4 = both_split p3.1 in
      let p5 = both_split p4.1 in
      let p6 = both_split p5.1 in
      record {
        least = leb-true _ _ p1.0;
        most = leb-true _ _ p2.0;
        head_in = ltb-true _ _ p3.0;
        origin_in = ltb-true _ _ p4.0;
        low_head = leb-true _ _ p5.0;
        head_high = leb-true _ _ p6.0;
        high_in = ltb-true _ _ p6.1;
        symbols = λ i b. ltb-true _ _ (all_says (symbol_in k c) t.len 0 p0.1 i (omega arith) (omega arith));
      }

  pub fits_holds : TapeFits k t c → tape_fits k t c ≡ true
  unfolding tape_fits
  fits_holds f =
      both_true
      (both_true (le-leb _ _ f.least)
      (both_true (le-leb _ _ f.most)
      (both_true (lt-ltb _ _ f.head_in)
      (both_true (lt-ltb _ _ f.origin_in)
      (both_true (le-leb _ _ f.low_head) (both_true (le-leb _ _ f.head_high) (lt-ltb _ _ f.high_in)))))))
      (all_holds (symbol_in k c) t.len 0 (λ i a b. lt-ltb _ _ (f.symbols i (omega arith))))

  pub fits_ok : TapeFits k t c → t.len ≤ cells_most → TapeOk t c
  fits_ok f h = omega arith
