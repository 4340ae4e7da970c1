-- The questions on one tape, one fact for each way through the code. Assumes nothing.
use Rattle.std.specs.Prelude.{◌≡◌, ◌↔◌, Bool, false, IsTrue, All, not, count_by, List, ℕ, ◌+◌, ◌-◌, ◌≤◌, ◌<◌, min, eqb, length, take, drop, ℤ, None, Option, Some}
use Rattle.std.proofs.Common.{refl, ap, ◌∙◌, arith, Fits}
use Rattle.std.proofs.Math.Decide.{dec_lt}
use borrow.Author.Tests.{eq-eqb, ne_eqb, eqb-true}
use Rattle.std.specs.Int.{w32}
use Rattle.notation.specs.Choice.{pick}
use Rattle.notation.specs.Limits.{cells_most}
use Rattle.notation.specs.Scan.{all_in}
use Rattle.notation.specs.Position.{◌⊖◌}
use Rattle.notation.proofs.Facts.Lists.{all-part, count_by-scan}
use Rattle.symbol.specs.declared.Dir.{Dir}
use Rattle.symbol.specs.declared.Dir.TheVariants.{L, R, N}
use Rattle.tape.specs.declared.Tape.{Tape}
use Rattle.tape.specs.declared.Span.{Span}
use Rattle.tape.specs.Model.Questions.{span}
use Rattle.tape.specs.Model.Moves.{Held, held}
use Rattle.tape.specs.Fits.{reach}
use Rattle.tape.specs.Model.Questions.{blank_at, blank_beyond, cell_of, first_written, last_written, span_of, non_blank_of, window_from, window_of, count_of, spot_of, find_of}
use Rattle.tape_positions.specs.Model.{window_at, last_up_to, first_from}

-- ---- the cells beyond the head

-- the cells from the one after the head on, or none where the head is at the end
above-head : (p : ℕ → Bool) (i h len : ℕ) → i ≡ min (h + 1) len → all_in p (len - i) i ≡ all_in p (len - (h + 1)) (h + 1)
unfolding all_in
above-head p i h len e = by (dec_lt h len)
  where
    by : Dec (h < len) → all_in p (len - i) i ≡ all_in p (len - (h + 1)) (h + 1)
    by (yes g) = let k : i ≡ h + 1 = omega arith in rw k
    by (no f) =
        let a : len - i ≡ 0 = omega arith in
        let b : len - (h + 1) ≡ 0 = omega arith in
        rw (a, b)

module _ (t : Tape) (c : List ℕ) (d : Dir) (r : Bool) where
  pub beyond_left : t.head ≤ length c → IsTrue r ↔ All (λ x. x ≡ 0) (take t.head c) → d ≡ L → r ≡ blank_beyond (held t c) d
  unfolding blank_beyond
  beyond_left h p e = rw e (all-part (λ x. x ≡ 0) (λ x. eqb x 0) (λ x g. eq-eqb x 0 g) (λ x g. eqb-true x 0 g) c 0 t.head (omega arith) r p)

  pub beyond_right : (i : ℕ) → t.len ≤ length c → i ≡ min (t.head + 1) t.len → IsTrue r ↔ All (λ x. x ≡ 0) (take (t.len - i) (drop i c)) → d ≡ R
      → r ≡ blank_beyond (held t c) d
  unfolding blank_beyond
  beyond_right i h m p e =
      rw e (all-part (λ x. x ≡ 0) (λ x. eqb x 0) (λ x g. eq-eqb x 0 g) (λ x g. eqb-true x 0 g) c i (t.len - i) (omega arith) r p
      ∙ above-head (blank_at c) i t.head t.len m)

pub beyond_none : (t : Tape) (c : List ℕ) (d : Dir) → d ≡ N → false ≡ blank_beyond (held t c) d
unfolding blank_beyond
beyond_none t c d e = rw e

-- ---- the positions of what was found

pub found_fits : (f : Option ℕ) (i : ℕ) → f ≡ Some i → reach f ≤ cells_most → Fits w32 i
found_fits f i e h = record { fits = omega (arith, ap reach e) }

module _ (o : ℕ) where
  pub spot_at : (f : Option ℕ) (i : ℕ) (z : ℤ) → f ≡ Some i → z ≡ i ⊖ o → Some z ≡ spot_of o f
  unfolding spot_of
  spot_at f i z e p = rw (e, p)

  pub spot_none : (f : Option ℕ) → f ≡ None → None ≡ spot_of o f
  unfolding spot_of
  spot_none f e = rw e

  pub span_cells : (f g : Option ℕ) (i j : ℕ) (y z : ℤ) → f ≡ Some i → g ≡ Some j → y ≡ i ⊖ o → z ≡ j ⊖ o → Some (span y z) ≡ span_of o f g
  unfolding span_of
  span_cells f g i j y z e k p q = rw (e, k, p, q)

  pub span_none : (f g : Option ℕ) → f ≡ None → None ≡ span_of o f g
  unfolding span_of
  span_none f g e = rw e

  pub span_no_last : (f g : Option ℕ) (i : ℕ) → f ≡ Some i → g ≡ None → None ≡ span_of o f g
  unfolding span_of
  span_no_last f g i e k = rw (e, k)

-- ---- the questions

pub non_blank_is : (t : Tape) (c : List ℕ) (s : Option Span) (f g : Option ℕ) → s ≡ span_of t.origin f g → f ≡ first_written c 0 t.len → g ≡ last_written c t.len
    → s ≡ non_blank_of (held t c)
unfolding non_blank_of
non_blank_is t c s f g p q r = rw (p, q, r)

module _ (h : Held) (o len : ℕ) (c : List ℕ) (placed : (o ≡ h.tape.origin) × (len ≡ h.tape.len) × (c ≡ h.cells)) where
  pub window_is : (y z : ℤ) (out out₁ : List ℕ) → out₁ ≡ window_at o len c y out → y ≡ z → out₁ ≡ window_of h z out
  unfolding window_from
  window_is y z out out₁ p e = p ∙ rw (placed.0, placed.1, placed.2, e)

  module _ (z : ℤ) (d : Dir) (y : ℤ) (same : y ≡ z) (s : Option ℤ) (f : Option ℕ) (is : s ≡ spot_of o f) where
    pub find_left : f ≡ last_up_to o len c y → d ≡ L → s ≡ find_of h z d
    unfolding find_of
    find_left q e = rw (is, q, e, same, placed.0, placed.1, placed.2)

    pub find_right : f ≡ first_from o len c y → d ≡ R → s ≡ find_of h z d
    unfolding find_of
    find_right q e = rw (is, q, e, same, placed.0, placed.1, placed.2)

module _ (h : Held) (z : ℤ) (d : Dir) (x : ℕ) (y : ℤ) (is : x ≡ cell_of h y) (same : y ≡ z) (e : d ≡ N) where
  pub find_none : x ≡ 0 → None ≡ find_of h z d
  unfolding find_of pick
  find_none q = rw (e, ← same, ← is, eq-eqb _ _ q)

  pub find_here : (x ≡ 0 → ⊥) → Some z ≡ find_of h z d
  unfolding find_of pick
  find_here q = rw (e, ← same, ← is, ne_eqb _ _ q)

pub count_is : (t : Tape) (c : List ℕ) (n : ℕ) → t.len ≤ length c → n ≡ count_by (λ x. not (eqb x 0)) (take t.len c) → n ≡ count_of (held t c)
unfolding count_of
count_is t c n h e = e ∙ count_by-scan (λ x. not (eqb x 0)) (blank_at c) c t.len (λ j l. refl) h
