-- The encoder's test of a glyph agrees with document 01's sentence, and so does its refusal 17. Assumes nothing.
use Rattle.outcome.specs.declared.Refusal.{Refusal}
use Rattle.symbol.specs.declared.Symbol.{Symbol}
use Rattle.std.specs.Prelude.{◌≡◌, refl, ◌↔◌, Bool, true, false, List, [], ◌∷◌, ℕ, ◌<◌, eqb, get_or, Err, Option, Result, ⊤}
use Rattle.std.proofs.Common.{ap, subst, arith, lt-ltb, ltb-true, eqb-true, eq-eqb, ne_eqb}
use Rattle.std.proofs.Math.Path.{subst⁻¹}
use Rattle.std.proofs.Math.Decide.{dec_lt}
use Rattle.std.proofs.lemmas.Bool.{eqb-false, not-true}
use Rattle.notation.proofs.Facts.Tests.{clash, by_test, pick_cases, both_split, both_true}
use Rattle.symbol.specs.Kinds.{symbol_of}
use Rattle.outcome.specs.declared.Refusal.TheVariants as Why
use Rattle.alphabet.specs.Model.{symbol_for, is_input, allowed_on, allowed_at, encode_check}
use Rattle.alphabet.specs.Glyphs.{First, Absent, named_numbers, Flagged, Allowed, blank, input, NotAllowed, missing, unflagged, FirstNotAllowed}
use Rattle.alphabet.proofs.Facts.Encode.{Spelt, absent, first, spelt, Answers, taken, glyph, short, answers, refused_place}

-- ---- a flag

flag_says : (flags : List ℕ) (i : ℕ) → is_input flags (symbol_of i) ≡ true → Flagged flags i
unfolding is_input
flag_says flags i h =
    let p = both_split h in
    record { given = ltb-true _ _ p.0; set = λ e. clash (eq-eqb _ _ e) (not-true (eqb (get_or flags i 0) 0) p.1) }

flag_holds : (flags : List ℕ) (i : ℕ) → Flagged flags i → is_input flags (symbol_of i) ≡ true
unfolding is_input
flag_holds flags i f = both_true (lt-ltb _ _ f.given) (rw (ne_eqb _ _ f.set))

-- ---- one glyph

-- no glyph has two first places
one-first : (glyphs : List ℕ) (x i j : ℕ) → First glyphs x i → First glyphs x j → i ≡ j
one-first glyphs x i j p q = by (dec_lt i j) (dec_lt j i)
  where
    by : Dec (i < j) → Dec (j < i) → i ≡ j
    by (yes h) d = absurd (q.before i h p.equal)
    by (no h) (yes g) = absurd (p.before j g q.equal)
    by (no h) (no g) = omega arith

-- the symbol returned for a glyph is its first place; none is returned where it has no place
module _ (glyphs : List ℕ) (x : ℕ) where
  pub symbol_place : (i : ℕ) → (named_numbers (symbol_for glyphs x) ≡ 1 ∷ i ∷ []) ↔ First glyphs x i
  symbol_place i = by _ (spelt glyphs x)
    where
      by : (n : Option Symbol) → Spelt glyphs x n → (named_numbers n ≡ 1 ∷ i ∷ []) ↔ First glyphs x i
      by n (absent f) = ((λ e. let z : ◌≡◌ {A = ℕ} 0 1 = cc in absurd (omega arith)), λ p. absurd (f i p.among p.small p.equal))
      by n (first j f) = ((λ e. let q : j ≡ i = cc in subst (First glyphs x) q f), λ p. ap (λ k. 1 ∷ k ∷ []) (one-first glyphs x j i f p))

  pub symbol_none : (named_numbers (symbol_for glyphs x) ≡ 0 ∷ []) ↔ Absent glyphs x
  symbol_none = by _ (spelt glyphs x)
    where
      by : (n : Option Symbol) → Spelt glyphs x n → (named_numbers n ≡ 0 ∷ []) ↔ Absent glyphs x
      by n (absent f) = ((λ e. f), λ g. refl)
      by n (first j f) = ((λ e. let z : ◌≡◌ {A = ℕ} 0 1 = cc in absurd (omega arith)), λ g. absurd (g j f.among f.small f.equal))

module _ (glyphs flags : List ℕ) (x : ℕ) where
  apart : Allowed glyphs flags x → NotAllowed glyphs flags x → ⊥
  apart (blank p) (missing n) = n 0 p.among p.small p.equal
  apart (blank p) (unflagged i q a b) = a (one-first glyphs x i 0 q p)
  apart (input i p f) (missing n) = n i p.among p.small p.equal
  apart (input i p f) (unflagged j q a b) = b (subst (Flagged flags) (one-first glyphs x i j p q) f)

  data Judged : Bool → Type 0 where
    allowed : Allowed glyphs flags x → Judged true
    not_allowed : NotAllowed glyphs flags x → Judged false

  judged : Judged (allowed_on flags (symbol_for glyphs x))
  judged = by _ (spelt glyphs x)
    where
      by : (n : Option Symbol) → Spelt glyphs x n → Judged (allowed_on flags n)
      by n (absent f) = not_allowed (missing f)
      by n (first i f) = pick_cases (eqb i 0) true (is_input flags (symbol_of i)) Judged
          (λ t. allowed (blank (subst (First glyphs x) (eqb-true i 0 t) f)))
          (λ t. by_test (is_input flags (symbol_of i))
          (λ h. subst⁻¹ Judged h (allowed (input i f (flag_says flags i h))))
          (λ h. subst⁻¹ Judged h (not_allowed (unflagged i f (eqb-false i 0 t) (λ g. clash (flag_holds flags i g) h)))))

  judged_says : (b : Bool) → Judged b → (b ≡ true → Allowed glyphs flags x) × (b ≡ false → NotAllowed glyphs flags x)
  judged_says b (allowed a) = ((λ e. a), (λ e. let z : ◌≡◌ {A = ℕ} 0 1 = cc in absurd (omega arith)))
  judged_says b (not_allowed a) = ((λ e. let z : ◌≡◌ {A = ℕ} 0 1 = cc in absurd (omega arith)), (λ e. a))

-- ---- the glyph at a word's place

module _ (glyphs flags word : List ℕ) where
  says : (i : ℕ) → (allowed_at glyphs flags word i ≡ true → Allowed glyphs flags (get_or word i 0)) × (allowed_at glyphs flags word i ≡ false → NotAllowed glyphs flags (get_or word i 0))
  unfolding allowed_at
  says i = judged_says glyphs flags (get_or word i 0) _ (judged glyphs flags (get_or word i 0))

  pub allowed_exact : (i : ℕ) → (allowed_at glyphs flags word i ≡ true) ↔ Allowed glyphs flags (get_or word i 0)
  allowed_exact i = ((says i).0, λ a. by_test (allowed_at glyphs flags word i) (λ t. t) (λ t. absurd (apart glyphs flags (get_or word i 0) a ((says i).1 t))))

  pub not_allowed_exact : (i : ℕ) → (allowed_at glyphs flags word i ≡ false) ↔ NotAllowed glyphs flags (get_or word i 0)
  not_allowed_exact i = ((says i).1, λ a. by_test (allowed_at glyphs flags word i) (λ t. absurd (apart glyphs flags (get_or word i 0) ((says i).0 t) a)) (λ t. t))

  -- ---- 17, and its place

  refused_says : (room i : ℕ) → encode_check glyphs flags word room ≡ Err (Why.Glyph i) → FirstNotAllowed glyphs flags word i
  refused_says room i e =
      let f = refused_place glyphs flags word room i e in
      record { inside = f.inside; bad = (says i).1 f.bad; good = λ j h. (says j).0 (f.good j h) }

  refused_holds : (room i : ℕ) → FirstNotAllowed glyphs flags word i → encode_check glyphs flags word room ≡ Err (Why.Glyph i)
  refused_holds room i f = by _ (answers glyphs flags word room)
    where
      wrong : allowed_at glyphs flags word i ≡ false
      wrong = (not_allowed_exact i).1 f.bad

      by : (r : Result ⊤ Refusal) → Answers glyphs flags word room r → r ≡ Err (Why.Glyph i)
      by r (taken a h) = absurd (clash (a i f.inside) wrong)
      by r (short a h) = absurd (clash (a i f.inside) wrong)
      by r (glyph j b) = ap (λ k. Err (Why.Glyph k)) (same (dec_lt i j) (dec_lt j i))
        where
          same : Dec (i < j) → Dec (j < i) → j ≡ i
          same (yes h) d = absurd (clash (b.good i h) wrong)
          same (no h) (yes g) = absurd (clash ((allowed_exact j).1 (f.good j g)) b.bad)
          same (no h) (no g) = omega arith

  pub refused_exact : (room i : ℕ) → (encode_check glyphs flags word room ≡ Err (Why.Glyph i)) ↔ FirstNotAllowed glyphs flags word i
  refused_exact room i = (refused_says room i, refused_holds room i)
