-- What follows from the encoder's answers. Assumes nothing.
use Rattle.symbol.specs.declared.Symbol.{Symbol}
use Rattle.std.proofs.Math.Path.{◌≡◌}
use Rattle.std.proofs.Common.{ap, subst, ◌∙◌, arith}
use Rattle.std.proofs.Math.Bool.{true}
use Rattle.std.specs.Prelude.{false, List, ℕ, ◌≤◌, ◌<◌, min, eqb, leb, length, get_or, Err, None, Ok, Option, Result, Some, ⊤}
use borrow.Author.Tests.{leb-true, leb-false, eqb-true, eq-eqb, not-true, not-false}
use Rattle.notation.proofs.Facts.Scan.{Scanned, clean, failed, scanned}
use Rattle.notation.specs.Fill.{fill_from}
use Rattle.notation.proofs.Facts.Fill.{length_fill, fill_in, fill_past}
use Rattle.notation.proofs.Facts.Tests.{clash, pick_cases}
use Rattle.symbol.specs.Kinds.{symbol_of}
use Rattle.outcome.specs.declared.Refusal.{Refusal}
use Rattle.outcome.specs.declared.Refusal.TheVariants as Why
use Rattle.machine.specs.Model.Check.{demand, checked_on, answer_at}
use Rattle.alphabet.specs.Glyphs.{First, Absent}
use Rattle.alphabet.specs.Model.{differs, named, symbol_for, allowed_on, byte_on, allowed_at, byte_at, glyphs_check, encode_check, encode_into}

-- ---- one glyph

-- the glyph's symbol by cases: no equal glyph is among the first 256, or i is the place of the first
pub data Spelt (glyphs : List ℕ) (glyph : ℕ) : Option Symbol → Type 0 where
  absent : Absent glyphs glyph → Spelt glyphs glyph None
  first : (i : ℕ) → First glyphs glyph i → Spelt glyphs glyph (Some (symbol_of i))

module _ (glyphs : List ℕ) (glyph : ℕ) where
  unequal : (i : ℕ) → differs glyphs glyph i ≡ true → get_or glyphs i 0 ≡ glyph → ⊥
  unequal i h e = clash (eq-eqb _ _ e) (not-true (eqb (get_or glyphs i 0) glyph) h)

  pub spelt : Spelt glyphs glyph (symbol_for glyphs glyph)
  unfolding symbol_for
  spelt = by _ (scanned (differs glyphs glyph) (min (length glyphs) 256) 0)
    where
      by : (x : Option ℕ) → Scanned (differs glyphs glyph) (min (length glyphs) 256) 0 x → Spelt glyphs glyph (named x)
      by x (clean f) = absent (λ j a b. unequal j (f j (omega arith) (omega arith)))
      by x (failed i a b z f) =
          first i
          (record {
            among = omega arith;
            small = omega arith;
            equal = eqb-true _ _ (not-false (eqb (get_or glyphs i 0) glyph) z);
            before = λ j h. unequal j (f j (omega arith) h);
          })

-- ---- a refusal

module _ (glyphs flags word : List ℕ) where
  -- the place of refusal 17: it is in the word, its glyph is not allowed, and every glyph before it is allowed
  pub record FirstBad (i : ℕ) : Type 0 where
    pub inside : i < length word
    pub bad : allowed_at glyphs flags word i ≡ false
    pub good : (j : ℕ) → j < i → allowed_at glyphs flags word j ≡ true

  pub data Checks : Result ⊤ Refusal → Type 0 where
    passed : ((i : ℕ) → i < length word → allowed_at glyphs flags word i ≡ true) → Checks (Ok tt)
    stopped : (i : ℕ) → FirstBad i → Checks (Err (Why.Glyph i))

  pub checks : Checks (glyphs_check glyphs flags word)
  unfolding glyphs_check
  checks = by _ (scanned (allowed_at glyphs flags word) (length word) 0)
    where
      by : (x : Option ℕ) → Scanned (allowed_at glyphs flags word) (length word) 0 x → Checks (answer_at Why.Glyph x)
      by x (clean f) = passed (λ i h. f i (omega arith) (omega arith))
      by x (failed i a b z f) = stopped i (record { inside = omega arith; bad = z; good = λ j h. f j (omega arith) h })

  -- the answer by cases: 17 comes before 18
  pub data Answers (room : ℕ) : Result ⊤ Refusal → Type 0 where
    taken : ((i : ℕ) → i < length word → allowed_at glyphs flags word i ≡ true) → length word ≤ room → Answers room (Ok tt)
    glyph : (i : ℕ) → FirstBad i → Answers room (Err (Why.Glyph i))
    short : ((i : ℕ) → i < length word → allowed_at glyphs flags word i ≡ true) → room < length word → Answers room (Err Why.OutputSize)

  pub answers : (room : ℕ) → Answers room (encode_check glyphs flags word room)
  unfolding encode_check
  answers room = by _ checks
    where
      by : (r : Result ⊤ Refusal) → Checks r → Answers room (checked_on r (demand (leb (length word) room) Why.OutputSize (Ok tt)))
      by r (stopped i f) = glyph i f
      by r (passed f) = pick_cases (leb (length word) room) (Ok tt) (Err Why.OutputSize) (Answers room)
          (λ t. taken f (leb-true _ _ t))
          (λ t. short f (leb-false _ _ t))

  pub refused_place : (room i : ℕ) → encode_check glyphs flags word room ≡ Err (Why.Glyph i) → FirstBad i
  refused_place room i e = by _ (answers room) e
    where
      by : (r : Result ⊤ Refusal) → Answers room r → r ≡ Err (Why.Glyph i) → FirstBad i
      by r (taken f h) e = let z : ◌≡◌ {A = ℕ} 0 1 = cc in absurd (omega arith)
      by r (glyph j f) e = let q : j ≡ i = cc in subst FirstBad q f
      by r (short f h) e = let z : ◌≡◌ {A = ℕ} 0 1 = cc in absurd (omega arith)

  pub refused_alone : (out : List ℕ) (why : Refusal) → encode_check glyphs flags word (length out) ≡ Err why → encode_into glyphs flags word out ≡ out
  unfolding encode_into
  refused_alone out why e = rw e

-- ---- where the encoder accepts

-- place i of the output holds the first place of the word's glyph, which is the blank or flagged input
pub record Written (glyphs flags word out : List ℕ) (i : ℕ) : Type 0 where
  pub holds : First glyphs (get_or word i 0) (get_or out i 0)
  pub allows : allowed_on flags (Some (symbol_of (get_or out i 0))) ≡ true

module _ (glyphs flags word : List ℕ) where
  found : (i v : ℕ) → allowed_at glyphs flags word i ≡ true → v ≡ byte_at glyphs word i
      → First glyphs (get_or word i 0) v × (allowed_on flags (Some (symbol_of v)) ≡ true)
  unfolding allowed_at byte_at
  found i v h e = by _ (spelt glyphs (get_or word i 0)) h e
    where
      by : (n : Option Symbol) → Spelt glyphs (get_or word i 0) n → allowed_on flags n ≡ true → v ≡ byte_on n
          → First glyphs (get_or word i 0) v × (allowed_on flags (Some (symbol_of v)) ≡ true)
      by n (absent f) h e = let z : ◌≡◌ {A = ℕ} 0 1 = cc in absurd (omega arith)
      by n (first j f) h e = rw e (f, h)

  module _ (out : List ℕ) (accepted : encode_check glyphs flags word (length out) ≡ Ok tt) where
    filled : encode_into glyphs flags word out ≡ fill_from (byte_at glyphs word) (length word) 0 out
    unfolding encode_into
    filled = rw accepted

    fits : ((i : ℕ) → i < length word → allowed_at glyphs flags word i ≡ true) × (length word ≤ length out)
    fits = by _ (answers glyphs flags word (length out)) accepted
      where
        by : (r : Result ⊤ Refusal) → Answers glyphs flags word (length out) r → r ≡ Ok tt
            → ((i : ℕ) → i < length word → allowed_at glyphs flags word i ≡ true) × (length word ≤ length out)
        by r (taken f h) e = (f, h)
        by r (glyph i f) e = let z : ◌≡◌ {A = ℕ} 0 1 = cc in absurd (omega arith)
        by r (short f h) e = let z : ◌≡◌ {A = ℕ} 0 1 = cc in absurd (omega arith)

    pub written : (i : ℕ) → i < length word → Written glyphs flags word (encode_into glyphs flags word out) i
    written i h =
        let v : get_or (encode_into glyphs flags word out) i 0 ≡ byte_at glyphs word i =
        ap (λ (l : List ℕ). get_or l i 0) filled ∙ fill_in (byte_at glyphs word) (length word) 0 out i 0 (omega arith) (omega arith) (omega (arith, fits.1)) in
        let p = found i _ (fits.0 i h) v in
        record { holds = p.0; allows = p.1 }

    -- the places past the word are unchanged
    pub past_word : (i : ℕ) → length word ≤ i → get_or (encode_into glyphs flags word out) i 0 ≡ get_or out i 0
    past_word i h = ap (λ (l : List ℕ). get_or l i 0) filled ∙ fill_past (byte_at glyphs word) (length word) 0 out i 0 (omega arith)

    pub same_size : length (encode_into glyphs flags word out) ≡ length out
    same_size = ap (λ (l : List ℕ). length l) filled ∙ length_fill (byte_at glyphs word) (length word) 0 out
