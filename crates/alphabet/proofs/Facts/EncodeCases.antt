-- The encoder, one fact for each way through the code. Assumes nothing.
use Rattle.std.specs.Prelude.{refl, take, ◌≡◌, Bool, true, false, not, List, ℕ, ◌≤◌, ◌<◌, min, eqb, length, get_or, Err, Ok, Option, Result, ⊤}
use Rattle.std.proofs.Math.Path.{sym}
use Rattle.std.proofs.Math.Nat.{min_comm}
use Rattle.std.proofs.Common.{ap, ◌∙◌, arith}
use Rattle.std.specs.List.{position}
use Rattle.std.proofs.lemmas.List.{length-take, get_or-take, take_min}
use Rattle.notation.proofs.Facts.Parts.{position-scan}
use borrow.Author.Tests.{le-leb, lt-leb}
use Rattle.notation.specs.Choice.{pick}
use Rattle.notation.specs.Scan.{first_fail}
use Rattle.notation.specs.Fill.{fill_from}
use Rattle.outcome.specs.declared.Refusal.{Refusal}
use Rattle.outcome.specs.declared.Refusal.TheVariants as Why
use Rattle.machine.specs.Model.Check.{answer_at}
use Rattle.alphabet.specs.Model.{differs, named, symbol_for, allowed_on, allowed_at, byte_at, glyphs_check, encode_check, encode_into}

-- ---- the searches

not-not : (b : Bool) → b ≡ not (not b)
not-not true = refl
not-not false = refl

-- the place of the first equal glyph among the first 256
pub place-symbol : (glyphs : List ℕ) (glyph : ℕ) (r : Option ℕ) → r ≡ position (λ g. eqb g glyph) (take 256 glyphs) → named r ≡ symbol_for glyphs glyph
unfolding symbol_for
place-symbol glyphs glyph r e =
    ap named (e ∙ position-scan (λ g. eqb g glyph) (differs glyphs glyph) (take 256 glyphs) same ∙ ap (λ n. first_fail (differs glyphs glyph) n 0) size)
  where
    size : length (take 256 glyphs) ≡ min (length glyphs) 256
    size = omega (arith, length-take 256 glyphs)

    same : (j : ℕ) → j < length (take 256 glyphs) → eqb (get_or (take 256 glyphs) j 0) glyph ≡ not (differs glyphs glyph j)
    same j h = rw (get_or-take 256 glyphs j 0 (omega (arith, size))) (not-not (eqb (get_or glyphs j 0) glyph))

-- the same place, where `searched` are these glyphs
pub place-searched : (glyphs : List ℕ) (glyph : ℕ) (r : Option ℕ) (most : ℕ) (searched : List ℕ) → r ≡ position (λ g. eqb g glyph) searched
    → most ≡ min (length glyphs) 256 → searched ≡ take most glyphs → named r ≡ symbol_for glyphs glyph
place-searched glyphs glyph r most searched e m first =
    place-symbol glyphs glyph r (e ∙ ap (position (λ g. eqb g glyph)) (first ∙ ap (λ n. take n glyphs) (m ∙ min_comm (length glyphs) 256) ∙ take_min 256 glyphs))

-- the place of the first glyph that is not allowed
pub place-check : (glyphs flags word : List ℕ) (r : Option ℕ) → r ≡ position (λ g. not (allowed_on flags (symbol_for glyphs g))) word
    → answer_at Why.Glyph r ≡ glyphs_check glyphs flags word
unfolding glyphs_check allowed_at
place-check glyphs flags word r e =
    ap (answer_at Why.Glyph) (e ∙ position-scan (λ g. not (allowed_on flags (symbol_for glyphs g))) (allowed_at glyphs flags word) word (λ j h. refl))

-- ---- what is written

-- the answer, and the output afterwards
pub record Encodes (glyphs flags word out out₁ : List ℕ) (r : Result ⊤ Refusal) : Type 0 where
  pub answer : r ≡ encode_check glyphs flags word (length out)
  pub holds : out₁ ≡ encode_into glyphs flags word out

module _ (glyphs flags word out : List ℕ) (r : Result ⊤ Refusal) (checked : r ≡ glyphs_check glyphs flags word) where
  left_alone : (why : Refusal) → encode_check glyphs flags word (length out) ≡ Err why → Encodes glyphs flags word out out (Err why)
  unfolding encode_into
  left_alone why e = record { answer = sym e; holds = rw e }

  pub encodes_refused : (why : Refusal) → r ≡ Err why → Encodes glyphs flags word out out (Err why)
  unfolding encode_check
  encodes_refused why e = left_alone why (rw (← checked, e))

  pub encodes_short : r ≡ Ok tt → length out < length word → Encodes glyphs flags word out out (Err Why.OutputSize)
  unfolding encode_check pick
  encodes_short e h = left_alone Why.OutputSize (rw (← checked, e, lt-leb _ _ h))

  accepts : r ≡ Ok tt → length word ≤ length out → encode_check glyphs flags word (length out) ≡ Ok tt
  unfolding encode_check pick
  accepts e h = rw (← checked, e, le-leb _ _ h)

  pub encodes_whole : (out₁ : List ℕ) → r ≡ Ok tt → length word ≤ length out → out₁ ≡ fill_from (byte_at glyphs word) (length word) 0 out
      → Encodes glyphs flags word out out₁ (Ok tt)
  unfolding encode_into
  encodes_whole out₁ e h p =
      let a : encode_check glyphs flags word (length out) ≡ (Ok tt) = accepts e h in
      record { answer = sym a; holds = p ∙ rw a }
