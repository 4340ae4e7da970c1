-- Facts for the code that prints, one for each return. Assumes nothing.
use Rattle.std.specs.Prelude.{ℕ, ◌+◌, ◌≤◌, ◌≡◌, refl, List, [], ◌∷◌, ◌++◌, length, None, Option, Some}
use Rattle.std.proofs.Common.{add-one, arith}
use Rattle.std.proofs.Math.Seq.{paste, paste-zero}
use Rattle.outcome.specs.declared.Refusal.{Refusal}
use Rattle.outcome.specs.Numbers.{refusal_number, place_of}
use Rattle.machine.specs.declared.Action.{Action}
use Rattle.machine.specs.Layout.{entry_at}
use Rattle.listing_text.specs.Text.{bytes}
use Rattle.listing_text.specs.Show.{show}
use Rattle.listing_text.specs.Model.{Wrote}
use Rattle.listing_text.proofs.Facts.PrintCases.{wrote_then, wrote-put, byte_then}
use Rattle.line_to_listing.specs.Output.{entry_line, entry_text, entry_lines, place_text, refused_text}

wrote_none : (o : List ℕ) (at : ℕ) → at ≤ length o → Wrote o at [] o at
wrote_none o at h = record { ends = omega arith; fits = omega arith; text = paste-zero o at [] }

-- fixed text after text
pub then_put : {o : List ℕ} {at : ℕ} {a o₁ : List ℕ} {r₁ : ℕ} (b o₂ : List ℕ) (r₂ : ℕ) → Wrote o at a o₁ r₁
    → (r₂ ≡ r₁ + length b) × (o₂ ≡ paste o₁ r₁ b (length b)) → r₁ + length b ≤ length o₁ → Wrote o at (a ++ b) o₂ r₂
then_put b o₂ r₂ w p h = wrote_then w (wrote-put _ _ b o₂ r₂ b refl p h)

-- ---- an entry

module _ (o : List ℕ) (at k i : ℕ) (e : Option Action) where
  pub entry_none : e ≡ None → at + 86 ≤ length o → Wrote o at (entry_text k i e) o at × (at ≤ at + 86)
  unfolding entry_text
  entry_none p h = rw p (wrote_none o at (omega arith), omega arith)

  pub entry_some : (a : Action) (o' : List ℕ) (r : ℕ) → e ≡ Some a → Wrote o at (entry_line k i a) o' r × (r ≤ at + 86)
      → Wrote o at (entry_text k i e) o' r × (r ≤ at + 86)
  unfolding entry_text
  entry_some a o' r p w = rw p w

-- ---- entries one after another

module _ (o : List ℕ) (at k : ℕ) (s : List ℕ) where
  pub entries_start : at ≤ length o → Wrote o at (entry_lines k s 0) o at
  unfolding entry_lines
  entries_start h = wrote_none o at h

  pub entries_next : (i : ℕ) (e : Option Action) (o₁ : List ℕ) (r₁ : ℕ) (o₂ : List ℕ) (r₂ : ℕ) → Wrote o at (entry_lines k s i) o₁ r₁ → e ≡ entry_at s i
      → Wrote o₁ r₁ (entry_text k i e) o₂ r₂ → Wrote o at (entry_lines k s (i + 1)) o₂ r₂
  unfolding entry_lines
  entries_next i e o₁ r₁ o₂ r₂ w p v = rw (add-one i, ← p) (wrote_then w v)

  pub entries_end : (i n : ℕ) (o' : List ℕ) (r : ℕ) → i ≡ n → Wrote o at (entry_lines k s i) o' r → Wrote o at (entry_lines k s n) o' r
  entries_end i n o' r e w = rw e at w

-- ---- a refusal

module _ (o : List ℕ) (at : ℕ) (p : Option ℕ) where
  pub place_none : p ≡ None → at + 21 ≤ length o → Wrote o at (place_text p) o at × (at ≤ at + 21)
  unfolding place_text
  place_none e h = rw e (wrote_none o at (omega arith), omega arith)

  pub place_some : (i : ℕ) (o₁ : List ℕ) (r₁ : ℕ) (o' : List ℕ) (r : ℕ) → p ≡ Some i → at + 21 ≤ length o
      → (r₁ ≡ at + 1) × (o₁ ≡ paste o at (32 ∷ []) 1) → Wrote o₁ r₁ (show i) o' r × (r ≤ r₁ + 20) → Wrote o at (place_text p) o' r × (r ≤ at + 21)
  unfolding place_text
  place_some i o₁ r₁ o' r e h q w = rw e (byte_then o at 32 o₁ r₁ (show i) o' r 20 q w (omega arith))

pub refused_done : (why : Refusal) (n : ℕ) (p : Option ℕ) {o o' : List ℕ} {r : ℕ} → n ≡ refusal_number why → p ≡ place_of why
    → Wrote o 0 (bytes "refused " ++ show n ++ place_text p ++ bytes "\n") o' r → Wrote o 0 (refused_text why) o' r
unfolding refused_text
refused_done why n p e f w = rw (← e, ← f) w
