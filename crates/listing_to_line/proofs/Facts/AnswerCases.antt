-- Facts for the line of a table and for the answer to an input, one for each return. Assumes nothing.
use Rattle.std.specs.Prelude.{ℕ, ◌+◌, ◌*◌, ◌≤◌, ◌≡◌, refl, List, ◌∷◌, [], ◌++◌, leb, length, take, Err, Ok, Result, ⊤}
use Rattle.std.proofs.Common.{sym, ◌∙◌, arith, leb-true, length-take, length-take-le}
use Rattle.std.proofs.Math.Path.{ap}
use Rattle.std.proofs.lemmas.List.{length-replicate}
use Rattle.std.proofs.Math.Seq.{paste}
use Rattle.program_input.specs.Counts.{IsPrefixLen}
use Rattle.notation.proofs.Facts.Tests.{pick_cases}
use Rattle.outcome.specs.declared.Refusal.{Refusal}
use Rattle.outcome.specs.declared.Refusal.TheVariants as Why
use Rattle.outcome.specs.Numbers.{refusal_number}
use Rattle.machine.specs.declared.Machine.{Machine}
use Rattle.machine.specs.Model.Check.{table_check}
use Rattle.table_text_rows.specs.Rows.{has_line}
use Rattle.table_text_writer.specs.Writing.{size_of, written_on, write_of, write_into}
use Rattle.listing_text.specs.Text.{bytes}
use Rattle.listing_text.specs.Show.{show}
use Rattle.listing_text.specs.Model.{Wrote}
use Rattle.listing_text.proofs.Facts.PrintCases.{wrote_long, wrote_then, wrote-put}
use Rattle.listing_reader.specs.declared.Reader.{Reader}
use Rattle.listing_reader.specs.declared.Contents.{Contents}
use Rattle.listing_reader.specs.Contents.{contents_of}
use Rattle.listing_reader.specs.Invariants.{sofar}
use Rattle.listing_reader.proofs.Facts.Accepted.{contents_bad, contents_asked, contents_ok}
use Rattle.listing_to_line.specs.Output.{text_for, blank_line, line_of, answer_for, answer_to}

-- ---- a line that was written lies in the lent bytes

abbrev Fits : ℕ → Result ℕ Refusal → Type 0
Fits room (Ok n) = n ≤ room
Fits room (Err why) = Unit {0}

write_fits : (m : Machine) (s : List ℕ) (room : ℕ) → Fits room (write_of m s room)
unfolding write_of
write_fits m s room =
    by (table_check m s) _
    (pick_cases (has_line m s) _ (Err Why.NoLine) (Fits room)
    (λ _. pick_cases (leb (size_of m s) room) (Ok (size_of m s)) (Err Why.OutputSize) (Fits room) (λ e. leb-true _ _ e) (λ _. tt))
    (λ _. tt))
  where
    by : (c : Result ⊤ Refusal) (w : Result ℕ Refusal) → Fits room w → Fits room (written_on c w)
    by (Err why) w f = tt
    by (Ok tt) w f = f

blank_long : length blank_line ≡ 774
blank_long = length-replicate {A = ℕ} 774 0

module _ (m : Machine) (s : List ℕ) (x : Result ℕ Refusal) (l : List ℕ)
    (written : (x ≡ write_of m s (length blank_line)) × (l ≡ write_into m s blank_line)) where
  text_is : text_for x l ≡ line_of m s
  unfolding line_of
  text_is = λ i. text_for ((written.0 ∙ ap (write_of m s) blank_long) i) (written.1 i)

  pub line_fits : (n : ℕ) → x ≡ Ok n → n ≤ 774
  line_fits n e =
      let f : n ≤ length blank_line = rw (sym written.0 ∙ e) at (write_fits m s (length blank_line)) in
      omega (arith, f, blank_long)

  module _ {o o' : List ℕ} {r : ℕ} where
    pub line_printed : (n : ℕ) → x ≡ Ok n → Wrote o 0 (take n l ++ bytes "\n") o' r → Wrote o 0 (line_of m s) o' r
    line_printed n e w = rw (sym (ap (λ (y : Result ℕ Refusal). text_for y l) e) ∙ text_is) at w

    pub table_refused : (why : Refusal) (n : ℕ) → x ≡ Err why → n ≡ refusal_number why → Wrote o 0 (bytes "refused table " ++ show n ++ bytes "\n") o' r
        → Wrote o 0 (line_of m s) o' r
    table_refused why n e p w = rw (sym (ap (λ (y : Result ℕ Refusal). text_for y l) e) ∙ text_is) at (rw p at w)

pub line_room : (l : List ℕ) (n room : ℕ) → n ≤ 774 → 65536 ≤ room → length (take n l) + 1 ≤ room
line_room l n room f h = simp length-take (omega arith)

-- ---- fixed text at the start, and a newline at the end

pub put_first : (o b o' : List ℕ) (r : ℕ) → (r ≡ 0 + length b) × (o' ≡ paste o 0 b (length b)) → length b ≤ length o → Wrote o 0 b o' r
put_first o b o' r p h = wrote-put o 0 b o' r b refl p (omega arith)

pub then_newline : {o : List ℕ} {a o₁ : List ℕ} {r₁ : ℕ} (o₂ : List ℕ) (r₂ : ℕ) → Wrote o 0 a o₁ r₁ → (r₂ ≡ r₁ + 1) × (o₂ ≡ paste o₁ r₁ (10 ∷ []) 1) → r₁ + 1 ≤ length o₁
    → Wrote o 0 (a ++ bytes "\n") o₂ r₂
then_newline o₂ r₂ w p h = wrote_then w (wrote-put _ _ (10 ∷ []) o₂ r₂ (10 ∷ []) refl p h)

-- ---- the answer to an input, from what was read of it

module _ (input : List ℕ) (g : Contents) (says : g ≡ contents_of input) (x : Reader) (asked : g.parsed ≡ Ok x) where
  pub few_entries : x.machine.states * x.machine.symbols ≤ 512
  few_entries = (contents_ok input g says x asked).small.few

  pub table_holds : length g.table ≡ 4096 → 8 * (x.machine.states * x.machine.symbols) ≤ length g.table
  table_holds h = omega (arith, few_entries)

module _ (input : List ℕ) (g : Contents) (says : g ≡ contents_of input) {o o' : List ℕ} {r : ℕ} where
  printed : Wrote o 0 (answer_to input) o' r → Wrote o 0 (answer_to input) o' r × IsPrefixLen r o'
  printed w =
      let h : r ≤ length o' = omega (arith, w.ends, w.fits, wrote_long w) in
      (w, (h, sym (length-take-le r o' h)))

  pub bad_printed : (n : ℕ) → g.parsed ≡ Err n → Wrote o 0 (bytes "refused " ++ show n ++ bytes "\n") o' r
      → Wrote o 0 (answer_to input) o' r × IsPrefixLen r o'
  unfolding answer_to answer_for
  bad_printed n z w = printed (rw (contents_bad input g says n z) w)

  pub asked_printed : (x : Reader) → g.parsed ≡ Ok x → Wrote o 0 (line_of x.machine (take (8 * (x.machine.states * x.machine.symbols)) g.table)) o' r
      → Wrote o 0 (answer_to input) o' r × IsPrefixLen r o'
  unfolding answer_to answer_for sofar
  asked_printed x z w = printed (rw (contents_asked input g says x z) w)
