-- Facts for the line of the input and for its answer. Assumes nothing.
use Rattle.std.specs.Prelude.{ℕ, ◌*◌, ◌-◌, ◌≤◌, ◌<◌, ◌≡◌, refl, List, leb, length, Err, None, Ok, Option, Result, Some}
use Rattle.std.proofs.Math.Path.{sym, ap}
use Rattle.std.proofs.Common.{◌∙◌, arith, leb-true, length-take-le}
use Rattle.std.proofs.Math.ListN.{take}
use Rattle.std.proofs.lemmas.List.{length-replicate}
use Rattle.program_input.specs.Counts.{IsPrefixLen}
use Rattle.notation.specs.Scan.{first_fail}
use Rattle.notation.proofs.Facts.Tests.{pick_cases}
use Rattle.outcome.specs.declared.Refusal.{Refusal}
use Rattle.outcome.specs.declared.Refusal.TheVariants as Why
use Rattle.machine.specs.declared.Machine.{Machine}
use Rattle.table_text_form.specs.Form.{form_of}
use Rattle.table_text_form.proofs.Facts.Columns.{formed_of_form}
use Rattle.table_text_reader.specs.Reading.{has_byte, machine_of, table_size, room_for, lacks_at, read_as, read_of, read_into}
use Rattle.listing_text.specs.Model.{Wrote}
use Rattle.listing_text.proofs.Facts.PrintCases.{wrote_long}
use Rattle.line_to_listing.specs.Output.{line_length, line_in, blank_table, listing_of, refused_text, answer_for, answer_to}

-- ---- the table that was read: it has some symbols, and as many entries as fit

abbrev Fits : ℕ → Result Machine Refusal → Type 0
Fits room (Ok m) = (0 < m.symbols) × (8 * (m.states * m.symbols) ≤ room)
Fits room (Err why) = Unit {0}

room_fits : (rows k room : ℕ) → 0 < k → Fits room (room_for rows k room)
room_fits rows k room h =
    pick_cases (leb (table_size rows k) room) (Ok (machine_of rows k)) (Err Why.OutputSize) (Fits room)
    (λ e. (h, leb-true _ _ e)) (λ e. tt)

read_fits : (line : List ℕ) (room : ℕ) → Fits room (read_of line room)
unfolding read_of
read_fits line room = by (form_of line) refl
  where
    lacks : (x : Option ℕ) (r : Result Machine Refusal) → Fits room r → Fits room (lacks_at x r)
    lacks (Some i) r f = tt
    lacks None r f = f

    by : (x : Result (ℕ × ℕ) ℕ) → form_of line ≡ x → Fits room (read_as x line room)
    by (Err i) e = tt
    by (Ok (rows, k)) e =
        lacks (first_fail (has_byte rows k line) (length line) 0) _
        (room_fits rows k room (omega (arith, (formed_of_form line rows k e).symbols_are.0)))

blank_long : length blank_table ≡ 2080
blank_long = length-replicate {A = ℕ} 2080 0

-- ---- the answer to an input, from what was read of its line

module _ (input : List ℕ) (n : ℕ) (long : n ≡ line_length input) (x : Result Machine Refusal) (t : List ℕ)
    (read : (x ≡ read_of (take n input) (length blank_table)) × (t ≡ read_into (take n input) blank_table)) where
  answer_is : answer_for x t ≡ answer_to input
  unfolding answer_to
  answer_is =
      let l : take n input ≡ line_in input = ap (λ (k : ℕ). take k input) long in
      let a : x ≡ read_of (line_in input) 2080 = read.0 ∙ (λ i. read_of (l i) (blank_long i)) in
      let b : t ≡ read_into (line_in input) blank_table = read.1 ∙ (λ i. read_into (l i) blank_table) in
      λ i. answer_for (a i) (b i)

  pub table_fits : (m : Machine) → x ≡ Ok m → (m.states * m.symbols ≤ 260) × (0 < m.symbols)
  table_fits m e =
      let f : Fits (length blank_table) (Ok m) = rw (sym read.0 ∙ e) at (read_fits (take n input) (length blank_table)) in
      (omega (arith, f.1, blank_long), f.0)

  module _ {o o' : List ℕ} {r : ℕ} where
    printed : Wrote o 0 (answer_to input) o' r → Wrote o 0 (answer_to input) o' r × IsPrefixLen r o'
    printed w =
        let h : r ≤ length o' = omega (arith, w.ends, w.fits, wrote_long w) in
        (w, (h, sym (length-take-le r o' h)))

    pub table_printed : (m : Machine) → x ≡ Ok m → Wrote o 0 (listing_of m t) o' r → Wrote o 0 (answer_to input) o' r × IsPrefixLen r o'
    table_printed m e w = printed (rw (sym (ap (λ (y : Result Machine Refusal). answer_for y t) e) ∙ answer_is) at w)

    pub refused_printed : (why : Refusal) → x ≡ Err why → Wrote o 0 (refused_text why) o' r → Wrote o 0 (answer_to input) o' r × IsPrefixLen r o'
    refused_printed why e w = printed (rw (sym (ap (λ (y : Result Machine Refusal). answer_for y t) e) ∙ answer_is) at w)
