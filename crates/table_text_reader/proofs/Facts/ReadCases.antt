-- Reading a line, one fact for each way through the code. Assumes nothing.
use Rattle.machine.specs.declared.Machine.{Machine}
use Rattle.std.specs.Prelude.{◌≡◌, refl, List, ℕ, ◌+◌, ◌-◌, ◌*◌, ◌/◌, ◌%◌, ◌≤◌, ◌<◌, leb, length, Err, None, Ok, Option, Result, Some}
use Rattle.std.proofs.Math.Path.{sym, ap}
use Rattle.std.proofs.Common.{◌∙◌, mul-le-mul, arith, le-leb}
use Rattle.std.proofs.lemmas.Bool.{lt-leb}
use Rattle.std.proofs.Math.ListN.{get_or}
use Rattle.notation.proofs.Facts.Tests.{pick_true, pick_false}
use Rattle.notation.specs.Fill.{fill_from}
use Rattle.notation.specs.Scan.{first_fail}
use Rattle.outcome.specs.declared.Refusal.{Refusal}
use Rattle.outcome.specs.declared.Refusal.TheVariants as Why
use Rattle.machine.specs.declared.Action.{Action}
use Rattle.table_laws.specs.WellFormed.{entry_bytes}
use Rattle.table_laws.proofs.Facts.Entries.{eight-zeros}
use Rattle.table_text_form.specs.Form.{form_of}
use Rattle.table_text_form.specs.Line.{OfForm}
use Rattle.table_text_reader.specs.Reading.{has_byte, machine_of, entry_in, moves_byte, table_byte, table_size, room_for, read_of, read_on, read_into}

-- ---- an entry

-- byte 6 of a defined entry is the byte of its moves
pub byte_moves : (a : Action) → moves_byte a ≡ get_or (entry_bytes (Some a)) 6 0
byte_moves a = refl

-- ---- the table

module _ (rows k : ℕ) (line : List ℕ) (j : ℕ) (e : Option Action) (read : e ≡ entry_in rows k line (j / 8)) where
  pub byte_undefined : e ≡ None → 0 ≡ table_byte rows k line j
  unfolding table_byte
  byte_undefined u = sym (eight-zeros (j % 8) (omega arith)) ∙ ap (λ (x : Option Action). get_or (entry_bytes x) (j % 8) 0) (sym u ∙ read)

  pub byte_defined : (a : Action) (x : ℕ) → e ≡ Some a → x ≡ get_or (entry_bytes (Some a)) (j % 8) 0 → x ≡ table_byte rows k line j
  unfolding table_byte
  byte_defined a x u p = p ∙ ap (λ (y : Option Action). get_or (entry_bytes y) (j % 8) 0) (sym u ∙ read)

-- ---- the operation

pub size_small : (rows k : ℕ) (line : List ℕ) → OfForm rows k line → (rows + 1) * k ≤ 260
size_small rows k line f = mul-le-mul {n₂ = 26} {m₂ = 10} (omega (arith, f.rows_are.1)) f.symbols_are.1

module _ (rows k : ℕ) (line table : List ℕ) where
  pub read_short : length table < table_size rows k
      → (Err Why.OutputSize ≡ room_for rows k (length table)) × (table ≡ read_on (room_for rows k (length table)) line table)
  read_short h =
      let e = sym (pick_false (leb (table_size rows k) (length table)) (Ok (machine_of rows k)) (Err Why.OutputSize) (lt-leb _ _ h)) in
      (e, ap (λ (r : Result Machine Refusal). read_on r line table) e)

  pub read_filled : (out : List ℕ) → table_size rows k ≤ length table → out ≡ fill_from (table_byte rows k line) (table_size rows k) 0 table
      → (Ok (machine_of rows k) ≡ room_for rows k (length table)) × (out ≡ read_on (room_for rows k (length table)) line table)
  read_filled out h p =
      let e = sym (pick_true (leb (table_size rows k) (length table)) (Ok (machine_of rows k)) (Err Why.OutputSize) (le-leb _ _ h)) in
      let n : rows + 1 - 1 ≡ rows = omega arith in
      (e, p ∙ sym (ap (λ (r : ℕ). fill_from (table_byte r k line) (table_size rows k) 0 table) n) ∙ ap (λ (r : Result Machine Refusal). read_on r line table) e)

-- the answer for a line, whatever the buffer's length
module _ (line : List ℕ) (room : ℕ) where
  pub answer_malformed : (i : ℕ) → form_of line ≡ Err i → read_of line room ≡ Err (Why.MalformedLine i)
  unfolding read_of
  answer_malformed i e = rw e

  module _ (rows k : ℕ) (formed : form_of line ≡ Ok (rows, k)) where
    pub answer_lacks : (i : ℕ) → first_fail (has_byte rows k line) (length line) 0 ≡ Some i → read_of line room ≡ Err (Why.LineLacks i)
    unfolding read_of
    answer_lacks i e = rw (formed, e)

    pub answer_has : first_fail (has_byte rows k line) (length line) 0 ≡ None → read_of line room ≡ room_for rows k room
    unfolding read_of
    answer_has e = rw (formed, e)

found_some : (x : Option ℕ) (i : ℕ) → Some i ≡ x → x ≡ Some i
found_some None i e = let z : ◌≡◌ {A = ℕ} 0 1 = cc in absurd (omega arith)
found_some (Some j) i e = let q : i ≡ j = cc in ap Some (sym q)

found_none : (x : Option ℕ) → None ≡ x → x ≡ None
found_none None e = refl
found_none (Some j) e = let z : ◌≡◌ {A = ℕ} 0 1 = cc in absurd (omega arith)

module _ (line table : List ℕ) where
  -- a refused line leaves the table alone
  alone : (why : Refusal) → read_of line (length table) ≡ Err why → (Err why ≡ read_of line (length table)) × (table ≡ read_into line table)
  unfolding read_into
  alone why e = (sym e, ap (λ (r : Result Machine Refusal). read_on r line table) (sym e))

  module _ (s : Result (ℕ × ℕ) ℕ) (scanned : s ≡ form_of line) where
    pub read_malformed : (i : ℕ) → s ≡ Err i → (Err (Why.MalformedLine i) ≡ read_of line (length table)) × (table ≡ read_into line table)
    read_malformed i e = alone (Why.MalformedLine i) (answer_malformed line (length table) i (sym scanned ∙ e))

    module _ (rows k : ℕ) (formed : s ≡ Ok (rows, k)) (f : Option ℕ) (found : f ≡ (first_fail (has_byte rows k line) (length line) 0)) where
      pub read_lacks : (i : ℕ) → f ≡ Some i → (Err (Why.LineLacks i) ≡ read_of line (length table)) × (table ≡ read_into line table)
      read_lacks i e = alone (Why.LineLacks i) (answer_lacks line (length table) rows k (sym scanned ∙ formed) i (found_some _ i (sym e ∙ found)))

      pub read_has : f ≡ None → (r : Result Machine Refusal) (out : List ℕ) → r ≡ room_for rows k (length table) → out ≡ read_on (room_for rows k (length table)) line table
          → (r ≡ read_of line (length table)) × (out ≡ read_into line table)
      unfolding read_into
      read_has e r out g h =
          let p = answer_has line (length table) rows k (sym scanned ∙ formed) (found_none _ (sym e ∙ found)) in
          (g ∙ sym p, h ∙ ap (λ (x : Result Machine Refusal). read_on x line table) (sym p))
