-- The text of an entry, by the entry's number. Assumes nothing.
use Rattle.std.specs.Prelude.{◌≡◌, List, ℕ, ◌+◌, ◌*◌, ◌/◌, ◌%◌, ◌<◌, length}
use Rattle.std.proofs.Common.{sym, ap, subst, ◌∙◌, mod-lt, arith}
use Rattle.table_text_form.specs.Line.{place, EntryAt, OfForm}
use Rattle.table_text_form.proofs.Facts.Places.{row_of_lem, place_in, number_is, row_below}
use Rattle.table_text_reader.specs.Reading.{text_place}

pub text_place_lem : (k q a : ℕ) → a < k → text_place k (q * k + a) ≡ place k q a
text_place_lem k q a inside = let e : (q * k + a) / k ≡ q = row_of_lem k q a inside in omega arith

-- the text of entry i of a line of the form
module _ (rows k : ℕ) (line : List ℕ) (f : OfForm rows k line) (i : ℕ) (h : i < rows * k) where
  abbrev row : ℕ
  row = i / k

  abbrev col : ℕ
  col = i % k

  some : 0 < k
  some = omega (arith, f.symbols_are.0)

  pub text_is : text_place k i ≡ place k (i / k) (i % k)
  text_is = ap (text_place k) (sym (number_is k i some)) ∙ text_place_lem k row col (mod-lt i some)

  pub text_in : text_place k i + 2 < length line
  text_in = let p = place_in k row col (mod-lt i some) rows (length line) (row_below k rows i some h) f.size in let e = text_is in omega arith

  pub text_entry : EntryAt line (text_place k i)
  text_entry = subst (EntryAt line) (sym text_is) (f.entries row col (row_below k rows i some h) (mod-lt i some))
