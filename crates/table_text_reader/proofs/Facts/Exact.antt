-- The answers of reading, each exactly where document 02 says. Assumes nothing.
use Rattle.outcome.specs.declared.Refusal.{Refusal}
use Rattle.std.specs.Prelude.{◌≡◌, refl, ◌↔◌, List, ℕ, ◌+◌, ◌*◌, ◌≤◌, ◌<◌, leb, Err, Ok, Result}
use Rattle.std.proofs.Common.{sym, ap, subst, ◌∙◌, arith, le-leb}
use Rattle.std.proofs.lemmas.Bool.{lt-leb}
use Rattle.notation.proofs.Facts.Tests.{pick_true, pick_false}
use Rattle.outcome.specs.declared.Refusal.TheVariants as Why
use Rattle.machine.specs.declared.Machine.{Machine}
use Rattle.table_text_form.specs.Line.{MalformedAt}
use Rattle.table_text_form.proofs.Facts.Place.{malformed_form}
use Rattle.table_text_reader.specs.Reading.{machine_of, table_size, read_of}
use Rattle.table_text_reader.specs.Meaning.{FirstLacking, GoodLine}
use Rattle.table_text_reader.proofs.Facts.ReadCases.{answer_malformed}
use Rattle.table_text_reader.proofs.Facts.Reads.{as_lacking, as_good, Answer, malformed, lacking, short, good, answer}

module _ (line : List ℕ) (room : ℕ) where
  pub malformed_exact : (i : ℕ) → (read_of line room ≡ Err (Why.MalformedLine i)) ↔ MalformedAt line i
  malformed_exact i = (by (read_of line room) (answer line room), λ m. answer_malformed line room i (malformed_form line i m))
    where
      by : (x : Result Machine Refusal) → Answer line room x → x ≡ Err (Why.MalformedLine i) → MalformedAt line i
      by x (malformed j m) e = let q : j ≡ i = cc in subst (MalformedAt line) q m
      by x (lacking j l) e = let z : ◌≡◌ {A = ℕ} 0 1 = cc in absurd (omega arith)
      by x (short rows k g l) e = let z : ◌≡◌ {A = ℕ} 0 1 = cc in absurd (omega arith)
      by x (good rows k g l) e = let z : ◌≡◌ {A = ℕ} 0 1 = cc in absurd (omega arith)

  pub lacking_exact : (i : ℕ) → (read_of line room ≡ Err (Why.LineLacks i)) ↔ FirstLacking line i
  lacking_exact i = (by (read_of line room) (answer line room), λ l. as_lacking line room l.rows l.symbols l.of_form i l.lacks l.first)
    where
      by : (x : Result Machine Refusal) → Answer line room x → x ≡ Err (Why.LineLacks i) → FirstLacking line i
      by x (malformed j m) e = let z : ◌≡◌ {A = ℕ} 0 1 = cc in absurd (omega arith)
      by x (lacking j l) e = let q : j ≡ i = cc in subst (FirstLacking line) q l
      by x (short rows k g l) e = let z : ◌≡◌ {A = ℕ} 0 1 = cc in absurd (omega arith)
      by x (good rows k g l) e = let z : ◌≡◌ {A = ℕ} 0 1 = cc in absurd (omega arith)

  pub short_exact : (read_of line room ≡ Err Why.OutputSize) ↔ ((rows : ℕ) × (k : ℕ) × GoodLine rows k line × (room < 8 * ((rows + 1) * k)))
  short_exact = (by (read_of line room) (answer line room), back)
    where
      by : (x : Result Machine Refusal) → Answer line room x → x ≡ Err Why.OutputSize → (rows : ℕ) × (k : ℕ) × GoodLine rows k line × (room < 8 * ((rows + 1) * k))
      by x (malformed j m) e = let z : ◌≡◌ {A = ℕ} 0 1 = cc in absurd (omega arith)
      by x (lacking j l) e = let z : ◌≡◌ {A = ℕ} 0 1 = cc in absurd (omega arith)
      by x (short rows k g l) e = (rows, k, g, l)
      by x (good rows k g l) e = let z : ◌≡◌ {A = ℕ} 0 1 = cc in absurd (omega arith)

      back : (rows : ℕ) × (k : ℕ) × GoodLine rows k line × (room < 8 * ((rows + 1) * k)) → read_of line room ≡ Err Why.OutputSize
      back (rows, k, g, l) = as_good line room rows k g.of_form g.has ∙ pick_false (leb (table_size rows k) room) (Ok (machine_of rows k)) (Err Why.OutputSize) (lt-leb _ _ l)

  pub read_exact : (m : Machine) → (read_of line room ≡ Ok m) ↔ ((rows : ℕ) × (k : ℕ) × GoodLine rows k line × (8 * ((rows + 1) * k) ≤ room) × (m ≡ machine_of rows k))
  read_exact m = (by (read_of line room) (answer line room), back)
    where
      by : (x : Result Machine Refusal) → Answer line room x → x ≡ Ok m → (rows : ℕ) × (k : ℕ) × GoodLine rows k line × (8 * ((rows + 1) * k) ≤ room) × (m ≡ machine_of rows k)
      by x (malformed j n) e = let z : ◌≡◌ {A = ℕ} 0 1 = cc in absurd (omega arith)
      by x (lacking j l) e = let z : ◌≡◌ {A = ℕ} 0 1 = cc in absurd (omega arith)
      by x (short rows k g l) e = let z : ◌≡◌ {A = ℕ} 0 1 = cc in absurd (omega arith)
      by x (good rows k g l) e = (rows, k, g, l, cc)

      back : (rows : ℕ) × (k : ℕ) × GoodLine rows k line × (8 * ((rows + 1) * k) ≤ room) × (m ≡ machine_of rows k) → read_of line room ≡ Ok m
      back (rows, k, g, l, e) =
          as_good line room rows k g.of_form g.has ∙ pick_true (leb (table_size rows k) room) (Ok (machine_of rows k)) (Err Why.OutputSize) (le-leb _ _ l) ∙ ap Ok (sym e)

  pub accepted_exact : ((m : Machine) × (read_of line room ≡ Ok m)) ↔ ((rows : ℕ) × (k : ℕ) × GoodLine rows k line × (8 * ((rows + 1) * k) ≤ room))
  accepted_exact = (forth, back)
    where
      forth : (m : Machine) × (read_of line room ≡ Ok m) → (rows : ℕ) × (k : ℕ) × GoodLine rows k line × (8 * ((rows + 1) * k) ≤ room)
      forth (m, e) = let (rows, k, g, l, p) = (read_exact m).0 e in (rows, k, g, l)

      back : (rows : ℕ) × (k : ℕ) × GoodLine rows k line × (8 * ((rows + 1) * k) ≤ room) → (m : Machine) × (read_of line room ≡ Ok m)
      back (rows, k, g, l) = (machine_of rows k, (read_exact (machine_of rows k)).1 (rows, k, g, l, refl))
