-- The answers of writing, each exactly where document 02 says. Assumes nothing.
use Rattle.std.specs.Prelude.{◌≡◌, false, ◌↔◌, List, ℕ, ◌+◌, ◌-◌, ◌*◌, ◌≤◌, ◌<◌, leb, Err, Ok, Result}
use Rattle.std.proofs.Common.{sym, ap, subst, ◌∙◌, arith, leb-true, leb-false}
use Rattle.notation.proofs.Facts.Tests.{by_test, clash}
use Rattle.outcome.specs.declared.Refusal.{Refusal}
use Rattle.outcome.specs.declared.Refusal.TheVariants as Why
use Rattle.machine.specs.declared.Machine.{Machine}
use Rattle.machine.specs.Model.Check.{table_check}
use Rattle.table_laws.specs.WellFormed.{WellFormed}
use Rattle.table_text_rows.specs.Rows.{lettered_rows, has_line}
use Rattle.table_text_rows.specs.Meaning.{HasLine}
use Rattle.table_text_rows.proofs.Facts.Rows.{line_says, line_holds}
use Rattle.table_text_writer.specs.Writing.{line_size, write_of}
use Rattle.table_text_writer.proofs.Facts.Writes.{as_none, as_short, as_written}

pub refused_exact : (m : Machine) (s : List ℕ) (room : ℕ) (why : Refusal) → table_check m s ≡ Err why → write_of m s room ≡ Err why
unfolding write_of
refused_exact m s room why e = rw e

-- a table that the check accepts

module _ (m : Machine) (s : List ℕ) (w : WellFormed m s) (room : ℕ) where
  data Wrote : Result ℕ Refusal → Type 0 where
    none : ((z : ℕ) → ¬ (HasLine m s z)) → Wrote (Err Why.NoLine)
    small : (z : ℕ) → HasLine m s z → room < line_size z m.symbols → Wrote (Err Why.OutputSize)
    whole : (z : ℕ) → HasLine m s z → line_size z m.symbols ≤ room → Wrote (Ok (line_size z m.symbols))

  wrote : Wrote (write_of m s room)
  wrote = by_test (has_line m s) (λ t. fits (lettered_rows m s) (line_says m s t)) (λ t. let n = without t in subst Wrote (sym (as_none m s w room n)) (none n))
    where
      without : has_line m s ≡ false → (z : ℕ) → ¬ (HasLine m s z)
      without t z h = clash (line_holds m s z h) t

      fits : (z : ℕ) → HasLine m s z → Wrote (write_of m s room)
      fits z h = by_test (leb (line_size z m.symbols) room)
          (λ t. let l = leb-true _ _ t in subst Wrote (sym (as_written m s w room z h l)) (whole z h l))
          (λ t. let l = leb-false _ _ t in subst Wrote (sym (as_short m s w room z h l)) (small z h l))

  pub none_exact : (write_of m s room ≡ Err Why.NoLine) ↔ ((z : ℕ) → ¬ (HasLine m s z))
  none_exact = (by (write_of m s room) wrote, as_none m s w room)
    where
      by : (x : Result ℕ Refusal) → Wrote x → x ≡ Err Why.NoLine → (z : ℕ) → ¬ (HasLine m s z)
      by x (none n) e = n
      by x (small z h l) e = let y : ◌≡◌ {A = ℕ} 0 1 = cc in absurd (omega arith)
      by x (whole z h l) e = let y : ◌≡◌ {A = ℕ} 0 1 = cc in absurd (omega arith)

  pub small_exact : (write_of m s room ≡ Err Why.OutputSize) ↔ ((z : ℕ) × HasLine m s z × (room < z * (3 * m.symbols + 1) - 1))
  small_exact = (by (write_of m s room) wrote, λ x. as_short m s w room x.0 x.1 x.2)
    where
      by : (x : Result ℕ Refusal) → Wrote x → x ≡ Err Why.OutputSize → (z : ℕ) × HasLine m s z × (room < z * (3 * m.symbols + 1) - 1)
      by x (none n) e = let y : ◌≡◌ {A = ℕ} 0 1 = cc in absurd (omega arith)
      by x (small z h l) e = (z, h, l)
      by x (whole z h l) e = let y : ◌≡◌ {A = ℕ} 0 1 = cc in absurd (omega arith)

  pub written_exact : (n : ℕ) → (write_of m s room ≡ Ok n) ↔ ((z : ℕ) × HasLine m s z × (z * (3 * m.symbols + 1) - 1 ≤ room) × (n ≡ z * (3 * m.symbols + 1) - 1))
  written_exact n = (by (write_of m s room) wrote, λ x. as_written m s w room x.0 x.1 x.2 ∙ ap Ok (sym x.3))
    where
      by : (x : Result ℕ Refusal) → Wrote x → x ≡ Ok n → (z : ℕ) × HasLine m s z × (z * (3 * m.symbols + 1) - 1 ≤ room) × (n ≡ z * (3 * m.symbols + 1) - 1)
      by x (none k) e = let y : ◌≡◌ {A = ℕ} 0 1 = cc in absurd (omega arith)
      by x (small z h l) e = let y : ◌≡◌ {A = ℕ} 0 1 = cc in absurd (omega arith)
      by x (whole z h l) e = (z, h, l, cc)

  pub enough_exact : ((n : ℕ) × (write_of m s room ≡ Ok n)) ↔ ((z : ℕ) × HasLine m s z × (z * (3 * m.symbols + 1) - 1 ≤ room))
  enough_exact = (λ x. let (z, h, l, p) = (written_exact x.0).0 x.1 in (z, h, l), λ x. (line_size x.0 m.symbols, as_written m s w room x.0 x.1 x.2))
