-- Each place of a line is a byte of an entry or the underscore after a row. Assumes nothing.
use Rattle.std.specs.Prelude.{◌≡◌, ℕ, ◌+◌, ◌*◌, ◌/◌, ◌%◌, ◌<◌, eqb}
use Rattle.std.proofs.Common.{ap, ◌∙◌, mod-lt, lt_of_mul-lt-mul_right, arith}
use Rattle.std.proofs.Math.Decide.{ℕ_discrete}
use Rattle.table_text_form.specs.Line.{place}
use Rattle.table_text_form.proofs.Facts.Places.{rest_of, place_col, number_is}
use Rattle.table_text_reader.specs.Reading.{letter_place}

-- place i of a line of so many rows and symbols
pub data Column (rows k i : ℕ) : Type 0 where
  byte : (q a j : ℕ) → q < rows → a < k → j < 3 → i ≡ place k q a + j → Column rows k i
  bar : (q : ℕ) → q + 1 < rows → i ≡ place k q k → Column rows k i

pub column : (rows k n i : ℕ) → n + 1 ≡ rows * (3 * k + 1) → i < n → Column rows k i
column rows k n i size h = by (ℕ_discrete (i % (3 * k + 1)) (3 * k))
  where
    q : ℕ
    q = i / (3 * k + 1)

    c : ℕ
    c = i % (3 * k + 1)

    whole : q * (3 * k + 1) + c ≡ i
    whole = number_is (3 * k + 1) i (omega arith)

    below : c < 3 * k + 1
    below = mod-lt i {m = 3 * k + 1} (omega arith)

    by : Dec (c ≡ 3 * k) → Column rows k i
    by (yes e) =
        let l : (q + 1) * (3 * k + 1) < rows * (3 * k + 1) = omega (arith, whole) in
        bar q (lt_of_mul-lt-mul_right (3 * k + 1) {m = q + 1} {n = rows} l) (omega (arith, whole))
    by (no f) =
        let l : q * (3 * k + 1) < rows * (3 * k + 1) = omega (arith, whole) in
        byte q (c / 3) (c % 3) (lt_of_mul-lt-mul_right (3 * k + 1) {m = q} {n = rows} l) (omega (arith, below)) (omega arith) (omega (arith, whole))

-- the third byte of an entry is the next state's
pub letter_place_lem : (k q a j : ℕ) → a < k → j < 3 → letter_place k (place k q a + j) ≡ eqb j 2
letter_place_lem k q a j h l =
    let e = place_col k q a h j l in
    let p : (place k q a + j) % (3 * k + 1) % 3 ≡ j = ap (λ (n : ℕ). n % 3) e ∙ third in
    ap (λ (n : ℕ). eqb n 2) p
  where
    third : (3 * a + j) % 3 ≡ j
    third = omega arith

pub bar_col : (k q : ℕ) → place k q k % (3 * k + 1) ≡ 3 * k
bar_col k q = rest_of (3 * k + 1) q (3 * k) (omega arith)
