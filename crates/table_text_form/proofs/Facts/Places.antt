-- Entry a of row q: its number in the table, and the row and the column of its place in the line. Assumes nothing.
use Rattle.std.specs.Prelude.{◌≡◌, ℕ, ◌+◌, ◌*◌, ◌/◌, ◌%◌, ◌≤◌, ◌<◌}
use Rattle.std.proofs.Common.{ap, ◌∙◌, mod-eq_of_lt, div-lt_iff_lt-mul, mul-le-mul_right, arith}
use Rattle.std.proofs.Math.Nat.{mul-add-div_right, mul-add-mod_self_right, div-eq_of_lt, div-add-mod}
use Rattle.table_text_form.specs.Line.{place}

-- the quotient and the rest of q × w + c by w
pub row_of_lem : (w q c : ℕ) → c < w → (q * w + c) / w ≡ q
row_of_lem w q c h =
    let e : c / w ≡ 0 = div-eq_of_lt h in
    mul-add-div_right {m = w} (omega arith) q c ∙ ap (λ (n : ℕ). q + n) e ∙ plus q
  where
    plus : (n : ℕ) → n + 0 ≡ n
    plus n = omega arith

pub rest_of : (w q c : ℕ) → c < w → (q * w + c) % w ≡ c
rest_of w q c h = mul-add-mod_self_right q w c ∙ mod-eq_of_lt h

-- c below w of q × w + c with q below n lies below n × w
pub row_in : (w n q c : ℕ) → q < n → c < w → q * w + c < n * w
row_in w n q c h l = let m : (q + 1) * w ≤ n * w = mul-le-mul_right {m = q + 1} {n = n} w (omega arith) in omega arith

module _ (k q a : ℕ) (inside : a < k) where
  -- byte j of the entry's text
  module _ (j : ℕ) (byte : j < 3) where
    pub place_row : (place k q a + j) / (3 * k + 1) ≡ q
    place_row =
        let e : place k q a + j ≡ q * (3 * k + 1) + (3 * a + j) = omega arith in
        ap (λ (n : ℕ). n / (3 * k + 1)) e ∙ row_of_lem (3 * k + 1) q (3 * a + j) (omega arith)

    pub place_col : (place k q a + j) % (3 * k + 1) ≡ 3 * a + j
    place_col =
        let e : place k q a + j ≡ q * (3 * k + 1) + (3 * a + j) = omega arith in
        ap (λ (n : ℕ). n % (3 * k + 1)) e ∙ rest_of (3 * k + 1) q (3 * a + j) (omega arith)

  -- the entry lies in a line of its rows
  pub place_in : (rows n : ℕ) → q < rows → n + 1 ≡ rows * (3 * k + 1) → place k q a + 2 < n
  place_in rows n h e = let l = row_in (3 * k + 1) rows q (3 * a + 3) h (omega arith) in omega arith

-- the number of an entry by its row and column
pub number_is : (k i : ℕ) → 0 < k → i / k * k + i % k ≡ i
number_is k i h = let e = div-add-mod i k in omega arith

pub row_below : (k rows i : ℕ) → 0 < k → i < rows * k → i / k < rows
row_below k rows i h l = (div-lt_iff_lt-mul {k = k} {x = i} {y = rows} h).1 l
