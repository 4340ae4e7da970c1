-- Rows of equal length one after the other: place q × w + c is column c of row q. Assumes nothing.
use Rattle.std.specs.Prelude.{◌≡◌, ℕ, ◌+◌, ◌*◌, ◌/◌, ◌%◌, ◌≤◌, ◌<◌}
use Rattle.std.proofs.Common.{ap, ◌∙◌, mod-eq_of_lt, div-lt_iff_lt-mul, mul-le-mul_right, arith}
use Rattle.std.proofs.Math.Nat.{mul-add-div_right, mul-add-mod_self_right, div-eq_of_lt, div-add-mod}

-- the row and the column of place q × w + c
pub row_of_lem : (w q c : ℕ) → c < w → (q * w + c) / w ≡ q
row_of_lem w q c h =
    let e : c / w ≡ 0 = div-eq_of_lt h in
    mul-add-div_right {m = w} (omega arith) q c ∙ ap (λ (n : ℕ). q + n) e ∙ plus q
  where
    plus : (n : ℕ) → n + 0 ≡ n
    plus n = omega arith

pub rest_of : (w q c : ℕ) → c < w → (q * w + c) % w ≡ c
rest_of w q c h = mul-add-mod_self_right q w c ∙ mod-eq_of_lt h

-- a place of row q of n rows lies among n × w places
pub row_in : (w n q c : ℕ) → q < n → c < w → q * w + c < n * w
row_in w n q c h l = let m : (q + 1) * w ≤ n * w = mul-le-mul_right {m = q + 1} {n = n} w (omega arith) in omega arith

-- a place by its row and its column
pub number_is : (k i : ℕ) → 0 < k → i / k * k + i % k ≡ i
number_is k i h = let e = div-add-mod i k in omega arith

pub row_below : (k rows i : ℕ) → 0 < k → i < rows * k → i / k < rows
row_below k rows i h l = (div-lt_iff_lt-mul {k = k} {x = i} {y = rows} h).1 l
