-- Numbers of eight bytes in a slot, and parts of it: reading gives what was written. Assumes nothing.
use Rattle.std.specs.Prelude.{◌≡◌, length, drop, get_or}
use Rattle.std.proofs.Math.Path.{refl}
use Rattle.std.proofs.Common.{sym, ◌∙◌, ap, arith, length-drop, get_or-take, get_or-drop, length-take-le}
use mathlib.Core.List.{List}
use Prim.Native.Nat.{ℕ, zero, suc, ◌+◌, ◌*◌, ◌/◌, ◌≤◌, ◌<◌}
use Rattle.std.proofs.Math.Decide.{dec_lt}
use Rattle.std.proofs.Math.Seq.{paste}
use Rattle.store_bytes.specs.Bytes.{get16, get32, get64, put64, Agree}
use Rattle.store_bytes.proofs.Facts.Bytes.{agree_then, length-put64, put64_agree, get64_agree, get_put64}
use Rattle.store_bytes.proofs.Facts.Slots.{paste_same}
use Rattle.rle_slots.specs.Model.Slots.{put_numbers, part, numbers_from, numbers_in}

-- ---- a list of numbers, as it is read

pub length_numbers : (b : List ℕ) (at n : ℕ) → length (numbers_from b at n) ≡ n
unfolding numbers_from
length_numbers b at zero = refl
length_numbers b at (suc n) = ap suc (length_numbers b (at + 8) n)

pub number_from : (b : List ℕ) (at n j : ℕ) → j < n → get_or (numbers_from b at n) j 0 ≡ get64 b (at + 8 * j)
unfolding numbers_from
number_from b at zero j h = absurd (omega arith)
number_from b at (suc n) zero h = let e : at ≡ at + 8 * 0 = omega arith in ap (get64 b) e
number_from b at (suc n) (suc j) h =
    let e : at + 8 + 8 * j ≡ at + 8 * suc j = omega arith in
    number_from b (at + 8) n j (omega arith) ∙ ap (get64 b) e

pub number_in_lem : (b : List ℕ) (j : ℕ) → 8 * j + 8 ≤ length b → get64 b (8 * j) ≡ get_or (numbers_in b) j 0
number_in_lem b j h =
    let e : 8 * j ≡ 0 + 8 * j = omega arith in
    ap (get64 b) e ∙ sym (number_from b 0 (length b / 8) j (omega arith))

pub length_in : (b : List ℕ) (n : ℕ) → length b ≡ 8 * n → length (numbers_in b) ≡ n
length_in b n e =
    let k : length b / 8 ≡ n = omega arith in
    length_numbers b 0 (length b / 8) ∙ k

-- ---- a part of a list

pub length_part : (b : List ℕ) (at n : ℕ) → at + n ≤ length b → length (part b at n) ≡ n
length_part b at n h = length-take-le n (drop at b) (omega (arith, length-drop at b))

pub part_byte : (b : List ℕ) (at n j : ℕ) → j < n → get_or (part b at n) j 0 ≡ get_or b (at + j) 0
part_byte b at n j h = get_or-take n (drop at b) j 0 h ∙ get_or-drop at b j 0

part_next : (b : List ℕ) (at n j : ℕ) → suc j < n → get_or (part b at n) (j + 1) 0 ≡ get_or b (at + j + 1) 0
part_next b at n j h =
    let e : at + (j + 1) ≡ at + j + 1 = omega arith in
    part_byte b at n (j + 1) (omega arith) ∙ ap (λ i. get_or b i 0) e

part-get16 : (b : List ℕ) (at n j : ℕ) → j + 2 ≤ n → get16 (part b at n) j ≡ get16 b (at + j)
unfolding get16
part-get16 b at n j h = omega (arith, part_byte b at n j (omega arith), part_next b at n j (omega arith))

part-get32 : (b : List ℕ) (at n j : ℕ) → j + 4 ≤ n → get32 (part b at n) j ≡ get32 b (at + j)
unfolding get32
part-get32 b at n j h =
    let e : at + (j + 2) ≡ at + j + 2 = omega arith in
    omega (arith, part-get16 b at n j (omega arith), part-get16 b at n (j + 2) (omega arith), ap (get16 b) e)

pub part-get64 : (b : List ℕ) (at n j : ℕ) → j + 8 ≤ n → get64 (part b at n) j ≡ get64 b (at + j)
unfolding get64
part-get64 b at n j h =
    let e : at + (j + 4) ≡ at + j + 4 = omega arith in
    omega (arith, part-get32 b at n j (omega arith), part-get32 b at n (j + 4) (omega arith), ap (get32 b) e)

-- ---- what a copy holds

pub paste_byte : (d : List ℕ) (at : ℕ) (s : List ℕ) (n j : ℕ) → at + n ≤ length d → n ≤ length s → j < n → get_or (paste d at s n) (at + j) 0 ≡ get_or s j 0
paste_byte d at s n j h k l =
    sym (part_byte (paste d at s n) at n j l) ∙ ap (λ (x : List ℕ). get_or x j 0) (paste_same d at s n h k) ∙ get_or-take n s j 0 l

-- ---- a list of numbers, as it is written

module _ (b : List ℕ) (at : ℕ) (xs : List ℕ) where
  pub length_put_numbers : (n : ℕ) → length (put_numbers b at xs n) ≡ length b
  unfolding put_numbers
  length_put_numbers zero = refl
  length_put_numbers (suc n) = length-put64 (put_numbers b at xs n) (at + 8 * n) (get_or xs n 0) ∙ length_put_numbers n

  pub put_numbers_agree : (n lo hi : ℕ) → hi ≤ at → Agree (put_numbers b at xs n) b lo hi
  unfolding put_numbers
  put_numbers_agree zero lo hi h = λ j l k. refl
  put_numbers_agree (suc n) lo hi h =
      agree_then (put64 (put_numbers b at xs n) (at + 8 * n) (get_or xs n 0)) (put_numbers b at xs n) b lo hi
      (put64_agree (put_numbers b at xs n) (at + 8 * n) (get_or xs n 0) lo hi (λ j l k m. omega arith)) (put_numbers_agree n lo hi h)

  pub get_put_numbers : (n j : ℕ) → at + 8 * n ≤ length b → j < n → get64 (put_numbers b at xs n) (at + 8 * j) ≡ get_or xs j 0
  unfolding put_numbers
  get_put_numbers zero j h l = absurd (omega arith)
  get_put_numbers (suc n) j h l = by (dec_lt j n) (get_put_numbers n j (omega arith))
    where
      before : List ℕ
      before = put_numbers b at xs n

      by : Dec (j < n) → (j < n → get64 before (at + 8 * j) ≡ get_or xs j 0) → get64 (put64 before (at + 8 * n) (get_or xs n 0)) (at + 8 * j) ≡ get_or xs j 0
      by (yes k) ih =
          get64_agree (put64 before (at + 8 * n) (get_or xs n 0)) before (at + 8 * j)
          (put64_agree before (at + 8 * n) (get_or xs n 0) (at + 8 * j) (at + 8 * j + 8) (λ i p q r. omega arith)) ∙ ih k
      by (no k) ih =
          let e : j ≡ n = omega arith in
          ap (λ i. get64 (put64 before (at + 8 * n) (get_or xs n 0)) (at + 8 * i)) e
          ∙ get_put64 before (at + 8 * n) (get_or xs n 0) (omega (arith, length_put_numbers n)) ∙ ap (λ i. get_or xs i 0) (sym e)
