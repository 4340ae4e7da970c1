-- Little-endian numbers in bytes: a number that is written is read back, and the other bytes stay. Assumes nothing.
use Rattle.std.specs.Prelude.{ℕ, refl, ◌+◌, ◌/◌, ◌%◌, ◌≤◌, ◌<◌, ◌≡◌, List, [], ◌∷◌, ◌++◌, ◌^◌, length, take, drop, get_or, set}
use Rattle.std.proofs.Common.{◌∙◌, ap, arith, length-set, length-append, get_or-set_same, get_or-set_other, get_or-take, length-take-le}
use Rattle.std.proofs.Math.ListN.{get_or-append}
use Rattle.std.proofs.Math.Seq.{paste}
use Rattle.std.proofs.lemmas.List.Edits.{paste_none, paste_more, paste-paste}
use Rattle.std.specs.Int.{to_le_bytes, w16, w32, w64}
use Rattle.store_bytes.specs.Bytes.{get16, get32, get64, put16, put32, put64, Agree, Apart}

-- ---- reading a number that was written. No bound on x is needed: the top byte takes the rest.
pub agree_then : (s t u : List ℕ) (lo hi : ℕ) → Agree s t lo hi → Agree t u lo hi → Agree s u lo hi
agree_then s t u lo hi a b j l h = a j l h ∙ b j l h

set_agree : (s : List ℕ) (at a lo hi : ℕ) → Apart at 1 lo hi → Agree (set s at a) s lo hi
set_agree s at a lo hi p j l h = get_or-set_other s at j a 0 (λ e. absurd (omega (arith, e, p j l h (omega (arith, e)))))

pub length-put16 : (s : List ℕ) (at x : ℕ) → length (put16 s at x) ≡ length s
unfolding put16
length-put16 s at x = length-set (set s at (x % 256)) (at + 1) (x / 256) ∙ length-set s at (x % 256)

pub length-put32 : (s : List ℕ) (at x : ℕ) → length (put32 s at x) ≡ length s
unfolding put32
length-put32 s at x = length-put16 (put16 s at (x % 65536)) (at + 2) (x / 65536) ∙ length-put16 s at (x % 65536)

pub length-put64 : (s : List ℕ) (at x : ℕ) → length (put64 s at x) ≡ length s
unfolding put64
length-put64 s at x = length-put32 (put32 s at (x % 4294967296)) (at + 4) (x / 4294967296) ∙ length-put32 s at (x % 4294967296)

pub put16_agree : (s : List ℕ) (at x lo hi : ℕ) → Apart at 2 lo hi → Agree (put16 s at x) s lo hi
unfolding put16
put16_agree s at x lo hi p = agree_then (set (set s at (x % 256)) (at + 1) (x / 256)) (set s at (x % 256)) s lo hi
    (set_agree (set s at (x % 256)) (at + 1) (x / 256) lo hi (λ j l h k. omega (arith, p j l h (omega arith))))
    (set_agree s at (x % 256) lo hi (λ j l h k. omega (arith, p j l h k)))

pub put32_agree : (s : List ℕ) (at x lo hi : ℕ) → Apart at 4 lo hi → Agree (put32 s at x) s lo hi
unfolding put32
put32_agree s at x lo hi p = agree_then (put16 (put16 s at (x % 65536)) (at + 2) (x / 65536)) (put16 s at (x % 65536)) s lo hi
    (put16_agree (put16 s at (x % 65536)) (at + 2) (x / 65536) lo hi (λ j l h k. omega (arith, p j l h (omega arith))))
    (put16_agree s at (x % 65536) lo hi (λ j l h k. omega (arith, p j l h k)))

pub put64_agree : (s : List ℕ) (at x lo hi : ℕ) → Apart at 8 lo hi → Agree (put64 s at x) s lo hi
unfolding put64
put64_agree s at x lo hi p = agree_then (put32 (put32 s at (x % 4294967296)) (at + 4) (x / 4294967296)) (put32 s at (x % 4294967296)) s lo hi
    (put32_agree (put32 s at (x % 4294967296)) (at + 4) (x / 4294967296) lo hi (λ j l h k. omega (arith, p j l h (omega arith))))
    (put32_agree s at (x % 4294967296) lo hi (λ j l h k. omega (arith, p j l h k)))

pub get16_agree : (s t : List ℕ) (at : ℕ) → Agree s t at (at + 2) → get16 s at ≡ get16 t at
unfolding get16
get16_agree s t at a = let p = a at (omega arith) (omega arith) in let q = a (at + 1) (omega arith) (omega arith) in rw (p, q)

pub get32_agree : (s t : List ℕ) (at : ℕ) → Agree s t at (at + 4) → get32 s at ≡ get32 t at
unfolding get32
get32_agree s t at a =
    let p = get16_agree s t at (λ j l h. a j l (omega arith)) in
    let q = get16_agree s t (at + 2) (λ j l h. a j (omega arith) (omega arith)) in rw (p, q)

pub get64_agree : (s t : List ℕ) (at : ℕ) → Agree s t at (at + 8) → get64 s at ≡ get64 t at
unfolding get64
get64_agree s t at a =
    let p = get32_agree s t at (λ j l h. a j l (omega arith)) in
    let q = get32_agree s t (at + 4) (λ j l h. a j (omega arith) (omega arith)) in rw (p, q)

pub get_put16 : (s : List ℕ) (at x : ℕ) → at + 2 ≤ length s → get16 (put16 s at x) at ≡ x
unfolding get16 put16
get_put16 s at x h =
    let p : get_or (set (set s at (x % 256)) (at + 1) (x / 256)) at 0 ≡ x % 256
    = get_or-set_other (set s at (x % 256)) (at + 1) at (x / 256) 0 (λ e. absurd (omega (arith, e))) ∙ get_or-set_same s at (x % 256) 0 (omega arith) in
    let q : get_or (set (set s at (x % 256)) (at + 1) (x / 256)) (at + 1) 0 ≡ x / 256
    = get_or-set_same (set s at (x % 256)) (at + 1) (x / 256) 0 (omega (arith, length-set s at (x % 256))) in
    omega arith

pub get_put32 : (s : List ℕ) (at x : ℕ) → at + 4 ≤ length s → get32 (put32 s at x) at ≡ x
unfolding get32 put32
get_put32 s at x h =
    let u : List ℕ = put16 s at (x % 65536) in
    let p : get16 (put16 u (at + 2) (x / 65536)) at ≡ x % 65536
    = get16_agree (put16 u (at + 2) (x / 65536)) u at (put16_agree u (at + 2) (x / 65536) at (at + 2) (λ j l k m. omega arith)) ∙ get_put16 s at (x % 65536) (omega arith) in
    let q : get16 (put16 u (at + 2) (x / 65536)) (at + 2) ≡ x / 65536
    = get_put16 u (at + 2) (x / 65536) (omega (arith, length-put16 s at (x % 65536))) in
    omega arith

pub get_put64 : (s : List ℕ) (at x : ℕ) → at + 8 ≤ length s → get64 (put64 s at x) at ≡ x
unfolding get64 put64
get_put64 s at x h =
    let u : List ℕ = put32 s at (x % 4294967296) in
    let p : get32 (put32 u (at + 4) (x / 4294967296)) at ≡ x % 4294967296
    = get32_agree (put32 u (at + 4) (x / 4294967296)) u at (put32_agree u (at + 4) (x / 4294967296) at (at + 4) (λ j l k m. omega arith)) ∙ get_put32 s at (x % 4294967296) (omega arith) in
    let q : get32 (put32 u (at + 4) (x / 4294967296)) (at + 4) ≡ x / 4294967296
    = get_put32 u (at + 4) (x / 4294967296) (omega (arith, length-put32 s at (x % 4294967296))) in
    omega arith

-- a copy leaves the bytes before it as they are
pub paste_agree : (d : List ℕ) (at : ℕ) (s : List ℕ) (n lo hi : ℕ) → at ≤ length d → hi ≤ at → Agree (paste d at s n) d lo hi
paste_agree d at s n lo hi h k j l m =
    let e : length (take at d) ≡ at = length-take-le at d h in
    let g : j < length (take at d ++ take n s) = omega (arith, length-append (take at d) (take n s)) in
    get_or-append (take at d ++ take n s) (drop (at + n) d) 0 j g
    ∙ (get_or-append (take at d) (take n s) 0 j (omega arith) ∙ get_or-take at d j 0 (omega arith))

-- ---- a number written as its bytes, as the library gives them

abbrev b2 : ℕ → List ℕ
b2 x = (x % 256) ∷ (x / 256) ∷ []

abbrev b4 : ℕ → List ℕ
b4 x = b2 (x % 65536) ++ b2 (x / 65536)

put_two : (s : List ℕ) (at x : ℕ) → at + 2 ≤ length s → put16 s at x ≡ paste s at (b2 x) 2
unfolding put16
put_two s at x h = ap (λ l. set l (at + 1) (x / 256)) one ∙ paste_more s at (b2 x) 1 0 (omega (arith, h)) (omega arith)
  where
    one : set s at (x % 256) ≡ paste s at (b2 x) 1
    one = ap (λ l. set l at (x % 256)) (paste_none s at (b2 x))
        ∙ (ap (λ i. set (paste s at (b2 x) 0) i (x % 256)) (let e : at ≡ at + 0 = omega arith in e) ∙ paste_more s at (b2 x) 0 0 (omega (arith, h)) (omega arith))

put_four : (s : List ℕ) (at x : ℕ) → at + 4 ≤ length s → put32 s at x ≡ paste s at (b4 x) 4
unfolding put32
put_four s at x h = put_two (put16 s at (x % 65536)) (at + 2) (x / 65536) (omega (arith, h, length-put16 s at (x % 65536)))
    ∙ (ap (λ l. paste l (at + 2) (b2 (x / 65536)) 2) (put_two s at (x % 65536) (omega (arith, h)))
    ∙ paste-paste s at (b2 (x % 65536)) (b2 (x / 65536)) 2 2 refl refl (omega (arith, h)))

pub put_16_bytes : (s : List ℕ) (at x : ℕ) → at + 2 ≤ length s → x < 2 ^ 16 → put16 s at x ≡ paste s at (to_le_bytes w16 x) 2
put_16_bytes s at x h f = put_two s at x h ∙ (λ i. paste s at ((x % 256) ∷ high i ∷ []) 2)
  where
    high : x / 256 ≡ x / 256 % 256
    high = omega (arith, f)

pub put_32_bytes : (s : List ℕ) (at x : ℕ) → at + 4 ≤ length s → x < 2 ^ 32 → put32 s at x ≡ paste s at (to_le_bytes w32 x) 4
put_32_bytes s at x h f = put_four s at x h ∙ (λ i. paste s at (x0 i ∷ x1 i ∷ x2 i ∷ x3 i ∷ []) 4)
  where
    x0 : x % 65536 % 256 ≡ x % 256
    x0 = omega arith

    x1 : x % 65536 / 256 ≡ x / 256 % 256
    x1 = omega arith

    x2 : x / 65536 % 256 ≡ x / 65536 % 256
    x2 = refl

    x3 : x / 65536 / 256 ≡ x / 16777216 % 256
    x3 = omega (arith, f)

pub put_64_bytes : (s : List ℕ) (at x : ℕ) → at + 8 ≤ length s → x < 2 ^ 64 → put64 s at x ≡ paste s at (to_le_bytes w64 x) 8
unfolding put64
put_64_bytes s at x h f = put_four (put32 s at (x % 4294967296)) (at + 4) (x / 4294967296) (omega (arith, h, length-put32 s at (x % 4294967296)))
    ∙ (ap (λ l. paste l (at + 4) (b4 (x / 4294967296)) 4) (put_four s at (x % 4294967296) (omega (arith, h)))
    ∙ (paste-paste s at (b4 (x % 4294967296)) (b4 (x / 4294967296)) 4 4 refl refl (omega (arith, h))
    ∙ (λ i. paste s at (x0 i ∷ x1 i ∷ x2 i ∷ x3 i ∷ x4 i ∷ x5 i ∷ x6 i ∷ x7 i ∷ []) 8)))
  where
    x0 : x % 4294967296 % 65536 % 256 ≡ x % 256
    x0 = omega arith

    x1 : x % 4294967296 % 65536 / 256 ≡ x / 256 % 256
    x1 = omega arith

    x2 : x % 4294967296 / 65536 % 256 ≡ x / 65536 % 256
    x2 = omega arith

    x3 : x % 4294967296 / 65536 / 256 ≡ x / 16777216 % 256
    x3 = omega arith

    x4 : x / 4294967296 % 65536 % 256 ≡ x / 4294967296 % 256
    x4 = omega arith

    x5 : x / 4294967296 % 65536 / 256 ≡ x / 1099511627776 % 256
    x5 = omega arith

    x6 : x / 4294967296 / 65536 % 256 ≡ x / 281474976710656 % 256
    x6 = omega arith

    x7 : x / 4294967296 / 65536 / 256 ≡ x / 72057594037927936 % 256
    x7 = omega (arith, f)
