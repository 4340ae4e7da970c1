-- Slots in one byte slice: the lemmas on save and move that the laws of a store need, once for both engines. Assumes nothing.
use Prim.Native.Nat.{ℕ, suc, ◌+◌, ◌-◌, ◌*◌, ◌≤◌, ◌<◌}
use Rattle.std.specs.Prelude.{◌≡◌, length}
use Rattle.std.proofs.Math.Path.{sym}
use Rattle.std.proofs.Common.{◌∙◌, ap, div-mul-le_self, arith, take-take, take-add, drop_at, drop-drop, take_all, take-append-drop}
use mathlib.Core.List.{List, ◌++◌, append_assoc}
use Rattle.std.proofs.Math.Nat.{mul-le-mul_right}
use Rattle.std.proofs.Math.Decide.{dec_lt}
use Rattle.std.proofs.Math.ListN.{take, drop, length-drop}
use Rattle.std.proofs.Math.Seq.{paste, length-paste, length_paste_head, length-take-le, take-length}
use Rattle.std.proofs.lemmas.List.Edits.{take-paste, drop-paste}
use Rattle.std.proofs.lemmas.List.{take-append-le}
use Rattle.store_bytes.specs.Model.{slot_count, slot_of, put_slot, move_slot}

-- a part of n bytes from a, as take of drop and as drop of take
pub part-drop : (a n : ℕ) (l : List ℕ) → a ≤ length l → take n (drop a l) ≡ drop a (take (a + n) l)
part-drop a n l h = sym (ap (drop a) (take-add a n l) ∙ drop_at (take a l) (take n (drop a l)) a (length-take-le a l h))

pub paste_same : (d : List ℕ) (at : ℕ) (s : List ℕ) (n : ℕ) → at + n ≤ length d → n ≤ length s → take n (drop at (paste d at s n)) ≡ take n s
paste_same d at s n h k = part-drop at n (paste d at s n) (omega (arith, length-paste d at s n h k))
    ∙ (ap (drop at) (take-paste d at s n (omega arith) k) ∙ drop_at (take at d) (take n s) at (length-take-le at d (omega arith)))

pub paste_before : (d : List ℕ) (at : ℕ) (s : List ℕ) (n a m : ℕ) → at + n ≤ length d → n ≤ length s → a + m ≤ at → take m (drop a (paste d at s n)) ≡ take m (drop a d)
paste_before d at s n a m h k l = part-drop a m (paste d at s n) (omega (arith, length-paste d at s n h k))
    ∙ (ap (drop a) (take-append-le (a + m) (take at d ++ take n s) (drop (at + n) d) (omega (arith, length_paste_head d at s n at_low k))
    ∙ (take-append-le (a + m) (take at d) (take n s) (omega (arith, length-take-le at d at_low)) ∙ take-take (a + m) at d l))
    ∙ sym (part-drop a m d (omega arith)))
  where
    at_low : at ≤ length d
    at_low = omega arith

pub paste_after : (d : List ℕ) (at : ℕ) (s : List ℕ) (n a m : ℕ) → at + n ≤ length d → n ≤ length s → at + n ≤ a → take m (drop a (paste d at s n)) ≡ take m (drop a d)
paste_after d at s n a m h k l = ap (take m)
    (late (paste d at s n) ∙ (ap (drop (a - (at + n))) (drop-paste d at s n (omega arith) k) ∙ sym (late d)))
  where
    sum : a ≡ at + n + (a - (at + n))
    sum = omega arith

    late : (l : List ℕ) → drop a l ≡ drop (a - (at + n)) (drop (at + n) l)
    late l = ap (λ i. drop i l) sum ∙ sym (drop-drop (a - (at + n)) (at + n) l)

module _ (size : ℕ) where
  pub slot_inside : (i : ℕ) (t : List ℕ) → i < slot_count size t → i * size + size ≤ length t
  slot_inside i t l = omega (arith, mul-le-mul_right size l, div-mul-le_self (length t) size)

  pub slot_length : (i : ℕ) (t : List ℕ) → i < slot_count size t → length (slot_of size i t) ≡ size
  unfolding slot_of
  slot_length i t l = length-take-le size (drop (i * size) t) (omega (arith, length-drop (i * size) t, slot_inside i t l))

  module _ (i : ℕ) (b t : List ℕ) (l : i < slot_count size t) (q : length b ≡ size) where
    pub put_length : length (put_slot size i b t) ≡ length t
    unfolding put_slot
    put_length = length-paste t (i * size) b size (slot_inside i t l) (omega arith)

    pub put_same : slot_of size i (put_slot size i b t) ≡ b
    unfolding put_slot slot_of
    put_same = paste_same t (i * size) b size (slot_inside i t l) (omega arith) ∙ (ap (λ n. take n b) (sym q) ∙ take-length b)

    pub put_other : (j : ℕ) → ¬ (j ≡ i) → slot_of size j (put_slot size i b t) ≡ slot_of size j t
    unfolding put_slot slot_of
    put_other j n = go (dec_lt j i)
      where
        go : Dec (j < i) → take size (drop (j * size) (paste t (i * size) b size)) ≡ take size (drop (j * size) t)
        go (yes h) = paste_before t (i * size) b size (j * size) size (slot_inside i t l) (omega arith) (omega (arith, mul-le-mul_right size h))
        go (no h) = paste_after t (i * size) b size (j * size) size (slot_inside i t l) (omega arith) (omega (arith, mul-le-mul_right size later))
          where
            later : suc i ≤ j
            later = omega (arith, h, n)

  module _ (i k : ℕ) (t : List ℕ) (l : i < slot_count size t) (m : k < slot_count size t) where
    pub move_length : length (move_slot size i k t) ≡ length t
    unfolding move_slot
    move_length = put_length k (slot_of size i t) t m (slot_length i t l)

    pub move_same : slot_of size k (move_slot size i k t) ≡ slot_of size i t
    unfolding move_slot
    move_same = put_same k (slot_of size i t) t m (slot_length i t l)

    pub move_other : (j : ℕ) → ¬ (j ≡ k) → slot_of size j (move_slot size i k t) ≡ slot_of size j t
    unfolding move_slot
    move_other = put_other k (slot_of size i t) t m (slot_length i t l)

-- a copy into the part before f is a copy into the whole
pub paste_front : (d : List ℕ) (f at n : ℕ) (s : List ℕ) → at + n ≤ f → f ≤ length d → n ≤ length s → paste (take f d) at s n ++ drop f d ≡ paste d at s n
paste_front d f at n s h k l =
    append_assoc (take at (take f d) ++ take n s) (drop (at + n) (take f d)) (drop f d)
    ∙ (ap (λ l. l ++ take n s ++ (drop (at + n) (take f d) ++ drop f d)) (take-take at f d (omega arith))
    ∙ ap (λ l. take at d ++ take n s ++ l) rest)
  where
    room : ℕ
    room = f - (at + n)

    up : at + n + room ≡ f
    up = omega (arith, h)

    rest : drop (at + n) (take f d) ++ drop f d ≡ drop (at + n) d
    rest = ap (λ i. drop (at + n) (take i d) ++ drop i d) (sym up)
        ∙ (ap (λ l. l ++ drop (at + n + room) d) (sym (part-drop (at + n) room d (omega (arith, h, k))))
        ∙ (ap (λ l. take room (drop (at + n) d) ++ l) (sym (drop-drop room (at + n) d)) ∙ take-append-drop room (drop (at + n) d)))

-- a slot lent as a part of the store, and put back
pub slot_part : (size i : ℕ) (t : List ℕ) → take (i * size + size - i * size) (drop (i * size) t) ≡ slot_of size i t
unfolding slot_of
slot_part size i t = let k : i * size + size - i * size ≡ size = omega arith in ap (λ n. take n (drop (i * size) t)) k

pub slot_put : (size i : ℕ) (t ys : List ℕ) → length ys ≡ size
    → take (i * size) t ++ (ys ++ drop (i * size + size - i * size) (drop (i * size) t)) ≡ put_slot size i ys t
unfolding put_slot
slot_put size i t ys l =
    let k : i * size + size - i * size ≡ size = omega arith in
    let w : take size ys ≡ ys = take_all size ys (omega arith) in
    ap (λ n. take (i * size) t ++ (ys ++ drop n (drop (i * size) t))) k
    ∙ (ap (λ r. take (i * size) t ++ (ys ++ r)) (drop-drop size (i * size) t)
    ∙ (sym (append_assoc (take (i * size) t) ys (drop (i * size + size) t)) ∙ ap (λ r. take (i * size) t ++ r ++ drop (i * size + size) t) (sym w)))
