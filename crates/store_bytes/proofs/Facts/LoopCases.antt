-- Moving a slot, and the loop that thins a store: where it begins, each turn, and where it ends. Assumes nothing.
use Rattle.std.specs.Prelude.{◌≡◌, List, ◌++◌, ℕ, ◌+◌, ◌*◌, ◌≤◌, ◌<◌, length, take, drop}
use Rattle.std.proofs.Common.{◌∙◌, ap, sym, mul-le-mul_right, add-one, arith, take-take, length-drop}
use Rattle.std.proofs.Math.Seq.{paste}
use Rattle.store_bytes.specs.Model.{slot_of, put_slot, move_slot, thin_by}
use Rattle.store_bytes.proofs.Facts.Slots.{paste_front}

-- ---- moving

-- the slot copied from the upper part of the store into the lower part
pub moved_below : (size from to : ℕ) (t : List ℕ) → from * size + size ≤ length t → to < from → (low high low' : List ℕ)
    → low ≡ take (from * size) t → high ≡ drop (from * size) t → low' ≡ paste low (to * size) high size → low' ++ high ≡ move_slot size from to t
unfolding move_slot put_slot slot_of
moved_below size from to t h l low high low' p q r =
    let below : to * size + size ≤ from * size = omega (arith, mul-le-mul_right size l) in
    let long : size ≤ length (drop (from * size) t) = omega (arith, length-drop (from * size) t, h) in
    ap (λ s. s ++ high) r ∙ (λ i. paste (p i) (to * size) (q i) size ++ q i)
    ∙ (paste_front t (from * size) (to * size) size (drop (from * size) t) below (omega (arith, h)) long
    ∙ ap (λ s. take (to * size) t ++ s ++ drop (to * size + size) t) (sym (take-take size size (drop (from * size) t) (omega arith))))

-- ---- thinning

pub thin_turn : (size i : ℕ) (t t' t₀ : List ℕ) → t' ≡ move_slot size (2 * (i + 1)) (i + 1) t → t ≡ thin_by (move_slot size) i t₀ → t' ≡ thin_by (move_slot size) (i + 1) t₀
unfolding thin_by
thin_turn size i t t' t₀ e q = rw add-one (rw (add-one, q) at e)
