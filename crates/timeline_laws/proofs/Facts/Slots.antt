-- The store's seven laws for any engine whose slots are bytes of one slice, from two facts about its slot layout. Assumes nothing.
use Rattle.std.specs.Prelude.{ℕ, ◌/◌, ◌<◌, ◌≡◌, List, length, Option, Some}
use Rattle.std.proofs.Common.{sym, ap, subst}
use Rattle.store_bytes.specs.Model.{slot_count, slot_of, put_slot, move_slot}
use Rattle.store_bytes.proofs.Facts.Slots.{slot_length, put_length, put_same, put_other, move_length, move_same, move_other}

-- How an engine is laid out in a slot. `pack` takes the slot's old bytes too, for those that it does not change.
pub record Layout {State Mean : Type 0} (Fits : State → Type 0) (mean : State → Mean) (now : State → ℕ) (Same : State → State → Type 0) : Type 0 where
  pub size : ℕ
  pub pack : State → List ℕ → List ℕ
  pub unpack : List ℕ → ℕ → State → Option State  -- a slot's bytes, the step it must have, the engine whose buffers are filled
  pub pack_length : (s : State) (old : List ℕ) → Fits s → length old ≡ size → length (pack s old) ≡ size
  pub unpack_pack : (s u : State) (old : List ℕ) → Fits s → Fits u → length old ≡ size
      → (v : State) × (unpack (pack s old) (now s) u ≡ Some v) × Same v s × (mean v ≡ mean s) × Fits v

module _ {State Mean : Type 0} {Fits : State → Type 0} {mean : State → Mean} {now : State → ℕ} {Same : State → State → Type 0} (L : Layout Fits mean now Same) where
  abbrev pub save_in : ℕ → State → List ℕ → List ℕ
  save_in i s t = put_slot L.size i (L.pack s (slot_of L.size i t)) t

  abbrev pub restore_from : ℕ → ℕ → State → List ℕ → Option State
  restore_from i p s t = L.unpack (slot_of L.size i t) p s

  -- the bytes give that engine, in the buffers of any fitting engine
  abbrev pub Reads : List ℕ → State → Type 0
  Reads b x = (u : State) → Fits u → (v : State) × (L.unpack b (now x) u ≡ Some v) × Same v x × (mean v ≡ mean x) × Fits v

  abbrev pub HoldsIn : List ℕ → ℕ → State → Type 0
  HoldsIn t i x = Reads (slot_of L.size i t) x

  module _ (i : ℕ) (s : State) (t : List ℕ) (f : Fits s) (l : i < slot_count L.size t) where
    fills : length (L.pack s (slot_of L.size i t)) ≡ L.size
    fills = L.pack_length s (slot_of L.size i t) f (slot_length L.size i t l)

    pub saves_slots : slot_count L.size (save_in i s t) ≡ slot_count L.size t
    saves_slots = ap (λ n. n / L.size) (put_length L.size i (L.pack s (slot_of L.size i t)) t l fills)

    pub saves_same : HoldsIn (save_in i s t) i s
    saves_same = subst (λ b. Reads b s) (sym (put_same L.size i (L.pack s (slot_of L.size i t)) t l fills))
        (λ u g. L.unpack_pack s u (slot_of L.size i t) f g (slot_length L.size i t l))

    pub saves_other : (j : ℕ) (x : State) → ¬ (j ≡ i) → HoldsIn t j x → HoldsIn (save_in i s t) j x
    saves_other j x n h = subst (λ b. Reads b x) (sym (put_other L.size i (L.pack s (slot_of L.size i t)) t l fills j n)) h

  module _ (i k : ℕ) (t : List ℕ) (l : i < slot_count L.size t) (m : k < slot_count L.size t) where
    pub moves_slots : slot_count L.size (move_slot L.size i k t) ≡ slot_count L.size t
    moves_slots = ap (λ n. n / L.size) (move_length L.size i k t l m)

    pub moves_same : (x : State) → HoldsIn t i x → HoldsIn (move_slot L.size i k t) k x
    moves_same x h = subst (λ b. Reads b x) (sym (move_same L.size i k t l m)) h

    pub moves_other : (j : ℕ) (x : State) → ¬ (j ≡ k) → HoldsIn t j x → HoldsIn (move_slot L.size i k t) j x
    moves_other j x n h = subst (λ b. Reads b x) (sym (move_other L.size i k t l m j n)) h

  pub restores_from : (i : ℕ) (s : State) (t : List ℕ) (x : State) → Fits s → HoldsIn t i x
      → (v : State) × (restore_from i (now x) s t ≡ Some v) × Same v x × (mean v ≡ mean x) × Fits v
  restores_from i s t x f h = h s f
