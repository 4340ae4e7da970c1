-- A store of slots in one byte slice: slot i is the `size` bytes from i × size; and thinning. Definitions only.
use Rattle.std.specs.Prelude.{ℕ, zero, suc, ◌*◌, ◌/◌, List, length, take, drop}
use Rattle.std.proofs.Math.Seq.{paste}

module _ (size : ℕ) where
  abbrev pub slot_count : List ℕ → ℕ
  slot_count t = length t / size

  unfoldable pub slot_of : ℕ → List ℕ → List ℕ
  slot_of i t = take size (drop (i * size) t)

  unfoldable pub put_slot : ℕ → List ℕ → List ℕ → List ℕ
  put_slot i b t = paste t (i * size) b size

  unfoldable pub move_slot : ℕ → ℕ → List ℕ → List ℕ
  move_slot i k t = put_slot k (slot_of i t) t

-- moves slot 2i into slot i, for i from 1 up to k
unfoldable pub thin_by : {S : Type 0} → (ℕ → ℕ → S → S) → ℕ → S → S
thin_by move zero t = t
thin_by move (suc k) t = move (2 * suc k) (suc k) (thin_by move k t)
