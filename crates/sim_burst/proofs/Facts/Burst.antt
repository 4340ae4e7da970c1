-- What a burst reaches: its start, and one more step. Assumes nothing.
use Rattle.std.specs.Prelude.{◌≡◌, refl, Bool, List, ℕ, ◌+◌, ◌*◌, ◌≤◌, ◌<◌, length, get_or, set}
use Rattle.std.proofs.Common.{ap, sym, ◌∙◌, arith, length-set}
use Rattle.machine.specs.Layout.{entry_at}
use Rattle.sim_burst.specs.declared.inner.step.BurstState.{BurstState}
use Rattle.sim_burst.specs.declared.inner.step.Decoded.{Decoded}
use Rattle.sim_burst.specs.Model.Burst.{Says, moved_to, Ordinary, Went, EntryOf, RowOk, BurstOk, Step, Walk, here, more, Reached}

module _ (Known : List ℕ → Type 0) (p : Bool) (stop k len : ℕ) where
  pub reached_start : (x : BurstState) (c : List ℕ) → BurstOk c k len x → Reached Known p stop k len x c x c
  reached_start x c ok = record { ok = ok; less = omega arith; lens = refl; walk = here }

  -- one turn of the loop, from what the code has found
  module _ (x y : BurstState) (c d : List ℕ) (r : Reached Known p stop k len x c y d) where
    hot_ok : (to next w : ℕ) → to < len → next < 65536 → BurstOk (set d y.head w) k len (moved_to y to next)
    hot_ok to next w h n =
        let o : BurstOk d k len y = r.ok in
        let l : length (set d y.head w) ≡ length d = length-set d y.head w in
        record {
          k_in = o.k_in;
          len_in = omega arith;
          cap = omega arith;
          head_in = h;
          low_in = omega arith;
          high_in = omega arith;
          high_len = omega arith;
          state_in_holds = n;
        }

    pub reached_again : (t : Decoded) (row i : ℕ) (z : BurstState) → (y.left ≡ 0 → ⊥) → (y.state ≡ stop → ⊥)
        → RowOk Known k row y.state → i ≡ get_or d y.head 0 → EntryOf Known k (row + i) t
        → Ordinary p d len y.head (get_or d y.head 0) t.write t.dir t.next y.state
        → Went t.dir len y t.next z
        → Reached Known p stop k len x c z (set d y.head t.write)
    reached_again t row i z pos on at-row e entry ordinary go =
        let says : (s : List ℕ) → Known s → Says (entry_at s (y.state * k + get_or d y.head 0)) t.write t.dir t.next
        = λ s n.
        let same : y.state * k + get_or d y.head 0 ≡ row + i = (λ j. sym (at-row.is s n) j + sym e j) in
        rw same (entry.is s n).says in
        let st : Step Known p stop k len y d t.write t.next z.head
        = record { ok = r.ok; fuel = pos; goes = on; dir = t.dir; says = says; ordinary = ordinary; moved = go.moved; inside = go.inside } in
        rw go.is
        (record {
          ok = hot_ok z.head t.next t.write go.inside entry.small;
          less = omega (arith, r.less);
          lens = length-set d y.head t.write ∙ r.lens;
          walk = more y d t.write t.next z.head r.walk st;
        })

    walk_on : (z : BurstState) (e : List ℕ) → Walk Known p stop k len y d z e → Walk Known p stop k len x c z e
    walk_on z e here = r.walk
    walk_on z e (more v f w next to walk st) = more v f w next to (walk_on v f walk) st

    -- a burst from where another burst ended
    pub reached_on : (z : BurstState) (e : List ℕ) → Reached Known p stop k len y d z e → Reached Known p stop k len x c z e
    reached_on z e t = record { ok = t.ok; less = omega (arith, r.less, t.less); lens = t.lens ∙ r.lens; walk = walk_on z e t.walk }

-- the row of a state, and that after a step
module _ (Known : List ℕ → Type 0) (k : ℕ) where
  pub row_start : (row q : ℕ) → row ≡ q * k → row ≤ 16776960 → RowOk Known k row q
  row_start row q e l = record { small = omega arith; is = λ s n. e }

  pub row_again : (i : ℕ) (t : Decoded) → EntryOf Known k i t → (len : ℕ) (x y : BurstState) → Went t.dir len x t.next y → RowOk Known k t.row y.state
  row_again i t entry len x y go =
      let q : y.state ≡ t.next = ap (λ (z : BurstState). z.state) go.is in
      record { small = entry.row_small; is = λ s n. rw q (entry.is s n).row_is }
