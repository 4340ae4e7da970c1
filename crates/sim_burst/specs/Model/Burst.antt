-- A burst of ordinary steps on one tape: its numbers, its tests before each step, and what it keeps. Definitions only.
use Rattle.std.specs.Prelude.{◌≡◌, Bool, true, false, List, ℕ, ◌+◌, ◌*◌, ◌-◌, ◌≤◌, ◌<◌, min, max, length, get_or, set, Option, Some}
use Rattle.notation.specs.Limits.{cells_most}
use Rattle.symbol.specs.Kinds.{dir_number}
use Rattle.symbol.specs.declared.Dir.TheVariants.{N}
use Rattle.machine.specs.declared.Action.{Action}
use Rattle.machine.specs.Layout.{entry_at}
use Rattle.sim_burst.specs.declared.inner.step.BurstState.{BurstState}
use Rattle.sim_burst.specs.declared.inner.step.Decoded.{Decoded}

-- ---- one step

-- the entry is of one tape: write w, make the move with number d, go to state next
pub record Says (e : Option Action) (w d next : ℕ) : Type 0 where
  pub act : Action
  pub is : e ≡ Some act
  pub writes : act.write0.0 ≡ w
  pub moves : dir_number act.dir0 ≡ d
  pub goes : act.next.0 ≡ next
  pub still1 : act.dir1 ≡ N
  pub still2 : act.dir2 ≡ N

-- the step in state q, with symbol `read` under the head, is surely no proved loop; proves is true where the never test is made
pub data Ordinary (proves : Bool) (c : List ℕ) (len head read w d next q : ℕ) : Type 0 where
  unasked : proves ≡ false → Ordinary proves c len head read w d next q
  goes_on : (next ≡ q → ⊥) → Ordinary proves c len head read w d next q
  rewrites : d ≡ 2 → (w ≡ read → ⊥) → Ordinary proves c len head read w d next q
  reads_one : (d ≡ 2 → ⊥) → (read ≡ 0 → ⊥) → Ordinary proves c len head read w d next q
  sees_left : (j : ℕ) → d ≡ 0 → j < head → (get_or c j 0 ≡ 0 → ⊥) → Ordinary proves c len head read w d next q
  sees_right : (j : ℕ) → (d ≡ 0 → ⊥) → (d ≡ 2 → ⊥) → head < j → j < len → (get_or c j 0 ≡ 0 → ⊥) → Ordinary proves c len head read w d next q

-- the move with number d takes the head to index `to`
pub data Moved (d head to : ℕ) : Type 0 where
  went_left : d ≡ 0 → to + 1 ≡ head → Moved d head to
  went_right : d ≡ 1 → to ≡ head + 1 → Moved d head to
  stayed : (d ≡ 0 → ⊥) → (d ≡ 1 → ⊥) → to ≡ head → Moved d head to

-- the burst's numbers after the step
abbrev pub moved_to : BurstState → (to next : ℕ) → BurstState
moved_to x to next =
    record {
      head = to;
      low = min x.low to;
      high = max x.high to;
      state = next;
      left = x.left - 1;
    }

-- ---- the results of the tests before a step

-- where r is below the head, its cell is not blank
pub record LeftSeen (c : List ℕ) (head r : ℕ) : Type 0 where
  pub seen : r < head → get_or c r 0 ≡ 0 → ⊥

-- where r is below len, it is above the head, and its cell is not blank
pub record RightSeen (c : List ℕ) (head len r : ℕ) : Type 0 where
  pub above : r < len → head < r
  pub seen : r < len → get_or c r 0 ≡ 0 → ⊥

-- where b is true, the step is surely no proved loop, whatever the cells hold
pub record OrdinaryByEntry (b proves : Bool) (read w d next q : ℕ) : Type 0 where
  pub ordinary : b ≡ true → (c : List ℕ) (len head : ℕ) → Ordinary proves c len head read w d next q

-- the step from x stays on the cells and leads to y
pub record Went (d len : ℕ) (x : BurstState) (next : ℕ) (y : BurstState) : Type 0 where
  pub moved : Moved d x.head y.head
  pub inside : y.head < len
  pub is : y ≡ moved_to x y.head next

-- t is entry i of table s, and has the row of the next state
pub record EntryIs (k : ℕ) (s : List ℕ) (i : ℕ) (t : Decoded) : Type 0 where
  pub says : Says (entry_at s i) t.write t.dir t.next
  pub row_is : t.row ≡ t.next * k

-- t is entry i of every table that is Known; its numbers are small in every case
pub record EntryOf (Known : List ℕ → Type 0) (k i : ℕ) (t : Decoded) : Type 0 where
  pub is : (s : List ℕ) → Known s → EntryIs k s i t
  pub small : t.next < 65536
  pub row_small : t.row ≤ 4294967295

-- ---- a burst

-- what a burst may assume
pub record BurstOk (c : List ℕ) (k len : ℕ) (x : BurstState) : Type 0 where
  pub k_in : k ≤ 256
  pub len_in : len ≤ length c
  pub cap : length c ≤ cells_most
  pub head_in : x.head < len
  pub low_in : x.low ≤ x.head
  pub high_in : x.head ≤ x.high
  pub high_len : x.high < len
  pub state_in_holds : x.state < 65536

-- one ordinary step from x with cells c, in every table that is Known: it writes w, goes to state next, and moves the head to index `to`
pub record Step (Known : List ℕ → Type 0) (proves : Bool) (stop k len : ℕ) (x : BurstState) (c : List ℕ) (w next to : ℕ) : Type 0 where
  pub ok : BurstOk c k len x
  pub fuel : x.left ≡ 0 → ⊥
  pub goes : x.state ≡ stop → ⊥
  pub dir : ℕ
  pub says : (s : List ℕ) → Known s → Says (entry_at s (x.state * k + get_or c x.head 0)) w dir next
  pub ordinary : Ordinary proves c len x.head (get_or c x.head 0) w dir next x.state
  pub moved : Moved dir x.head to
  pub inside : to < len

-- such steps, none or more, lead from x with cells c to y with cells d
pub data Walk (Known : List ℕ → Type 0) (proves : Bool) (stop k len : ℕ) (x : BurstState) (c : List ℕ) : BurstState → List ℕ → Type 0 where
  here : Walk Known proves stop k len x c x c
  more : (y : BurstState) (d : List ℕ) (w next to : ℕ) → Walk Known proves stop k len x c y d → Step Known proves stop k len y d w next to
      → Walk Known proves stop k len x c (moved_to y to next) (set d y.head w)

-- a burst from x with cells c may reach y with cells d
pub record Reached (Known : List ℕ → Type 0) (proves : Bool) (stop k len : ℕ) (x : BurstState) (c : List ℕ) (y : BurstState) (d : List ℕ) : Type 0 where
  pub ok : BurstOk d k len y
  pub less : y.left ≤ x.left
  pub lens : length d ≡ length c
  pub walk : Walk Known proves stop k len x c y d

-- the row that a burst keeps is that of its state
pub record RowOk (Known : List ℕ → Type 0) (k row q : ℕ) : Type 0 where
  pub small : row ≤ 4294967295
  pub is : (s : List ℕ) → Known s → row ≡ q * k

-- the table s is the only Known one
abbrev pub Is : List ℕ → List ℕ → Type 0
Is s t = t ≡ s
