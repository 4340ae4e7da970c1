-- A burst of ordinary steps on several tapes: its tests before each step, one step, and what it keeps. Definitions only.
use Rattle.std.specs.Prelude.{◌≡◌, Bool, false, List, ℕ, ◌-◌, ◌≤◌, ltb, length, set, Option, Some}
use Rattle.notation.specs.Choice.{pick}
use Rattle.notation.specs.Limits.{cells_most}
use Rattle.symbol.specs.Kinds.{symbol_of, state_of}
use Rattle.symbol.specs.declared.Dir.TheVariants.{N}
use Rattle.machine.specs.declared.Action.{Action}
use Rattle.machine.specs.Layout.{entry_number, dir_of, entry_at}
use Rattle.tape.specs.declared.Tape.{Tape}
use Rattle.tape.specs.Fits.{TapeSafe}
use Rattle.tape.specs.Model.Moves.{held, read_of, leaves, act_of}
use Rattle.sim_burst_wide.specs.declared.inner.WideBurstState.{WideBurstState}
use Rattle.sim_burst_wide.specs.declared.inner.Decoded.{Decoded}

-- ---- the results of the tests before a step

-- the action that a decoded entry gives
abbrev pub followed : Decoded → Action
followed o =
    record {
      next = state_of o.next;
      write0 = symbol_of o.write0;
      write1 = symbol_of o.write1;
      write2 = symbol_of o.write2;
      dir0 = dir_of o.dir0;
      dir1 = dir_of o.dir1;
      dir2 = dir_of o.dir2;
    }

-- not every tape stays
pub record Moving (a : Action) : Type 0 where
  pub moving : a.dir0 ≡ N → a.dir1 ≡ N → a.dir2 ≡ N → ⊥

-- where b is false, the moves are in range, and if the state stays, some tape moves
pub record FreeIf (b : Bool) (moves next q : ℕ) : Type 0 where
  pub small : b ≡ false → moves ≤ 26
  pub free : b ≡ false → next ≡ q → moves ≡ 26 → ⊥

-- o is what the entry e says, and from state q it is no proved loop
pub record DecodedOf (e : Option Action) (q : ℕ) (o : Decoded) : Type 0 where
  pub says : e ≡ Some (followed o)
  pub ordinary : o.next ≡ q → Moving (followed o)

-- the cells after a write; a tape that the machine lacks has no cell under its head
abbrev pub wrote : Tape → List ℕ → ℕ → List ℕ
wrote t c w = pick (ltb t.head t.len) (set c t.head w) c

-- r is the tape after the move with number d, which stays inside the cells
pub record TapeMoves (t : Tape) (d : ℕ) (r : Tape) : Type 0 where
  pub inside : leaves t (dir_of d) ≡ false
  pub acts : (c : List ℕ) (w : ℕ) → held r (wrote t c w) ≡ act_of (held t c) w (dir_of d)

pub record Steps (x : WideBurstState) (o : Decoded) (y : WideBurstState) : Type 0 where
  pub tape_moves0 : TapeMoves x.t0 o.dir0 y.t0
  pub tape_moves1 : TapeMoves x.t1 o.dir1 y.t1
  pub tape_moves2 : TapeMoves x.t2 o.dir2 y.t2
  pub state_is : y.state ≡ o.next
  pub left_is : y.left ≡ x.left - 1

-- ---- what a burst may assume

pub record HeadsIn (x : WideBurstState) : Type 0 where
  pub head0 : x.t0.head ≤ x.t0.len
  pub len0 : x.t0.len ≤ cells_most
  pub head1 : x.t1.head ≤ x.t1.len
  pub len1 : x.t1.len ≤ cells_most
  pub head2 : x.t2.head ≤ x.t2.len
  pub len2 : x.t2.len ≤ cells_most

pub record SafeAll (x : WideBurstState) (c0 c1 c2 : List ℕ) : Type 0 where
  pub safe0 : TapeSafe x.t0 c0
  pub safe1 : TapeSafe x.t1 c1
  pub safe2 : TapeSafe x.t2 c2

-- ---- a burst

-- one ordinary step from x with cells c0, c1, c2 to y with cells d0, d1, d2. Its entry is that of table s for the symbols read, and
-- is no proved loop. On each tape it makes the entry's write and move, and stays inside the cells
pub record WideStep (s : List ℕ) (stop k stride : ℕ) (x : WideBurstState) (c0 c1 c2 : List ℕ) (y : WideBurstState) (d0 d1 d2 : List ℕ) : Type 0 where
  pub fuel : x.left ≡ 0 → ⊥
  pub goes : x.state ≡ stop → ⊥
  pub act : Action
  pub says : entry_at s (entry_number k stride x.state (read_of (held x.t0 c0)) (read_of (held x.t1 c1)) (read_of (held x.t2 c2))) ≡ Some act
  pub ordinary : act.next.0 ≡ x.state → Moving act
  pub inside0 : leaves x.t0 act.dir0 ≡ false
  pub inside1 : leaves x.t1 act.dir1 ≡ false
  pub inside2 : leaves x.t2 act.dir2 ≡ false
  pub acts0 : held y.t0 d0 ≡ act_of (held x.t0 c0) act.write0.0 act.dir0
  pub acts1 : held y.t1 d1 ≡ act_of (held x.t1 c1) act.write1.0 act.dir1
  pub acts2 : held y.t2 d2 ≡ act_of (held x.t2 c2) act.write2.0 act.dir2
  pub state_is : y.state ≡ act.next.0
  pub left_is : y.left ≡ x.left - 1

-- such steps, none or more, lead from x with cells c0, c1, c2 to a burst state and its cells
pub data Walk (s : List ℕ) (stop k stride : ℕ) (x : WideBurstState) (c0 c1 c2 : List ℕ) : WideBurstState → List ℕ → List ℕ → List ℕ → Type 0 where
  here : Walk s stop k stride x c0 c1 c2 x c0 c1 c2
  more : (y : WideBurstState) (d0 d1 d2 : List ℕ) (z : WideBurstState) (e0 e1 e2 : List ℕ) → Walk s stop k stride x c0 c1 c2 y d0 d1 d2
      → WideStep s stop k stride y d0 d1 d2 z e0 e1 e2 → Walk s stop k stride x c0 c1 c2 z e0 e1 e2

-- a burst from x with cells c0, c1, c2 may reach y with cells d0, d1, d2
pub record Carried (s : List ℕ) (stop k stride : ℕ) (x : WideBurstState) (c0 c1 c2 : List ℕ) (y : WideBurstState) (d0 d1 d2 : List ℕ) : Type 0 where
  pub safe : SafeAll y d0 d1 d2
  pub less : y.left ≤ x.left
  pub lens0 : length d0 ≡ length c0
  pub lens1 : length d1 ≡ length c1
  pub lens2 : length d2 ≡ length c2
  pub walk : Walk s stop k stride x c0 c1 c2 y d0 d1 d2
