-- What the run-length engine's value means: the configuration of the table machine that it holds, and when it fits. Definitions only.
use Rattle.std.specs.Prelude.{◌≡◌, List, ℕ, zero, suc, ◌+◌, ◌≤◌, ◌<◌, ◌^◌, ℤ, pos, negsuc, get_or}
use Rattle.notation.specs.Position.{◌⊖◌, up, dn}
use Rattle.symbol.specs.declared.Dir.{Dir}
use Rattle.symbol.specs.declared.Dir.TheVariants.{L, R, N}
use Rattle.machine.specs.declared.Machine.{Machine}
use Rattle.table_machine.specs.TableMachine.{Tape, Config, blank_tape}
use Rattle.rle_stack.specs.Model.{Side, places_of, cells_of}
use Rattle.rle.specs.Model.Engine.{Conf, left_of, right_of}

-- ---- "Each side is a stack of runs, top nearest the head"

pub data Stack : Type 0 where
  empty : Stack
  -- a run of a symbol over the rest
  over : (symbol length : ℕ) → Stack → Stack

-- the first n runs, the last of these on top
abbrev pub stack_upto : (symbols lengths : List ℕ) → ℕ → Stack
stack_upto ss ls zero = empty
stack_upto ss ls (suc n) = over (get_or ss n 0) (get_or ls n 0) (stack_upto ss ls n)

-- the live runs
abbrev pub stack_of : Side → Stack
stack_of x = stack_upto x.symbols x.lengths x.count

-- the symbol nearest the head; below the bottom run all cells are blank
abbrev pub top : Stack → ℕ
top empty = 0
top (over s n r) = s

-- ---- the cells of a side, by their distance: 0 is next to the head

abbrev pub Stream : Type 0
Stream = ℕ → ℕ

abbrev pub blanks : Stream
blanks d = 0

abbrev pub cons : ℕ → Stream → Stream
cons a f zero = a
cons a f (suc d) = f d

abbrev pub tail : Stream → Stream
tail f d = f (suc d)

-- n cells of symbol a, then the cells of f
abbrev pub prepend : ℕ → ℕ → Stream → Stream
prepend zero a f = f
prepend (suc n) a f = cons a (prepend n a f)

-- "cells .. past its stacks being blank"
abbrev pub stream : Stack → Stream
stream empty = blanks
stream (over s n r) = prepend n s (stream r)

abbrev pub stream_of : Side → Stream
stream_of x = stream (stack_of x)

-- ---- "An engine holds a configuration when state, steps and, on each tape, head, lowest, highest and every cell agree."

-- z − h
abbrev pub distance : (h z : ℤ) → ℤ
distance h z = (up z + dn h) ⊖ (up h + dn z)

-- the cell at a signed distance from the head
abbrev pub look : (left : Stream) → (cur : ℕ) → (right : Stream) → ℤ → ℕ
look l c r (pos zero) = c
look l c r (pos (suc d)) = r d
look l c r (negsuc d) = l d

-- positions are raised by 2^63
abbrev pub tape_around : (left : Stream) → (cur : ℕ) → (right : Stream) → (head lowest highest : ℕ) → Tape
tape_around l c r h lo hi = record {
  cell = λ z. look l c r (distance (h ⊖ 2 ^ 63) z);
  head = h ⊖ 2 ^ 63;
  low = lo ⊖ 2 ^ 63;
  high = hi ⊖ 2 ^ 63;
}

abbrev pub tape_of : Conf → Tape
tape_of σ = tape_around (stream_of (left_of σ)) σ.sim.tape.cur (stream_of (right_of σ)) σ.sim.tape.head σ.sim.lowest σ.sim.highest

-- the engine runs machines with one tape; the other two tapes are blank
abbrev pub config_of : Conf → Config
config_of σ = record {
  state = σ.sim.state.0;
  steps = σ.sim.steps;
  tape0 = tape_of σ;
  tape1 = blank_tape;
  tape2 = blank_tape;
}

-- ---- "Fits: state below n, steps to 2^62, symbols below k. .. Chain: the stack rule, each side's sum, and its furthest cell's distance from 0,
-- at most steps + 2^20, lowest ≤ head ≤ highest, all within steps of 0, macro steps at most steps."

-- the stack rule: "lengths at least 1, neighbours differ, bottom run not blank"; symbols below k
abbrev pub RunsFit : (k : ℕ) → Stack → Type 0
RunsFit k empty = Unit {0}
RunsFit k (over s n r) = (1 ≤ n) × (s < k) × ¬ (s ≡ top r) × RunsFit k r

-- the live runs have places and meet the stack rule, and the side has at most `most` cells
pub record SideFits (k most : ℕ) (x : Side) : Type 0 where
  pub live : x.count ≤ places_of x.symbols x.lengths
  pub runs : RunsFit k (stack_of x)
  pub sum : cells_of x ≤ most

-- position 0 is stored as 2^63
pub record ChainFits (m : Machine) (σ : Conf) : Type 0 where
  pub state_in_holds : σ.sim.state.0 < m.states
  pub steps_in : σ.sim.steps ≤ 2 ^ 62
  pub macros_in : σ.sim.macros ≤ σ.sim.steps
  pub read_in : σ.sim.tape.cur < m.symbols
  pub low_head : σ.sim.lowest ≤ σ.sim.tape.head
  pub head_high : σ.sim.tape.head ≤ σ.sim.highest
  pub low_near : 2 ^ 63 ≤ σ.sim.lowest + σ.sim.steps
  pub high_near : σ.sim.highest ≤ 2 ^ 63 + σ.sim.steps
  pub lefts : SideFits m.symbols (σ.sim.steps + 2 ^ 20) (left_of σ)
  pub rights : SideFits m.symbols (σ.sim.steps + 2 ^ 20) (right_of σ)
  pub left_far : 2 ^ 63 + cells_of (left_of σ) ≤ σ.sim.tape.head + σ.sim.steps + 2 ^ 20
  pub right_far : σ.sim.tape.head + cells_of (right_of σ) ≤ 2 ^ 63 + σ.sim.steps + 2 ^ 20

-- "its furthest cell": the last cell of a side's bottom run, as a position; for a side without runs the head's
abbrev pub left_end : Conf → ℤ
left_end σ = σ.sim.tape.head ⊖ (2 ^ 63 + cells_of (left_of σ))

abbrev pub right_end : Conf → ℤ
right_end σ = (σ.sim.tape.head + cells_of (right_of σ)) ⊖ 2 ^ 63

-- "distance from 0, at most": on either side of 0
abbrev pub Near : ℕ → ℤ → Type 0
Near n z = (dn z ≤ n) × (up z ≤ n)

-- ---- the side behind a move, and the one ahead

abbrev pub behind_of : Dir → Conf → Side
behind_of L σ = right_of σ
behind_of R σ = left_of σ
behind_of N σ = left_of σ

abbrev pub ahead_on : Dir → Conf → Side
ahead_on L σ = left_of σ
ahead_on R σ = right_of σ
ahead_on N σ = right_of σ

-- ---- two engine values that differ at most in the number of macro steps, and in what lies past the live runs

pub record Alike (σ τ : Conf) : Type 0 where
  pub state : σ.sim.state ≡ τ.sim.state
  pub steps : σ.sim.steps ≡ τ.sim.steps
  pub cur : σ.sim.tape.cur ≡ τ.sim.tape.cur
  pub head : σ.sim.tape.head ≡ τ.sim.tape.head
  pub lowest : σ.sim.lowest ≡ τ.sim.lowest
  pub highest : σ.sim.highest ≡ τ.sim.highest
  pub left : σ.sim.tape.left ≡ τ.sim.tape.left
  pub right : σ.sim.tape.right ≡ τ.sim.tape.right
  pub lefts : stack_of (left_of σ) ≡ stack_of (left_of τ)
  pub rights : stack_of (right_of σ) ≡ stack_of (right_of τ)
