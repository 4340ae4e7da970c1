-- THE TABLE MACHINE of document 01: configuration, step, run, verdict. Both engines are proved equal to it. Definitions only.
use Rattle.std.specs.Prelude.{◌≡◌, List, [], ℕ, zero, suc, get_or, ℤ, pos, negsuc, ◌<ℤ◌, None, Option, Some}
use Rattle.std.proofs.Math.IntN.{suc_ℤ, pred_ℤ}
use Rattle.notation.specs.Choice.{pick}
use Rattle.notation.specs.Position.{eq_z, min_ℤ, max_ℤ}
use Rattle.symbol.specs.Kinds.{state_of}
use Rattle.symbol.specs.declared.Dir.{Dir}
use Rattle.symbol.specs.declared.Dir.TheVariants.{L, R, N}
use Rattle.outcome.specs.declared.NonHaltProof.TheVariants.{StayLoop, ChainToInfinity}
use Rattle.outcome.specs.declared.Outcome.{Outcome}
use Rattle.outcome.specs.declared.Outcome.TheVariants as Out
use Rattle.machine.specs.declared.Action.{Action}

-- the entry for a state and three symbols read
abbrev pub Table : Type 0
Table = ℕ → ℕ → ℕ → ℕ → Option Action

-- "a symbol for every whole-number position, a head, and the lowest and highest head so far"
pub record Tape : Type 0 where
  pub cell : ℤ → ℕ
  pub head : ℤ
  pub low : ℤ
  pub high : ℤ

-- "State, step count, and for each tape"; a tape that the machine lacks is blank and never moves
pub record Config : Type 0 where
  pub state : ℕ
  pub steps : ℕ
  pub tape0 : Tape
  pub tape1 : Tape
  pub tape2 : Tape

-- ---- one tape

abbrev pub read_t : Tape → ℕ
read_t t = t.cell t.head

-- the cells f, with w written at h
unfoldable pub put : (ℤ → ℕ) → ℤ → ℕ → (ℤ → ℕ)
put f h w = λ z. pick (eq_z z h) w (f z)

abbrev pub go : Dir → ℤ → ℤ
go L z = pred_ℤ z
go R z = suc_ℤ z
go N z = z

abbrev pub write_t : Tape → ℕ → Tape
write_t t w = record { cell = put t.cell t.head w; head = t.head; low = t.low; high = t.high }

abbrev pub move_t : Tape → Dir → Tape
move_t t d = record {
  cell = t.cell;
  head = go d t.head;
  low = min_ℤ t.low (go d t.head);
  high = max_ℤ t.high (go d t.head);
}

-- "writes, moves"
abbrev pub update : Tape → ℕ → Dir → Tape
update t w d = move_t (write_t t w) d

-- "the word from 0 rightward, all else blank"
abbrev pub word_cell : List ℕ → ℤ → ℕ
word_cell w (pos n) = get_or w n zero
word_cell w (negsuc n) = zero

-- "heads at 0"
abbrev pub start_tape : List ℕ → Tape
start_tape w = record { cell = word_cell w; head = pos zero; low = pos zero; high = pos zero }

-- ---- the machine

abbrev pub blank_tape : Tape
blank_tape = start_tape []

-- "It starts in the start state, heads at 0, tape 0 holding the word from 0 rightward, all else blank."
abbrev pub start : ℕ → List ℕ → Config
start q w = record { state = q; steps = zero; tape0 = start_tape w; tape1 = blank_tape; tape2 = blank_tape }

abbrev pub entry : Table → Config → Option Action
entry d c = d c.state (read_t c.tape0) (read_t c.tape1) (read_t c.tape2)

-- "A step with a defined entry writes, moves, takes the next state and adds 1."
abbrev pub act : Config → Action → Config
act c a = record {
  state = a.next.0;
  steps = suc c.steps;
  tape0 = update c.tape0 a.write0.0 a.dir0;
  tape1 = update c.tape1 a.write1.0 a.dir1;
  tape2 = update c.tape2 a.write2.0 a.dir2;
}

-- "With no entry it halts": the configuration stays as it is
abbrev pub act_on : Config → Option Action → Config
act_on c None = c
act_on c (Some a) = act c a

unfoldable pub step : Table → Config → Config
step d c = act_on c (entry d c)

unfoldable pub run : Table → ℕ → Config → Config
run d zero c = c
run d (suc n) c = run d n (step d c)

abbrev pub Halted : Table → Config → Type 0
Halted d c = entry d c ≡ None

-- ---- the verdict

-- "the entry keeps the state and all tapes stay and rewrite what they read"
pub record Stays (c : Config) (a : Action) : Type 0 where
  pub keeps : a.next.0 ≡ c.state
  pub still0 : a.dir0 ≡ N
  pub still1 : a.dir1 ≡ N
  pub still2 : a.dir2 ≡ N
  pub same0 : a.write0.0 ≡ read_t c.tape0
  pub same1 : a.write1.0 ≡ read_t c.tape1
  pub same2 : a.write2.0 ≡ read_t c.tape2

abbrev pub Sideways : Dir → Type 0
Sideways L = Unit {0}
Sideways R = Unit {0}
Sideways N = ⊥

-- z lies strictly beyond h in the direction of the move
abbrev pub Beyond : Dir → ℤ → ℤ → Type 0
Beyond L h z = z <ℤ h
Beyond R h z = h <ℤ z
Beyond N h z = ⊥

-- "the entry keeps the state and t = 1, the cell read is blank, the move is L or R and every cell strictly beyond the head that way is blank"
pub record Walks (tapes : ℕ) (c : Config) (a : Action) (d : Dir) : Type 0 where
  pub single : tapes ≡ 1
  pub same_state : a.next.0 ≡ c.state
  pub moves : a.dir0 ≡ d
  pub sideways : Sideways d
  pub blank : read_t c.tape0 ≡ zero
  pub beyond : (z : ℤ) → Beyond d c.tape0.head z → c.tape0.cell z ≡ zero

-- the answers, with their parts read from the configuration

abbrev pub halted_at : Config → Outcome
halted_at c = Out.Halted c.steps (state_of c.state)

abbrev pub stay_loop_at : Config → Outcome
stay_loop_at c = Out.NeverHalts c.steps (StayLoop (state_of c.state))

abbrev pub chain_at : Config → Dir → Outcome
chain_at c d = Out.NeverHalts c.steps (ChainToInfinity (state_of c.state) d)

abbrev pub out_of_fuel_at : Config → Outcome
out_of_fuel_at c = Out.OutOfFuel c.steps

-- "Its verdict at a configuration: halted if there is no entry; else never if ..; else out of fuel."
pub data Verdict (tapes : ℕ) (d : Table) (c : Config) : Outcome → Type 0 where
  halts : entry d c ≡ None → Verdict tapes d c (halted_at c)
  stays : (a : Action) → entry d c ≡ Some a → Stays c a → Verdict tapes d c (stay_loop_at c)
  walks : (a : Action) (m : Dir) → entry d c ≡ Some a → Walks tapes c a m → Verdict tapes d c (chain_at c m)
  goes : (a : Action) → entry d c ≡ Some a → ¬ (Stays c a) → ((m : Dir) → ¬ (Walks tapes c a m)) → Verdict tapes d c (out_of_fuel_at c)
