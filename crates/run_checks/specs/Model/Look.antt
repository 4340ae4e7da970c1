-- The lookup, the never test and the decision before a step of a run, over tapes and their cells. Definitions only.
use Rattle.outcome.specs.declared.Outcome.{Outcome}
use Rattle.std.specs.declared.ops.ControlFlow.{ControlFlow}
use Rattle.std.specs.declared.ops.ControlFlow.TheVariants.{Break, Continue}
use Rattle.std.specs.Prelude.{◌≡◌, Bool, true, false, List, ℕ, ◌≤◌, eqb, length, None, Option, Some}
use Rattle.notation.specs.Choice.{pick, both}
use Rattle.symbol.specs.declared.State.{State}
use Rattle.symbol.specs.declared.Dir.{Dir}
use Rattle.symbol.specs.declared.Dir.TheVariants.{L, R, N}
use Rattle.outcome.specs.declared.NonHaltProof.{NonHaltProof}
use Rattle.outcome.specs.declared.NonHaltProof.TheVariants.{StayLoop, ChainToInfinity}
use Rattle.outcome.specs.declared.Outcome.TheVariants.{Halted, OutOfFuel, NeverHalts, Full}
use Rattle.machine.specs.declared.Machine.{Machine}
use Rattle.machine.specs.declared.Action.{Action}
use Rattle.machine.specs.Layout.{stride_of, entry_number, entry_at}
use Rattle.tape.specs.declared.Tape.{Tape}
use Rattle.tape.specs.Model.Moves.{Held, read_of, room_for}
use Rattle.tape.specs.Fits.{TapeSafe}
use Rattle.tape.specs.Model.Questions.{blank_beyond}
use Rattle.run_checks.specs.declared.inner.look.Look.{Look}
use Rattle.run_checks.specs.declared.inner.look.Look.TheVariants.{Halt, Never, Go}

-- ---- the look: no entry; else, where the never test is made, a proved loop; else the entry

unfoldable pub stays : Dir → Bool
stays L = false
stays R = false
stays N = true

abbrev pub rewrites : (w0 w1 w2 r0 r1 r2 : ℕ) → Bool
rewrites w0 w1 w2 r0 r1 r2 = both (eqb w0 r0) (both (eqb w1 r1) (eqb w2 r2))

-- every tape stays and rewrites what it read
unfoldable pub stays_all : Action → (r0 r1 r2 : ℕ) → Bool
stays_all a r0 r1 r2 =
    both (stays a.dir0)
    (both (stays a.dir1)
    (both (stays a.dir2) (rewrites a.write0.0 a.write1.0 a.write2.0 r0 r1 r2)))

-- an entry that keeps the state: the first never pattern, or the second where there is one tape
unfoldable pub loop_of : (tapes : ℕ) → State → Action → (r0 r1 r2 : ℕ) → Held → Look
loop_of tapes q a r0 r1 r2 h =
    pick (stays_all a r0 r1 r2) (Never (StayLoop q))
    (pick (both (eqb tapes 1) (both (eqb r0 0) (blank_beyond h a.dir0))) (Never (ChainToInfinity q a.dir0)) (Go a))

unfoldable pub judge_of : (proves : Bool) (tapes : ℕ) → State → Action → (r0 r1 r2 : ℕ) → Held → Look
judge_of p tapes q a r0 r1 r2 h = pick (both p (eqb a.next.0 q.0)) (loop_of tapes q a r0 r1 r2 h) (Go a)

unfoldable pub look_on : Option Action → (proves : Bool) (tapes : ℕ) → State → (r0 r1 r2 : ℕ) → Held → Look
look_on None p tapes q r0 r1 r2 h = Halt
look_on (Some a) p tapes q r0 r1 r2 h = judge_of p tapes q a r0 r1 r2 h

unfoldable pub entry_of : Machine → List ℕ → State → (r0 r1 r2 : ℕ) → Option Action
entry_of m s q r0 r1 r2 = entry_at s (entry_number m.symbols (stride_of m) q.0 r0 r1 r2)

-- the look in state q, on three tapes
abbrev pub look_at : Machine → List ℕ → (proves : Bool) → State → Held → Held → Held → Look
look_at m s p q h0 h1 h2 =
    look_on (entry_of m s q (read_of h0) (read_of h1) (read_of h2))
    p m.tapes q (read_of h0) (read_of h1) (read_of h2) h0

abbrev pub on_look : {A : Type 0} → Look → A → (NonHaltProof → A) → (Action → A) → A
on_look Halt h n g = h
on_look (Never p) h n g = n p
on_look (Go a) h n g = g a

-- ---- space, decided for all tapes before anything is written

unfoldable pub rooms_of : (t0 t1 t2 : Tape) (n0 n1 n2 : ℕ) → Action → Bool
rooms_of t0 t1 t2 n0 n1 n2 a =
    both (room_for t0 n0 a.dir0) (both (room_for t1 n1 a.dir1) (room_for t2 n2 a.dir2))

-- ---- the choice: halted, never, fuel, space, in that order; else the entry is followed

unfoldable pub go_of : Action → (left steps : ℕ) → (roomy : Bool) → ControlFlow Outcome Action
go_of a left steps roomy =
    pick (eqb left 0) (Break (OutOfFuel steps))
    (pick roomy (Continue a) (Break (Full steps)))

unfoldable pub choice_at : Machine → List ℕ → (proves : Bool) → (left steps : ℕ) → State → Held → Held → Held → ControlFlow Outcome Action
choice_at m s p left steps q h0 h1 h2 =
    on_look (look_at m s p q h0 h1 h2)
    (Break (Halted steps q))
    (λ proof. Break (NeverHalts steps proof))
    (λ a. go_of a left steps (rooms_of h0.tape h1.tape h2.tape (length h0.cells) (length h1.cells) (length h2.cells) a))

-- ---- what the functions may assume

pub record AtOk (m : Machine) (stride : ℕ) (t0 t1 t2 : Tape) (c0 c1 c2 : List ℕ) : Type 0 where
  pub symbols_in : m.symbols ≤ 256
  pub stride_is : stride ≡ stride_of m
  pub stride_in : stride ≤ 16777216
  pub safe0 : TapeSafe t0 c0
  pub safe1 : TapeSafe t1 c1
  pub safe2 : TapeSafe t2 c2
