-- For each answer enum, document 01's number and values of each of its cases. Definitions only.
use Rattle.std.specs.Prelude.{ℕ, Bool, eqb, None, Option, Some}
use Rattle.symbol.specs.Kinds.{dir_number}
use Rattle.symbol.specs.declared.State.{State}
use Rattle.outcome.specs.declared.Status.{Status}
use Rattle.outcome.specs.declared.Status.TheVariants as S
use Rattle.outcome.specs.declared.NonHaltProof.{NonHaltProof}
use Rattle.outcome.specs.declared.NonHaltProof.TheVariants.{StayLoop, ChainToInfinity}
use Rattle.outcome.specs.declared.Values.{Values}
use Rattle.outcome.specs.declared.Outcome.{Outcome}
use Rattle.outcome.specs.declared.Outcome.TheVariants.{Halted, OutOfFuel, NeverHalts, Stopped, Full}
use Rattle.outcome.specs.declared.Refusal.{Refusal}
use Rattle.outcome.specs.declared.Refusal.TheVariants.{Tapes, Symbols, States, Start, TableSize, Entry, PackedWords, SeveralTapes, WordLength, WordSymbol, BufferSize, Misfit, StepLimit, Settings, StoreSize, Slot, Glyph, OutputSize, MalformedLine, LineLacks, NoLine}
use Rattle.outcome.specs.declared.Said.{Said}

-- "answers running, halted or full"
abbrev pub status_number : Status → ℕ
status_number S.Running = 0
status_number S.Halted = 1
status_number S.Full = 2

-- "StayLoop (state) or ChainToInfinity (state, move)"
abbrev pub proof_number : NonHaltProof → ℕ
proof_number (StayLoop q) = 0
proof_number (ChainToInfinity q d) = 1

-- the state that is never left, of a pattern that has one
abbrev pub proof_state : NonHaltProof → Option State
proof_state (StayLoop q) = Some q
proof_state (ChainToInfinity q d) = Some q

-- "Halted (steps, state), OutOfFuel (steps), NeverHalts (steps, proof), Stopped (steps). The port adds Full (steps)."
abbrev pub outcome_number : Outcome → ℕ
outcome_number (Halted s q) = 0
outcome_number (OutOfFuel s) = 1
outcome_number (NeverHalts s p) = 2
outcome_number (Stopped s) = 3
outcome_number (Full s) = 4

abbrev pub steps_of : Outcome → ℕ
steps_of (Halted s q) = s
steps_of (OutOfFuel s) = s
steps_of (NeverHalts s p) = s
steps_of (Stopped s) = s
steps_of (Full s) = s

abbrev pub is_halted : Outcome → Bool
is_halted o = eqb (outcome_number o) 0

abbrev pub is_full : Outcome → Bool
is_full o = eqb (outcome_number o) 4

-- the number and all values: steps, state, which pattern, its move
abbrev pub values : (number steps state pattern dir : ℕ) → Values
values number steps state pattern dir =
    record {
      number = number;
      steps = steps;
      state = state;
      pattern = pattern;
      dir = dir;
    }

abbrev pub never_values : ℕ → NonHaltProof → Values
never_values s (StayLoop q) = values 2 s q.0 0 0
never_values s (ChainToInfinity q d) = values 2 s q.0 1 (dir_number d)

abbrev pub values_of : Outcome → Values
values_of (Halted s q) = values 0 s q.0 0 0
values_of (OutOfFuel s) = values 1 s 0 0 0
values_of (NeverHalts s p) = never_values s p
values_of (Stopped s) = values 3 s 0 0 0
values_of (Full s) = values 4 s 0 0 0

-- what a refusal says: its number, and its place
abbrev pub said : (number : ℕ) → Option ℕ → Said
said number place = record { 0 = number; 1 = place }

-- "What each operation turns away", 1 to 18; 6 gives the lowest entry number, 10 and 17 the first place. Then document 02's 19 to 21; 19 and 20 give the place.
abbrev pub said_of : Refusal → Said
said_of Tapes = said 1 None
said_of Symbols = said 2 None
said_of States = said 3 None
said_of Start = said 4 None
said_of TableSize = said 5 None
said_of (Entry i) = said 6 (Some i)
said_of PackedWords = said 7 None
said_of SeveralTapes = said 8 None
said_of WordLength = said 9 None
said_of (WordSymbol i) = said 10 (Some i)
said_of BufferSize = said 11 None
said_of Misfit = said 12 None
said_of StepLimit = said 13 None
said_of Settings = said 14 None
said_of StoreSize = said 15 None
said_of Slot = said 16 None
said_of (Glyph i) = said 17 (Some i)
said_of OutputSize = said 18 None
said_of (MalformedLine i) = said 19 (Some i)
said_of (LineLacks i) = said 20 (Some i)
said_of NoLine = said 21 None

abbrev pub refusal_number : Refusal → ℕ
refusal_number why = (said_of why).0

abbrev pub place_of : Refusal → Option ℕ
place_of why = (said_of why).1
