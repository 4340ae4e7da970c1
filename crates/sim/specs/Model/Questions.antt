-- The tape questions as operations: their refusals and their answers. Definitions only.
use Rattle.tape.specs.declared.Span.{Span}
use Rattle.outcome.specs.declared.Refusal.{Refusal}
use Rattle.symbol.specs.declared.Symbol.{Symbol}
use Rattle.std.specs.Prelude.{List, ℕ, eqb, ltb, ℤ, Err, Ok, Option, Result, ⊤}
use Rattle.notation.specs.Choice.{pick}
use Rattle.symbol.specs.Kinds.{symbol_of}
use Rattle.symbol.specs.declared.Dir.{Dir}
use Rattle.outcome.specs.declared.Refusal.TheVariants as Why
use Rattle.machine.specs.declared.Machine.{Machine}
use Rattle.machine.specs.Model.Check.{demand, checked_on}
use Rattle.tape.specs.declared.Tape.{Tape}
use Rattle.tape.specs.Model.Moves.{Held, held}
use Rattle.tape.specs.Model.Questions.{cell_of, non_blank_of, count_of, window_of, find_of}
use Rattle.sim.specs.declared.Simulator.{Simulator}
pub use Rattle.run_rules.specs.Model.Answers.{asked_on}
use Rattle.sim.specs.Model.Engine.{Conf}
use Rattle.sim.specs.Model.Operations.{engine_check}

-- ---- the tape with number i

abbrev pub tape_at : ℕ → Simulator → Tape
tape_at i v = pick (eqb i 0) v.t0 (pick (eqb i 1) v.t1 v.t2)

abbrev pub cells_at : ℕ → List ℕ → List ℕ → List ℕ → List ℕ
cells_at i c0 c1 c2 = pick (eqb i 0) c0 (pick (eqb i 1) c1 c2)

abbrev pub held_at : ℕ → Conf → Held
held_at i σ = held (tape_at i σ.sim) (cells_at i σ.c0 σ.c1 σ.c2)

-- ---- "Tape questions: 8, 11, 12 (also a tape number not below t)"

unfoldable pub question_check : Machine → List ℕ → ℕ → Conf → Result ⊤ Refusal
question_check m s i σ = checked_on (engine_check m s σ) (demand (ltb i m.tapes) Why.Misfit (Ok tt))

unfoldable pub get_answer : Machine → List ℕ → ℕ → ℤ → Conf → Result Symbol Refusal
get_answer m s i z σ = asked_on (question_check m s i σ) Err (Ok (symbol_of (cell_of (held_at i σ) z)))

unfoldable pub extent_answer : Machine → List ℕ → ℕ → Conf → Result (Option Span) Refusal
extent_answer m s i σ = asked_on (question_check m s i σ) Err (Ok (non_blank_of (held_at i σ)))

unfoldable pub count_answer : Machine → List ℕ → ℕ → Conf → Result ℕ Refusal
count_answer m s i σ = asked_on (question_check m s i σ) Err (Ok (count_of (held_at i σ)))

-- the window's lent slice after the call; a refusal leaves it unchanged
unfoldable pub window_into : Machine → List ℕ → ℕ → ℤ → Conf → List ℕ → List ℕ
window_into m s i z σ out = asked_on (question_check m s i σ) (λ why. out) (window_of (held_at i σ) z out)

unfoldable pub find_answer : Machine → List ℕ → ℕ → ℤ → Dir → Conf → Result (Option ℤ) Refusal
find_answer m s i z d σ = asked_on (question_check m s i σ) Err (Ok (find_of (held_at i σ) z d))
