-- Questions on the tape of a run-length engine. Definitions only.
use Rattle.outcome.specs.declared.Refusal.{Refusal}
use Rattle.symbol.specs.declared.Symbol.{Symbol}
use Rattle.std.specs.Prelude.{Bool, List, ℕ, ◌+◌, ◌-◌, eqb, ℤ, Err, Ok, Option, Result, None, Some}
use Rattle.notation.specs.Choice.{pick, both}
use Rattle.notation.specs.Limits.{raised_zero}
use Rattle.notation.specs.Position.{◌⊖◌}
use Rattle.symbol.specs.Kinds.{symbol_of}
use Rattle.symbol.specs.Model.{raised_of}
use Rattle.machine.specs.declared.Machine.{Machine}
use Rattle.tape.specs.declared.Span.{Span}
use Rattle.tape.specs.Model.Questions.{span}
use Rattle.run_rules.specs.Model.Answers.{asked_on}
use Rattle.rle_stack.specs.Model.{cells_of, near_of}
use Rattle.rle_macro.specs.declared.inner.questions.Tape.{Tape}
unfoldable pub use Rattle.rle_macro.specs.Model.Questions.{cell_on, window_on, window_all, count_on}
use Rattle.rle.specs.Model.Engine.{Conf, left_of, right_of}
use Rattle.rle.specs.Fits.{engine_check}

-- ---- the tape

-- the tape of an engine, to read
abbrev pub read_of : Conf → Tape
read_of σ = record { head = σ.sim.tape.head; cur = σ.sim.tape.cur; left = left_of σ; right = right_of σ }

-- the symbol at position raised − 2^63
unfoldable pub raised_cell : Conf → (raised : ℕ) → ℕ
raised_cell σ p = cell_on σ.sim.tape.head σ.sim.tape.cur (left_of σ) (right_of σ) p

-- the symbol j positions above the raised one; positions past i64 are blank
unfoldable pub window_cell : Conf → (raised j : ℕ) → ℕ
window_cell σ raised j = window_on σ.sim.tape.head σ.sim.tape.cur (left_of σ) (right_of σ) raised j

unfoldable pub window_from : Conf → (raised : ℕ) → List ℕ → List ℕ
window_from σ raised out = window_all σ.sim.tape.head σ.sim.tape.cur (left_of σ) (right_of σ) raised out

-- the raised positions of the lowest and the highest non-blank cell: the furthest of that side; else the head's; else the nearest of the other side
unfoldable pub lowest_of : Conf → ℕ
lowest_of σ =
    pick (eqb σ.sim.tape.left 0)
    (pick (eqb σ.sim.tape.cur 0) (σ.sim.tape.head + near_of (right_of σ)) σ.sim.tape.head)
    (σ.sim.tape.head - cells_of (left_of σ))

unfoldable pub highest_of : Conf → ℕ
highest_of σ =
    pick (eqb σ.sim.tape.right 0)
    (pick (eqb σ.sim.tape.cur 0) (σ.sim.tape.head - near_of (left_of σ)) σ.sim.tape.head)
    (σ.sim.tape.head + cells_of (right_of σ))

unfoldable pub blank_tape : Conf → Bool
blank_tape σ = both (eqb σ.sim.tape.cur 0) (both (eqb σ.sim.tape.left 0) (eqb σ.sim.tape.right 0))

unfoldable pub span_of : Conf → Option Span
span_of σ = pick (blank_tape σ) None (Some (span (lowest_of σ ⊖ raised_zero) (highest_of σ ⊖ raised_zero)))

unfoldable pub count_of : Conf → ℕ
count_of σ = count_on σ.sim.tape.cur (left_of σ) (right_of σ)

-- ---- the operations: the table check, refusals 8, 11, 12, then the answer

unfoldable pub get_answer : Machine → List ℕ → ℤ → Conf → Result Symbol Refusal
get_answer m s z σ = asked_on (engine_check m s σ) Err (Ok (symbol_of (raised_cell σ (raised_of z))))

unfoldable pub extent_answer : Machine → List ℕ → Conf → Result (Option Span) Refusal
extent_answer m s σ = asked_on (engine_check m s σ) Err (Ok (span_of σ))

unfoldable pub count_answer : Machine → List ℕ → Conf → Result ℕ Refusal
count_answer m s σ = asked_on (engine_check m s σ) Err (Ok (count_of σ))

-- the window's lent slice afterwards; a refusal leaves it unchanged
unfoldable pub window_into : Machine → List ℕ → ℤ → Conf → List ℕ → List ℕ
window_into m s z σ out = asked_on (engine_check m s σ) (λ why. out) (window_from σ (raised_of z) out)
