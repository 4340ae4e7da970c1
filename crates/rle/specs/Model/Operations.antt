-- The run-length engine's operations: what they answer, and what they leave in the lent places. Definitions only.
use Rattle.symbol.specs.declared.State.{State}
use Rattle.outcome.specs.declared.Refusal.{Refusal}
use Rattle.outcome.specs.declared.Outcome.{Outcome}
use Rattle.std.specs.Prelude.{true, List, ℕ, get_or, Err, Ok, Option, Result, ⊤}
use Rattle.notation.specs.Limits.{raised_zero}
use Rattle.symbol.specs.Kinds.{state_of}
use Rattle.machine.specs.declared.Machine.{Machine}
use Rattle.run_rules.specs.Model.Task.{task}
use Rattle.run_rules.specs.Model.Answers.{answered}
use Rattle.rle_stack.specs.Model.{Side, side, places_of}
pub use Rattle.rle_counts.specs.Model.Words.{word_of}
unfoldable pub use Rattle.rle_counts.specs.Model.Words.{laid_of, runs_of, fresh_sizes, fresh_check}
use Rattle.rle.specs.declared.ChainSim.{ChainSim}
use Rattle.rle.specs.Model.Engine.{Conf, End, run_of}
use Rattle.rle.specs.Fits.{run_check}

-- ---- the run: its answer, with the engine and the places after it

pub record Given : Type 0 where
  pub at : Conf
  pub answer : Result Outcome Refusal

abbrev pub given : Conf → Result Outcome Refusal → Given
given σ a = record { at = σ; answer = a }

abbrev pub run_on : Result ⊤ Refusal → Conf → End → Given
run_on r σ e = answered given Err r σ e.at (Ok e.outcome)

unfoldable pub run_answer : Machine → List ℕ → Option State → ℕ → Conf → Given
run_answer m s rule fuel σ = run_on (run_check m s fuel σ) σ (run_of (task m s true rule) fuel σ)

-- ---- a fresh engine

-- the start value, with the symbol under the head and the number of runs on the right side
abbrev pub start_sim : Machine → (cur rights : ℕ) → ChainSim
start_sim m cur rights = record {
  state = state_of m.start;
  steps = 0;
  macros = 0;
  tape = record { left = 0; cur = cur; right = rights; head = raised_zero };
  lowest = raised_zero;
  highest = raised_zero;
}

abbrev pub fresh_sim : Machine → List ℕ → ℕ → ChainSim
fresh_sim m w rights = start_sim m (get_or w 0 0) rights

-- the answer, with the right side's places; of the left side's places only the number is read
pub record Made : Type 0 where
  pub answer : Result ChainSim Refusal
  pub rs : List ℕ
  pub rl : List ℕ

abbrev pub made : Result ChainSim Refusal → List ℕ → List ℕ → Made
made f rs rl = record { answer = f; rs = rs; rl = rl }

abbrev pub made_with : Machine → List ℕ → Side → Made
made_with m w x = made (Ok (fresh_sim m w x.count)) x.symbols x.lengths

abbrev pub fresh_on : Result ⊤ Refusal → List ℕ → List ℕ → Made → Made
fresh_on (Err why) rs rl done = made (Err why) rs rl
fresh_on (Ok tt) rs rl done = done

unfoldable pub new_answer : Machine → (s w ls ll rs rl : List ℕ) → Made
new_answer m s w ls ll rs rl =
    fresh_on (fresh_check m s w (places_of ls ll) (places_of rs rl)) rs rl (made_with m w (word_of w (side rs rl 0)))
