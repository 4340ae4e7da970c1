-- An advance of the plain engine, as a timeline makes it. Definitions only.
use Rattle.std.specs.Prelude.{Bool, true, false, List, ℕ, None}
use Rattle.outcome.specs.declared.Outcome.{Outcome}
use Rattle.machine.specs.declared.Machine.{Machine}
use Rattle.sim.specs.Model.Engine.{Conf, End, end, task, run_of}
use Rattle.sim.specs.Model.Operations.{bare_of, back_of}
use Rattle.timeline_rule.specs.Model.Kind.{verdict_or}

-- a run without a stop rule, with or without the never test: the engine handed back, and how it ended
abbrev pub handed_back : Machine → Conf → End → End
handed_back m σ e = end (back_of m σ e.at) e.outcome

unfoldable pub ran_from : Machine → List ℕ → (proves : Bool) → ℕ → Conf → End
ran_from m s proves n σ = handed_back m σ (run_of (task m s proves None) n (bare_of m σ))

-- "Each advance runs without the never test, then tests it with fuel 0."
abbrev pub tested : Machine → List ℕ → End → Outcome × Conf
tested m s e = (verdict_or e.outcome (ran_from m s true 0 e.at).outcome, e.at)

unfoldable pub advance_of : Machine → List ℕ → ℕ → Conf → Outcome × Conf
advance_of m s n σ = tested m s (ran_from m s false n σ)
