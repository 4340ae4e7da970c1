-- The numbers of a run-length engine: the tests before the test for space, and the numbers after a macro step. Definitions only.
use Rattle.std.specs.Prelude.{Bool, ℕ, ◌+◌, min, max, eqb}
use Rattle.notation.specs.Choice.{pick}
use Rattle.outcome.specs.declared.Outcome.{Outcome}
use Rattle.outcome.specs.declared.Outcome.TheVariants.{OutOfFuel, Stopped}

-- "The stop rule is tested before the macro step, after fuel and before space."
abbrev pub fuel_then : {A : Type 0} → (end : Outcome → A) → (fuel steps : ℕ) → (stops : Bool) → A → A
fuel_then end fuel steps stops go = pick (eqb fuel 0) (end (OutOfFuel steps)) (pick stops (end (Stopped steps)) go)

-- steps and macro steps, the head, and the lowest and the highest head so far
pub record Tally : Type 0 where
  pub steps : ℕ
  pub macros : ℕ
  pub head : ℕ
  pub lowest : ℕ
  pub highest : ℕ

-- after a macro step of n steps that ends at this head: "`macro_steps` adds one a macro step"
abbrev pub tallied : Tally → (n head : ℕ) → Tally
tallied t n head = record {
  steps = t.steps + n;
  macros = t.macros + 1;
  head = head;
  lowest = min t.lowest head;
  highest = max t.highest head;
}
