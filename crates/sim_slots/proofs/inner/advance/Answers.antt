use mathlib.Core.Path.{sym, ◌∙◌}
use Rattle.sim_slots.proofs.Facts.AdvanceCases.{again_asks, ends_ran, ends_tested}
use Rattle.sim_slots.proofs.inner.advance.Goals as goal

pub returns-then-not-is_spent : goal.returns-then-not-is_spent
returns-then-not-is_spent c = ends_ran _ _ _ _ _ _ _ _ _ _ _ _ c.run_all-ran.ensures _ c.outcome_in-outcome.ensures (sym c.is_spent.ensures ∙ c.if-not-is_spent.true)

pub run_all-tested-requires : goal.run_all-tested-requires
run_all-tested-requires c = again_asks _ _ _ _ _ _ _ _ _ _ _ _ c.run_all-ran.ensures c.requires

pub returns : goal.returns
returns c = ends_tested _ _ _ _ _ _ _ _ _ _ _ _ c.run_all-ran.ensures _ c.outcome_in-outcome.ensures (sym c.is_spent.ensures ∙ c.if-not-is_spent.false) _ _ _ _ _ _ c.run_all-tested.ensures c.outcome_in.ensures
