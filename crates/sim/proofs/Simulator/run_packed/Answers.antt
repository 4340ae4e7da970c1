use Rattle.sim.proofs.Facts.AnswerCases.{fast_cleared, fast_answers}
use Rattle.sim.proofs.Facts.OperationCases.{fast_words}
use Rattle.sim.proofs.Simulator.run_packed.Goals as goal

pub run_checked-requires-clause-cleared : goal.run_checked-requires-clause-cleared
run_checked-requires-clause-cleared c = fast_cleared _ _ _ _ _ _ c.fast_check-checked.ensures

pub run_checked-requires-clause-words_if : goal.run_checked-requires-clause-words_if
run_checked-requires-clause-words_if c = fast_words _ _ _ _ _ _ c.fast_check-checked.ensures

pub returns : goal.returns
returns c = fast_answers _ _ _ _ _ _ _ c.run_checked.ensures _ c.fast_check-checked.ensures
