use Rattle.sim.proofs.Facts.AnswerCases.{run_answers}
use Rattle.sim.proofs.Simulator.run.Goals as goal

pub returns : goal.returns
returns c = run_answers _ _ _ _ _ _ _ c.run_checked.ensures c.run_check-checked.ensures
