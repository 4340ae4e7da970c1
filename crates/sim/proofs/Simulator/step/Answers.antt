use Rattle.sim.proofs.Facts.AnswerCases.{step_answers}
use Rattle.sim.proofs.Simulator.step.Goals as goal

pub returns : goal.returns
returns c = step_answers _ _ _ _ _ _ _ _ _ _ _ _ _ c.run_check-checked.ensures c.run_checked-ran.ensures c.step_answer.ensures
