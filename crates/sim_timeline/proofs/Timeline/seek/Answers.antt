use Rattle.std.proofs.Common.{rules, ap}
use Rattle.sim_timeline.proofs.Timeline.seek.Goals as goal

pub returns : goal.returns
returns c =
    let n0 = ap (λ z. z.0) c.seek-answer.ensures.same_buffers in
    let n1 = ap (λ z. z.1) c.seek-answer.ensures.same_buffers in
    let n2 = ap (λ z. z.2) c.seek-answer.ensures.same_buffers in
    search (rules, n0, n1, n2)
