use Rattle.sim_slots.proofs.Facts.SlotCases.{put-none, put_some}
use Rattle.sim_slots.proofs.inner.put_if.Goals as goal

pub returns-then-not-has : goal.returns-then-not-has
returns-then-not-has c = put-none _ _ _ _ _ (c.if-not-has.true)

pub returns : goal.returns
returns c = put_some _ _ _ _ _ _ (c.if-not-has.false) c.put_held.ensures
