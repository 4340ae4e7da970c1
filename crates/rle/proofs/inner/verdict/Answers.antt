use Rattle.rle.proofs.Facts.VerdictCases.{verdict_halts, verdict_never, verdict_spent}
use Rattle.rle.proofs.inner.verdict.Goals as goal

pub returns-in-None : goal.returns-in-None
returns-in-None c = verdict_halts _ _ _ _ c.entry_of-found.ensures c.in-None.is

pub returns-then-loops_on : goal.returns-then-loops_on
returns-then-loops_on c = verdict_never _ _ _ _ c.entry_of-found.ensures _ c.in-Some.is _ c.loops_on.ensures c.if-loops_on.true _ c.proof_of-proof.ensures

pub returns-in-Some : goal.returns-in-Some
returns-in-Some c = verdict_spent _ _ _ _ c.entry_of-found.ensures _ c.in-Some.is _ c.loops_on.ensures c.if-loops_on.false
