use Rattle.run_checks.proofs.Facts.LookCases.{loop_stays, loop_several, loop_reads, loop_chain, loop_goes}
use Rattle.run_checks.proofs.inner.look.loop_of.Goals as goal

pub returns-then-stays_all : goal.returns-then-stays_all
returns-then-stays_all c = loop_stays _ _ _ _ _ _ _ _ c.stays_all.ensures c.if-stays_all.true

pub returns-then-tapes-ne1 : goal.returns-then-tapes-ne1
returns-then-tapes-ne1 c = loop_several _ _ _ _ _ _ _ _ c.stays_all.ensures c.if-stays_all.false c.if-tapes-ne1.true

pub returns-then-r0-ne0 : goal.returns-then-r0-ne0
returns-then-r0-ne0 c = loop_reads _ _ _ _ _ _ _ _ c.stays_all.ensures c.if-stays_all.false c.if-tapes-ne1.false c.if-r0-ne0.true

pub returns-then-only_blanks_beyond : goal.returns-then-only_blanks_beyond
returns-then-only_blanks_beyond c = loop_chain _ _ _ _ _ _ _ _ c.stays_all.ensures c.if-stays_all.false c.if-tapes-ne1.false c.if-r0-ne0.false _ c.only_blanks_beyond.ensures c.if-only_blanks_beyond.true

pub returns : goal.returns
returns c = loop_goes _ _ _ _ _ _ _ _ c.stays_all.ensures c.if-stays_all.false c.if-tapes-ne1.false c.if-r0-ne0.false _ c.only_blanks_beyond.ensures c.if-only_blanks_beyond.false
