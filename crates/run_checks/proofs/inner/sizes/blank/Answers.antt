use lib.ListN.{length}
use Rattle.run_checks.proofs.Facts.SizesCases.{blank_room, blank_has, blank_lacks}
use Rattle.run_checks.proofs.inner.sizes.blank.Goals as goal

pub fresh-requires : goal.fresh-requires
fresh-requires c = blank_room _ (length c.args.cells.now) c.requires c.if-has.true

pub returns-then-has : goal.returns-then-has
returns-then-has c = blank_has _ _ _ _ c.if-has.true c.fresh.ensures

pub returns : goal.returns
returns c = blank_lacks _ _ c.if-has.false
