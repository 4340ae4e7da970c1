use Rattle.std.proofs.Common.{◌≡◌, ◌∙◌, ap, arith}
use Rattle.rle_records.proofs.Facts.Records.{lay_zero, lay_next, laid}
use Rattle.rle_records.specs.Model.{lay}
use Rattle.rle_records.proofs.inner.fill.Goals as goal

pub loop-i-init : goal.loop-i-init
loop-i-init c = lay_zero _ _ _

pub loop-i-preserved : goal.loop-i-preserved
loop-i-preserved c = rw c.loop-i.invariant (lay_next _ _ c.loop-i.i _ _ c.run_at.ensures)

pub returns : goal.returns
returns c =
    let all : c.loop-i.i ≡ c.args.side.now.count = omega (arith, c.count-i-end.ensures) in
    c.loop-i.invariant ∙ ap (λ i. lay c.args.side.now.symbols c.args.side.now.lengths i c.args.out.now) all ∙ laid c.args.side.now c.args.out.now
