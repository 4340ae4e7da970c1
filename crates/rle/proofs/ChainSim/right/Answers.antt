use Rattle.std.proofs.Common.{◌∙◌, ap}
use Rattle.rle_stack.specs.Model.{Side, side}
use Rattle.rle_records.specs.Model.{records_of, written_of}
use Rattle.rle.specs.Model.Engine.{conf}
use Rattle.rle.specs.Model.Records.{right}
use Rattle.rle.proofs.Facts.RecordCases.{list_fine}
use Rattle.rle.proofs.ChainSim.right.Goals as goal

pub side_to_read-requires : goal.side_to_read-requires
side_to_read-requires c =
    let fine = list_fine right c.args.m c.args.table.now (conf c.args.self c.args.ls.now c.args.ll.now c.args.rs.now c.args.rl.now) c.args.out.now in
    let n = c.written-count.ensures ∙ ap written_of c.list_check-listed.ensures in
    rw n (fine.0.0, fine.0.1)

pub fill-requires : goal.fill-requires
fill-requires c =
    let fine = list_fine right c.args.m c.args.table.now (conf c.args.self c.args.ls.now c.args.ll.now c.args.rs.now c.args.rl.now) c.args.out.now in
    let n = c.written-count.ensures ∙ ap written_of c.list_check-listed.ensures in
    rw (c.side_to_read.ensures, n) fine.0.2

pub returns : goal.returns
returns c =
    let fine = list_fine right c.args.m c.args.table.now (conf c.args.self c.args.ls.now c.args.ll.now c.args.rs.now c.args.rl.now) c.args.out.now in
    let n = c.written-count.ensures ∙ ap written_of c.list_check-listed.ensures in
    let filled = ap (λ (x : Side). records_of x c.args.out.now) (c.side_to_read.ensures ∙ ap (side c.args.rs.now c.args.rl.now) n) in
    (c.list_check-listed.ensures, c.fill.ensures ∙ filled ∙ fine.1)
