use Rattle.std.proofs.Common.{rules, arith, ◌≡◌, ◌∙◌}
use Rattle.tape_cells.specs.Model.{moved_up}
use Rattle.tape_cells.proofs.Facts.LoopCases.{blanked-part, moved_up-copy, open_is}
use Rattle.tape_cells.proofs.inner.open_left.Goals as goal

pub returns : goal.returns
returns c =
    let m : c.copy_within.new.self ≡ moved_up c.args.more c.args.len c.args.cells.now = c.copy_within.ensures.after ∙ moved_up-copy _ _ _ (omega arith) in
    open_is _ _ _ _ _ m (blanked-part 0 c.args.more _ _ _ (omega arith) (omega (arith, c.copy_within.ensures.len)) (search rules))
