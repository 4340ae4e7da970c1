use Rattle.std.proofs.Common.{rules}
use Rattle.tape_cells.proofs.Facts.LoopCases.{first-front, last-front, first_reach, last_reach}
use Rattle.tape.proofs.Facts.QuestionCases.{non_blank_is}
use Rattle.tape.proofs.inner.view.View.non_blank.Goals as goal

pub span-requires : goal.span-requires
span-requires c =
    let h = c.self.invariant.len_in in (
      first_reach _ _ _ _ _ (first-front _ _ _ h c.first_written-first.ensures) c.self.invariant.len_small,
      last_reach _ _ _ _ (last-front _ _ _ h c.last_written-last.ensures) c.self.invariant.len_small,
      search rules,
    )

pub returns : goal.returns
returns c =
    let h = c.self.invariant.len_in in
    rw (← c.self.view_is) (non_blank_is _ _ _ _ _ c.span.ensures (first-front _ _ _ h c.first_written-first.ensures) (last-front _ _ _ h c.last_written-last.ensures))
