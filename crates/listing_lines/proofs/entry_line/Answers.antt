use Rattle.listing_lines.specs.Forms.{entry_line}
use Rattle.listing_lines.proofs.Facts.FormCases.{forms}
use Rattle.listing_lines.proofs.entry_line.Goals as goal

pub returns-then-count_fields-ne5 : goal.returns-then-count_fields-ne5
unfolding entry_line
returns-then-count_fields-ne5 c = search forms depth 14

pub returns-in_err-state : goal.returns-in_err-state
unfolding entry_line
returns-in_err-state c = rw c.from_residual.ensures (search (forms, c.in_err-state.was) depth 14)

pub returns-in_err-read : goal.returns-in_err-read
unfolding entry_line
returns-in_err-read c = rw c.from_residual-in_err-read.ensures (search (forms, c.in_ok-state.was, c.in_err-read.was) depth 14)

pub returns-in_err-write : goal.returns-in_err-write
unfolding entry_line
returns-in_err-write c = rw c.from_residual-in_err-write.ensures (search (forms, c.in_ok-state.was, c.in_ok-read.was, c.in_err-write.was) depth 14)

pub returns-in_err-dir : goal.returns-in_err-dir
unfolding entry_line
returns-in_err-dir c = rw c.from_residual-in_err-dir.ensures (search (forms, c.in_ok-state.was, c.in_ok-read.was, c.in_ok-write.was, c.in_err-dir.was) depth 14)

pub returns-in_err-next : goal.returns-in_err-next
unfolding entry_line
returns-in_err-next c = rw c.from_residual-in_err-next.ensures (search (forms, c.in_ok-state.was, c.in_ok-read.was, c.in_ok-write.was, c.in_ok-dir.was, c.in_err-next.was) depth 14)

pub returns : goal.returns
unfolding entry_line
returns c = search (forms, c.in_ok-state.was, c.in_ok-read.was, c.in_ok-write.was, c.in_ok-dir.was, c.in_ok-next.was) depth 14
