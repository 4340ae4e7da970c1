use Rattle.listing_lines.specs.Forms.{machine_line}
use Rattle.listing_text.proofs.Facts.Chain.{chain}
use Rattle.listing_lines.proofs.machine_line.Goals as goal

pub returns-then-count_fields-ne4 : goal.returns-then-count_fields-ne4
unfolding machine_line
returns-then-count_fields-ne4 c = search chain depth 14

pub returns-in_err-tapes : goal.returns-in_err-tapes
unfolding machine_line
returns-in_err-tapes c = rw c.from_residual.ensures (search (chain, c.in_err-tapes.was) depth 14)

pub returns-in_err-symbols : goal.returns-in_err-symbols
unfolding machine_line
returns-in_err-symbols c = rw c.from_residual-in_err-symbols.ensures (search (chain, c.in_ok-tapes.was, c.in_err-symbols.was) depth 14)

pub returns-in_err-states : goal.returns-in_err-states
unfolding machine_line
returns-in_err-states c = rw c.from_residual-in_err-states.ensures (search (chain, c.in_ok-tapes.was, c.in_ok-symbols.was, c.in_err-states.was) depth 14)

pub returns-in_err-start : goal.returns-in_err-start
unfolding machine_line
returns-in_err-start c = rw c.from_residual-in_err-start.ensures (search (chain, c.in_ok-tapes.was, c.in_ok-symbols.was, c.in_ok-states.was, c.in_err-start.was) depth 14)

pub returns-then-machine_ok : goal.returns-then-machine_ok
unfolding machine_line
returns-then-machine_ok c = search (chain, c.in_ok-tapes.was, c.in_ok-symbols.was, c.in_ok-states.was, c.in_ok-start.was) depth 14

pub returns : goal.returns
unfolding machine_line
returns c = search (chain, c.in_ok-tapes.was, c.in_ok-symbols.was, c.in_ok-states.was, c.in_ok-start.was) depth 14
