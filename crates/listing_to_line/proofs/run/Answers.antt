use Rattle.std.proofs.Common.{rules}
use Rattle.program_input.proofs.Facts.{answers_all, first_bytes}
use Rattle.listing_to_line.specs.Output.{answer_to}
use Rattle.listing_to_line.proofs.Facts.FirstBytes.{answer_first}
use Rattle.listing_to_line.proofs.run.Goals as goal

pub returns-clause-written : goal.returns-clause-written
returns-clause-written g c =
    answers_all _ _ _ _ answer_to _ 65536 _ (search rules) answer_first (first_bytes _ _ _ _ (search rules) c.read_input.ensures.whole) c.answer.ensures.written
