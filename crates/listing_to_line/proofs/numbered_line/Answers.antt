use native.Mathlib.Omega.{arith}
use Rattle.listing_text.proofs.Facts.PrintCases.{wrote_then}
use Rattle.listing_to_line.proofs.Facts.AnswerCases.{put_first, then_newline}
use Rattle.listing_to_line.proofs.numbered_line.Goals as goal

pub returns : goal.returns
returns c = then_newline _ _ (wrote_then (put_first _ c.args.text.now _ _ c.put-r1.ensures (omega arith)) c.print_u64-r2.ensures.0) c.put.ensures (omega arith)
