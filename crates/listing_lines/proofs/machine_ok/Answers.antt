use Rattle.listing_lines.specs.Forms.{machine_ok}
use Rattle.listing_text.proofs.Facts.Chain.{chain}
use Rattle.listing_lines.proofs.machine_ok.Goals as goal

pub returns-then-t-ne1 : goal.returns-then-t-ne1
unfolding machine_ok
returns-then-t-ne1 c = search chain depth 14

pub returns-then-k-lt1 : goal.returns-then-k-lt1
unfolding machine_ok
returns-then-k-lt1 c = search chain depth 14

pub returns-then-k-gt256 : goal.returns-then-k-gt256
unfolding machine_ok
returns-then-k-gt256 c = search chain depth 14

pub returns-then-n-lt1 : goal.returns-then-n-lt1
unfolding machine_ok
returns-then-n-lt1 c = search chain depth 14

pub returns-then-n-gt65536 : goal.returns-then-n-gt65536
unfolding machine_ok
returns-then-n-gt65536 c = search chain depth 14

pub returns-then-n-s : goal.returns-then-n-s
unfolding machine_ok
returns-then-n-s c = search chain depth 14

pub returns : goal.returns
unfolding machine_ok
returns c = search chain depth 14
