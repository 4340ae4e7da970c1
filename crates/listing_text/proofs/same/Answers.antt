use Rattle.std.proofs.Common.{◌∙◌}
use Rattle.listing_text.proofs.Facts.Library.{pointwise-same_list}
use Rattle.listing_text.proofs.same.Goals as goal

pub returns : goal.returns
returns c = c.eq.ensures ∙ pointwise-same_list _ _
