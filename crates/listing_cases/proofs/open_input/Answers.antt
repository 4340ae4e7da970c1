use Rattle.listing_cases.proofs.Names.{is_text, input_name}
use Rattle.listing_cases.proofs.open_input.Goals as goal

pub unwrap-requires : goal.unwrap-requires
unwrap-requires g c =
    is_text _ _ _ _ (input_name _ _ _ c.digit-hundreds.ensures c.digit-tens.ensures c.digit-ones.ensures) c.from_utf8.ensures.cases
