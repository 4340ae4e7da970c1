use Rattle.notation.proofs.Facts.Tests.{tests}
use Rattle.capi_engines.proofs.rule_of.Goals as goal

pub returns-then-n-lt65536 : goal.returns-then-n-lt65536
returns-then-n-lt65536 c = search tests

pub returns : goal.returns
returns c = search tests
