use Rattle.std.proofs.Common.{◌≡◌, ap, ◌∙◌, length, arith}
use Rattle.listing_text.specs.Show.{show}
use Rattle.listing_text.proofs.Facts.Library.{decimal-show}
use Rattle.listing_text.proofs.Facts.PrintCases.{show_long, wrote-put}
use Rattle.listing_text.proofs.inner.print_u64.Goals as goal

pub returns : goal.returns
returns c =
    let n = c.args.n in
    let e : c.as_bytes.result.now ≡ show n = c.as_bytes.ensures.value ∙ c.format.ensures.text ∙ decimal-show n c.ranges.n.fits in
    let k : length c.as_bytes.result.now ≡ length (show n) = ap length e in
    (wrote-put _ _ _ _ _ _ e c.put.ensures (omega (arith, k, show_long n, c.requires)), omega (arith, c.put.ensures.0, k, show_long n))
