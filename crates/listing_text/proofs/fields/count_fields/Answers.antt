use Rattle.std.proofs.Common.{◌≡◌, eqb, rules}
use Rattle.std.specs.List.{count_by}
use Rattle.listing_text.proofs.Facts.Library.{count_by-fields}
use Rattle.listing_text.proofs.fields.count_fields.Goals as goal

pub returns : goal.returns
returns c =
    let e : c.count.result ≡ count_by (λ b. eqb b 32) c.args.l.now = search rules in
    rw e (count_by-fields c.args.l.now)
