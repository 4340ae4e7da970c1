use Rattle.std.proofs.Common.{◌∙◌, sym, arith}
use Rattle.std.proofs.lemmas.Slice.{put_mid-paste}
use Rattle.store_bytes.proofs.Facts.Bytes.{put_64_bytes}
use Rattle.store_bytes.proofs.inner.put_64.Goals as goal

pub returns : goal.returns
returns c = put_mid-paste c.args.at _ _ _ _ 8 (c.copy_from_slice.ensures.after ∙ c.to_le_bytes.ensures) (omega arith) (omega arith) ∙ sym (put_64_bytes c.args.s.now c.args.at c.args.x c.requires c.ranges.x.fits)
