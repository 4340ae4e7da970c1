use Rattle.rle_slots.proofs.Facts.AdvanceCases.{advance_stride, advance_ok, advance_ends, advance_verdict}
use Rattle.rle_slots.proofs.inner.advance.Goals as goal

pub stride-stride-requires : goal.stride-stride-requires
stride-stride-requires c = advance_stride _ _ _ _ c.requires

pub run_all-ran-requires : goal.run_all-ran-requires
run_all-ran-requires c = advance_ok _ _ _ _ _ c.requires c.stride-stride.ensures

pub returns-then-not-is_spent : goal.returns-then-not-is_spent
returns-then-not-is_spent c = advance_ends _ _ _ _ _ _ c.run_all-ran.ensures _ c.is_spent.ensures (c.if-not-is_spent.true)

pub invariant_of-t : goal.invariant_of-t
invariant_of-t c = record { ok = (advance_ok _ _ _ _ _ c.requires c.stride-stride.ensures).table }

pub returns : goal.returns
returns c = advance_verdict _ _ _ _ _ _ c.run_all-ran.ensures _ c.is_spent.ensures _ (c.if-not-is_spent.false) c.verdict-verdict.ensures
