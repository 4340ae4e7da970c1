use Rattle.rle_slots.proofs.Facts.SlotCases.{restore_none, restore_left, restore_right, restore_some}
use native.Mathlib.Omega.{arith}
use Rattle.rle_slots.proofs.inner.restore.Goals as goal

pub returns-in-None : goal.returns-in-None
returns-in-None c = restore_none _ _ _ _ _ _ _ _ _ c.places-lp.ensures c.places-rp.ensures _ c.peek-found.ensures c.in-None.is

pub take_side-requires-clause-count_in_bounds : goal.take_side-requires-clause-count_in_bounds
take_side-requires-clause-count_in_bounds c = (omega (arith, c.places-lp.ensures, restore_left _ _ _ _ _ _ c.peek-found.ensures _ c.in-Some.is), omega (arith, c.places-lp.ensures, restore_left _ _ _ _ _ _ c.peek-found.ensures _ c.in-Some.is))

pub take_side-requires-clause-places_in_bounds : goal.take_side-requires-clause-places_in_bounds
take_side-requires-clause-places_in_bounds c = (omega (arith, c.requires, c.places-lp.ensures, c.places-rp.ensures), omega (arith, c.requires, c.places-lp.ensures, c.places-rp.ensures), restore_left _ _ _ _ _ _ c.peek-found.ensures _ c.in-Some.is)

pub take_side-requires-in-Some-clause-count_in_bounds : goal.take_side-requires-in-Some-clause-count_in_bounds
take_side-requires-in-Some-clause-count_in_bounds c = (omega (arith, c.places-rp.ensures, restore_right _ _ _ _ _ _ c.peek-found.ensures _ c.in-Some.is), omega (arith, c.places-rp.ensures, restore_right _ _ _ _ _ _ c.peek-found.ensures _ c.in-Some.is))

pub take_side-requires-in-Some-clause-places_in_bounds : goal.take_side-requires-in-Some-clause-places_in_bounds
take_side-requires-in-Some-clause-places_in_bounds c = (omega (arith, c.requires, c.places-lp.ensures, c.places-rp.ensures), omega (arith, c.requires, c.places-lp.ensures, c.places-rp.ensures), restore_right _ _ _ _ _ _ c.peek-found.ensures _ c.in-Some.is)

pub returns-in-Some : goal.returns-in-Some
returns-in-Some c = restore_some _ _ _ _ _ _ _ _ _ c.places-lp.ensures c.places-rp.ensures _ c.peek-found.ensures _ c.in-Some.is _ _ _ _ c.take_side.ensures c.take_side-in-Some.ensures
