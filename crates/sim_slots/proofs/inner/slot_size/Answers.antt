use native.Mathlib.Omega.{arith}
use Rattle.sim_slots.proofs.Facts.SlotCases.{sizes_small}
use Rattle.sim_slots.proofs.inner.slot_size.Goals as goal

pub overflow_add-result : goal.overflow_add-result
overflow_add-result c = let k = sizes_small _ _ _ _ c.requires in omega (arith, k.small0)

pub overflow_add-result-2 : goal.overflow_add-result-2
overflow_add-result-2 c = let k = sizes_small _ _ _ _ c.requires in omega (arith, k.small0, k.small1, c.part_size-p1.ensures)

pub overflow_add-result-3 : goal.overflow_add-result-3
overflow_add-result-3 c = let k = sizes_small _ _ _ _ c.requires in omega (arith, k.small0, k.small1, k.small2, c.part_size-p1.ensures, c.part_size-p2.ensures)
