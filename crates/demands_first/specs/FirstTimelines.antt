-- THE FIRST DEMAND for the timelines over the plain engine and over the run-length engine.
use Rattle.std.specs.Prelude.{[], ◌∷◌}
use Rattle.sim_slots.specs.Model.Kind.{plain_kind}
use Rattle.rle_slots.specs.Model.Kind.{chain_kind}
use Rattle.demands_first.specs.FirstTests.{chain_ask_tests}
use Rattle.demands_first.specs.FirstSlots.{plain_meaning, chain_meaning}
use Rattle.demands_first.specs.FirstTimeline.{plain_engine_tests, TimelineOperations}

pub record BothTimelines : Type 0 where
  pub plain : TimelineOperations plain_kind plain_meaning (1 ∷ 2 ∷ 3 ∷ 4 ∷ 5 ∷ 6 ∷ 11 ∷ 12 ∷ []) plain_engine_tests
  pub chain : TimelineOperations chain_kind chain_meaning (1 ∷ 2 ∷ 3 ∷ 4 ∷ 5 ∷ 6 ∷ 8 ∷ 11 ∷ 12 ∷ []) chain_ask_tests
