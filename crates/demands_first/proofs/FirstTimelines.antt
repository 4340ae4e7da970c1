-- The proof of what specs/FirstTimelines.antt states.
use Rattle.std.specs.Prelude.{refl}
use Rattle.sim_slots.specs.Model.Kind.{plain_kind}
use Rattle.rle_slots.specs.Model.Kind.{chain_kind}
use Rattle.demands_first.specs.FirstClaims.{numbers_of}
use Rattle.demands_first.specs.FirstTests.{chain_ask_tests}
use Rattle.demands_first.proofs.Facts.First.{chain_ask_first}
use Rattle.demands_first.specs.FirstSlots.{plain_meaning, chain_meaning}
use Rattle.demands_first.specs.FirstTimeline.{plain_engine_tests}
use Rattle.demands_first.proofs.Facts.FirstTimeline.{timeline_operations, plain_engine_first}
use Rattle.demands_first.proofs.Facts.FirstPlainTimeline.{plain_slots, plain_under}
use Rattle.demands_first.proofs.Facts.FirstChainTimeline.{chain_slots, chain_under}
use Rattle.demands_first.specs.FirstTimelines.{BothTimelines}

pub both_timelines : BothTimelines
unfolding numbers_of
both_timelines = record {
  plain = timeline_operations plain_kind _ plain_engine_tests (λ m s e. refl) plain_engine_first plain_meaning plain_slots plain_under;
  chain = timeline_operations chain_kind _ chain_ask_tests (λ m s e. refl) chain_ask_first chain_meaning chain_slots chain_under;
}
