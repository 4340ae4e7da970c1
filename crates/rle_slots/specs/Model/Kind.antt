-- The run-length engine as a timeline's engine: the models of its operations, by name. Definitions only.
use Rattle.rle.specs.declared.ChainSim.{ChainSim}
use Rattle.outcome.specs.declared.Refusal.{Refusal}
use Rattle.std.specs.Prelude.{List, ℕ, Err, Ok, Result}
use Rattle.timeline_rule.specs.Model.Timeline.{Reply, refused, answered}
use Rattle.timeline_rule.specs.Model.Kind.{Kind}
use Rattle.rle.specs.Model.Engine.{Conf, conf}
use Rattle.rle.specs.Fits.{engine_check}
use Rattle.rle.specs.Model.Operations.{Made, new_answer}
use Rattle.rle_slots.specs.Model.Advance.{advance_of}
use Rattle.rle_slots.specs.Model.Slots.{Lent, slot_size, pack_of, unpack_of}

-- a fresh engine with its places; those of the left side are unchanged
abbrev pub fresh_in : Result ChainSim Refusal → (ls ll rs rl : List ℕ) → Reply Conf
fresh_in (Err why) ls ll rs rl = refused why
fresh_in (Ok v) ls ll rs rl = answered (conf v ls ll rs rl)

abbrev pub made_in : Lent → Made → Reply Conf
made_in t a = fresh_in a.answer t.ls t.ll a.rs a.rl

abbrev pub chain_kind : Kind
chain_kind = record {
  State = Conf;
  Lent = Lent;
  create = λ m s w t. made_in t (new_answer m s w t.ls t.ll t.rs t.rl);
  now = λ σ. σ.sim.steps;
  check = engine_check;
  advance = advance_of;
  slot_size = slot_size;
  pack = pack_of;
  unpack = unpack_of;
}
