-- THE PLAIN ENGINE AS A TIMELINE'S ENGINE: its operations' models, by name. Definitions only.
use Rattle.sim.specs.declared.Simulator.{Simulator}
use Rattle.outcome.specs.declared.Refusal.{Refusal}
use Rattle.std.specs.Prelude.{List, ℕ, Err, Ok, Result}
use Rattle.machine.specs.declared.Machine.{Machine}
use Rattle.sim.specs.Model.Engine.{Conf, conf}
use Rattle.sim.specs.Model.Operations.{Made, new_answer, engine_check}
use Rattle.timeline_rule.specs.Model.Timeline.{Reply, refused, answered}
use Rattle.timeline_rule.specs.Model.Kind.{Kind}
use Rattle.sim_slots.specs.Model.Advance.{advance_of}
use Rattle.sim_slots.specs.Model.Slots.{slot_size, pack_of, unpack_of}

-- the buffers that a fresh engine is lent
pub record Lent : Type 0 where
  pub c0 : List ℕ
  pub c1 : List ℕ
  pub c2 : List ℕ

abbrev pub reply_on : Result Simulator Refusal → (c0 c1 c2 : List ℕ) → Reply Conf
reply_on (Err why) c0 c1 c2 = refused why
reply_on (Ok v) c0 c1 c2 = answered (conf v c0 c1 c2)

abbrev pub made_on : Made → Reply Conf
made_on g = reply_on g.answer g.c0 g.c1 g.c2

abbrev pub create_of : Machine → (table word : List ℕ) → Lent → Reply Conf
create_of m s w b = made_on (new_answer m s w b.c0 b.c1 b.c2)

abbrev pub steps_of : Conf → ℕ
steps_of σ = σ.sim.steps

abbrev pub plain_kind : Kind
plain_kind = record {
  State = Conf;
  Lent = Lent;
  create = create_of;
  now = steps_of;
  check = engine_check;
  advance = advance_of;
  slot_size = slot_size;
  pack = pack_of;
  unpack = unpack_of;
}
