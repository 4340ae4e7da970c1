-- The effect of a C call of a timeline over the plain engine. Definitions only.
use Rattle.std.specs.Prelude.{List, ℕ}
use Rattle.outcome.specs.declared.Outcome.{Outcome}
use Rattle.timeline_rule.specs.Model.Timeline.{Reply}
use Rattle.timeline_rule.specs.Model.Kind.{TimelineOf}
use Rattle.sim_slots.specs.Model.Kind.{plain_kind}
use Rattle.capi_engines.specs.Model.Engines.{with_engine, with_times}
use Rattle.capi_numbers.specs.Model.Timelines.{reply_code, reply_out}

pub record TimelineCall : Type 0 where
  pub code : ℕ
  pub state : ℕ
  pub engine : List ℕ
  pub times : List ℕ
  pub out : List ℕ
  pub c0 : List ℕ
  pub c1 : List ℕ
  pub c2 : List ℕ
  pub store : List ℕ

abbrev pub timeline_call : (code state : ℕ) (engine times out c0 c1 c2 store : List ℕ) → TimelineCall
timeline_call code state engine times out c0 c1 c2 store = record {
  code = code;
  state = state;
  engine = engine;
  times = times;
  out = out;
  c0 = c0;
  c1 = c1;
  c2 = c2;
  store = store;
}

unfoldable pub moved_call : Reply Outcome × TimelineOf plain_kind → (engine times out : List ℕ) → TimelineCall
moved_call r engine times out =
    let e = r.1.engine in
    timeline_call (reply_code r.0) e.sim.state.0 (with_engine engine e.sim) (with_times times r.1.times) (reply_out r.0 out)
    e.c0 e.c1 e.c2 r.1.store
