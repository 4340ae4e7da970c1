-- The effect of a C call of a timeline over the run-length engine. Definitions only.
use Rattle.std.specs.Prelude.{List, ℕ}
use Rattle.outcome.specs.declared.Outcome.{Outcome}
use Rattle.timeline_rule.specs.Model.Timeline.{Reply}
use Rattle.timeline_rule.specs.Model.Kind.{TimelineOf}
use Rattle.rle_slots.specs.Model.Kind.{chain_kind}
use Rattle.capi_engines.specs.Model.Engines.{with_chain, with_times}
use Rattle.capi_numbers.specs.Model.Timelines.{reply_code, reply_out}

pub record ChainTimelineCall : Type 0 where
  pub code : ℕ
  pub state : ℕ
  pub cur : ℕ
  pub engine : List ℕ
  pub times : List ℕ
  pub out : List ℕ
  pub ls : List ℕ
  pub ll : List ℕ
  pub rs : List ℕ
  pub rl : List ℕ
  pub store : List ℕ

abbrev pub chain_timeline_call : (code state cur : ℕ) (engine times out ls ll rs rl store : List ℕ) → ChainTimelineCall
chain_timeline_call code state cur engine times out ls ll rs rl store = record {
  code = code;
  state = state;
  cur = cur;
  engine = engine;
  times = times;
  out = out;
  ls = ls;
  ll = ll;
  rs = rs;
  rl = rl;
  store = store;
}

unfoldable pub chain_moved_call : Reply Outcome × TimelineOf chain_kind → (engine times out : List ℕ) → ChainTimelineCall
chain_moved_call r engine times out =
    let e = r.1.engine in
    chain_timeline_call (reply_code r.0) e.sim.state.0 e.sim.tape.cur (with_chain engine e.sim) (with_times times r.1.times)
    (reply_out r.0 out) e.ls e.ll e.rs e.rl r.1.store
