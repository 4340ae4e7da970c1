-- A refused call of an exported function leaves everything lent or passed as it was: the first demand's operations, across the C boundary. Assumes nothing.
use Rattle.machine.specs.Model.Check.{table_check, lookup_of}
use Rattle.sim.specs.Model.Questions as PlainAsks
use Rattle.rle.specs.Model.Questions as ChainAsks
use Rattle.rle.specs.Model.Records.{left_answer, right_answer}
use Rattle.rle.specs.Model.Engine.{left_of, right_of}
use Rattle.std.specs.Prelude.{length}
use Rattle.sim_slots.specs.Model.Kind.{plain_kind}
use Rattle.rle_slots.specs.Model.Kind.{chain_kind}
use Rattle.demands.specs.First.{first-demand}
use Rattle.capi_laws.specs.Refusals.{ExportsRefuse}
use Rattle.capi_laws.proofs.Facts.Refusals.{checked, filled, looked, line_was_read, line_was_written, got, extent, counted, located, listed, made_kept, stepped, ran, chain_made, chain_ran, begun, moved, chain-moved}

pub exports_refuse : ExportsRefuse
exports_refuse = record {
  check = λ m s out. checked (table_check m s) out;
  lookup = λ m s q a0 a1 a2 out. looked (lookup_of m s q a0 a1 a2) out;
  pack = λ m s words out. filled _ out words _ (first-demand.tables.pack m s words).unchanged;
  encode = λ glyphs flags word symbols out. filled _ out symbols _ (first-demand.tables.encode glyphs flags word symbols).unchanged;
  line_read = λ line table out. line_was_read _ out table _ (first-demand.lines.read line table).unchanged;
  line_write = λ m s line out. line_was_written _ out line _ (first-demand.lines.write m s line).unchanged;
  sim_new = λ m s w state engine out c0 c1 c2. made_kept state engine out c0 c1 c2 _ _ _ _ (first-demand.plain.new m s w c0 c1 c2).unchanged;
  sim_step = λ m s state engine out c0 c1 c2. stepped state engine out c0 c1 c2 _ _ (first-demand.plain.step m s _).unchanged;
  sim_run = λ m s rule fuel state engine out c0 c1 c2. ran state engine out c0 c1 c2 _ _ (first-demand.plain.run m s rule fuel _).unchanged;
  sim_run_packed = λ m s words rule fuel state engine out c0 c1 c2. ran state engine out c0 c1 c2 _ _ (first-demand.plain.fast m s words rule fuel _).unchanged;
  sim_get = λ m s i z σ out. got (PlainAsks.get_answer m s i z σ) out;
  sim_non_blank = λ m s i σ out. extent (PlainAsks.extent_answer m s i σ) out;
  sim_count = λ m s i σ out. counted (PlainAsks.count_answer m s i σ) out;
  sim_window = λ m s i z σ cells out. filled _ out cells _ (first-demand.plain.window m s i z σ cells).unchanged;
  sim_find = λ m s i z d σ out. located (PlainAsks.find_answer m s i z d σ) out;
  chain_new = λ m s w state cur engine out ls ll rs rl. chain_made state cur engine out ls ll rs rl _ _ _ (first-demand.chain.new m s w ls ll rs rl).unchanged;
  chain_run = λ m s rule fuel state cur engine out ls ll rs rl. chain_ran state cur engine out ls ll rs rl _ _ (first-demand.chain.run m s rule fuel _).unchanged;
  chain_get = λ m s z σ out. got (ChainAsks.get_answer m s z σ) out;
  chain_non_blank = λ m s σ out. extent (ChainAsks.extent_answer m s σ) out;
  chain_count = λ m s σ out. counted (ChainAsks.count_answer m s σ) out;
  chain_window = λ m s z σ cells out. filled _ out cells _ (first-demand.chain.window m s z σ cells).unchanged;
  chain_left = λ m s σ runs out. listed (left_answer m s (length runs) σ) (left_of σ) runs out;
  chain_right = λ m s σ runs out. listed (right_answer m s (length runs) σ) (right_of σ) runs out;
  sim_timeline_new = λ m s most every σ times out store. begun plain_kind times out store _ _ (first-demand.timelines.plain.new m s most every σ store).unchanged;
  sim_timeline_call = λ m s state engine times out c0 c1 c2 store c. moved state engine times out c0 c1 c2 store _ _ (first-demand.timelines.plain.call m s _ c).unchanged;
  chain_timeline_new = λ m s most every σ times out store. begun chain_kind times out store _ _ (first-demand.timelines.chain.new m s most every σ store).unchanged;
  chain_timeline_call_holds = λ m s state cur engine times out ls ll rs rl store c.
      chain-moved state cur engine times out ls ll rs rl store _ _ (first-demand.timelines.chain.call m s _ c).unchanged;
}
