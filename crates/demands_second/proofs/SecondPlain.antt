-- The proof of what specs/SecondPlain.antt states.
use Rattle.std.specs.Prelude.{refl}
use Rattle.outcome.specs.declared.Outcome.TheVariants.{NeverHalts}
use Rattle.sim_refines.proofs.Facts.Fresh.{new_holds, new_fits, new_past}
use Rattle.sim_refines.proofs.Facts.PastLength.{run_kept, fast_kept, step_kept}
use Rattle.sim_refines.proofs.Facts.NeverRead.{run_same, fast_same, step_same}
use Rattle.sim_refines.proofs.Facts.Operations.{run_holds, run_never_halts, fast_agrees, fast_done, step_holds, step_handed_back}
use Rattle.sim_refines.proofs.Facts.Rule.{run_off, fast_off}
use Rattle.sim_timeline_laws.proofs.Facts.PastLength.{call_past}
use Rattle.demands_second.proofs.Facts.PlainAccepts.{plain_new_answers, plain_run_answers, plain_fast_answers, plain_step_answers, plain_get_answers, plain_span_answers, plain_count_answers, plain_asked, plain_find_answers}
use Rattle.demands_second.proofs.Facts.PlainLive.{get_live, span_live, count_live, window_live, find_live}
use Rattle.demands_second.proofs.Facts.PlainQuestions.{plain_gets, plain_spans, plain_counts, plain_windows, plain_finds}
use Rattle.demands_second.proofs.Facts.Windows.{plain_window_past}
use Rattle.demands_second.specs.SecondPlain.{PlainEngine}

pub plain_engine_lem : PlainEngine
plain_engine_lem = record {
  accepts_new = plain_new_answers;
  accepts_run = plain_run_answers;
  accepts_fast = plain_fast_answers;
  accepts_step = plain_step_answers;
  accepts_get = plain_get_answers;
  accepts_span = plain_span_answers;
  accepts_count = plain_count_answers;
  accepts_window = plain_asked;
  accepts_find = plain_find_answers;
  fresh = λ m s w c0 c1 c2 v d0 d1 d2 e. (new_holds m s w c0 c1 c2 v d0 d1 d2 e, new_fits m s w c0 c1 c2 v d0 d1 d2 e);
  runs = λ m s b rule fuel σ τ o e. run_holds m s b rule fuel σ τ o e;
  rules = run_off;
  steps = λ m s b σ τ x e. (step_holds m s b σ τ x e, step_handed_back m s b σ τ x e);
  never = λ m s b rule fuel σ τ n p e. run_never_halts m s b rule fuel σ τ (NeverHalts n p) e n p refl;
  fast = fast_agrees;
  fast_runs = λ m s words rule fuel σ τ o e. fast_done m s words rule fuel σ τ o e;
  fast_rules = λ m s words b p fuel σ off. fast_off m s b p fuel σ off words;
  run_live = λ m s rule fuel σ τ a. run_same m σ τ a s rule fuel;
  fast_live = λ m s words rule fuel σ τ a. fast_same m σ τ a s words rule fuel;
  step_live = λ m s σ τ a. step_same m σ τ a s;
  get_live = get_live;
  span_live = span_live;
  count_live = count_live;
  window_live = window_live;
  find_live = find_live;
  fresh_past = new_past;
  run_past = λ m s rule fuel σ. run_kept m s σ rule fuel;
  fast_past = λ m s words rule fuel σ. fast_kept m s σ words rule fuel;
  step_past = step_kept;
  call_past = call_past;
  gets = plain_gets;
  spans = plain_spans;
  counts = plain_counts;
  windows = plain_windows;
  windows_past = plain_window_past;
  finds = plain_finds;
}
