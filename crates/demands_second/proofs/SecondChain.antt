-- The proof of what specs/SecondChain.antt states.
use Rattle.std.specs.Prelude.{refl}
use Rattle.symbol.specs.declared.Dir.TheVariants.{L, R}
use Rattle.outcome.specs.declared.Outcome.TheVariants.{NeverHalts}
use Rattle.rle_refines.proofs.Facts.Patterns.{empty_exact}
use Rattle.rle_refines.proofs.Facts.Operations.{engine_says, run_holds, run_never_halts, new_holds}
use Rattle.rle_refines.proofs.Facts.Rule.{run_off}
use Rattle.rle_refines.proofs.Facts.Questions.{get_is, extent_is, window_into_holds}
use Rattle.demands_second.proofs.Facts.ChainCount.{chain_counts}
use Rattle.demands_second.proofs.Facts.ChainRun.{macro_step, space_exact, cut_same}
use Rattle.demands_second.proofs.Facts.ChainAccepts.{right_stack, chain_new_answers, chain_run_answers, chain_get_answers, chain_span_answers, chain_count_answers, chain_asked}
use Rattle.demands_second.proofs.Facts.ChainMacros.{own_stacks, run_macros, macros_one}
use Rattle.demands_second.proofs.Facts.ChainRecords.{left_lists, right_lists, left_answers, right_answers}
use Rattle.demands_second.proofs.Facts.Windows.{chain_window_past}
use Rattle.demands_second.specs.SecondChain.{ChainEngine}

pub chain_engine_lem : ChainEngine
chain_engine_lem = record {
  accepts_new = chain_new_answers;
  right_stacks = right_stack;
  accepts_run = chain_run_answers;
  accepts_get = chain_get_answers;
  accepts_span = chain_span_answers;
  accepts_count = chain_count_answers;
  accepts_window = chain_asked;
  accepts_left = λ m s σ t out h. left_answers m s σ out (chain_asked m s σ t) h;
  accepts_right = λ m s σ t out h. right_answers m s σ out (chain_asked m s σ t) h;
  fresh = λ m s w ls ll rs rl v rs' rl' e. let h = new_holds m s w ls ll rs rl v rs' rl' e in (h.holds, h.accepted);
  runs = run_holds;
  rules = run_off;
  never = λ m s b rule fuel σ τ n p e. run_never_halts m s b rule fuel σ τ (NeverHalts n p) e n p refl;
  macro_steps = macro_step;
  macros = run_macros;
  macros_one = λ m d fuel n n' c e x y. macros_one m d x y refl;
  cuts = cut_same;
  space = space_exact;
  empty_left = λ m s σ c. empty_exact m σ (engine_says m s σ c).fits L tt;
  empty_right = λ m s σ c. empty_exact m σ (engine_says m s σ c).fits R tt;
  stacks = λ m s σ c. own_stacks m σ (engine_says m s σ c).fits;
  lefts = left_lists;
  rights = right_lists;
  gets = get_is;
  spans = extent_is;
  counts = chain_counts;
  windows = window_into_holds;
  windows_past = chain_window_past;
}
