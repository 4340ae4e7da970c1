-- The proof of what specs/FirstChain.antt states.
use Rattle.rle_refines.proofs.Facts.Fits.{fits_holds, holds_fits, ends-near}
use Rattle.demands_second.proofs.Facts.ChainRun.{full_stays, full_there}
use Rattle.demands_first.proofs.Facts.FirstChain.{chain_new_turns, chain_engine_turns, chain_run_turns, chain_get_turns, chain_extent_turns, chain_count_turns, chain_window_turns, chain_left_turns, chain_right_turns, chain_new_stack, chain_new_sizes}
use Rattle.demands_first.proofs.Facts.FirstChainSpace.{chain_full, chain_onward}
use Rattle.demands_first.specs.FirstChain.{ChainOperations}

pub chain_operations : ChainOperations
chain_operations = record {
  new = chain_new_turns;
  engine_check_holds = chain_engine_turns;
  run = chain_run_turns;
  get = chain_get_turns;
  non_blank = chain_extent_turns;
  count_non_blank = chain_count_turns;
  window = chain_window_turns;
  left = chain_left_turns;
  right = chain_right_turns;
  new_stack = chain_new_stack;
  new_sizes = chain_new_sizes;
  fits = λ m σ. (fits_holds m σ, holds_fits m σ);
  near = ends-near;
  full = chain_full;
  full_exact = λ m s b rule fuel σ c l v r. (full_there m s b rule fuel σ σ σ.sim.steps, full_stays m s b fuel σ c rule l v r);
  full_onward = chain_onward;
}
