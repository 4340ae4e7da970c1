-- The proof of what specs/FirstPlain.antt states.
use Rattle.outcome.specs.declared.Outcome.TheVariants.{Full}
use Rattle.sim_refines.proofs.Facts.MissingTapes.{bare_fits, fits_bare}
use Rattle.sim_refines.proofs.Facts.Operations.{fast_done}
use Rattle.demands_second.proofs.Facts.PlainAccepts.{words_pass, words_say}
use Rattle.demands_first.proofs.Facts.FirstPlain.{plain_new_turns, plain_engine_turns, plain_step_turns, plain_run_turns, plain_fast_turns, plain_get_turns, plain_extent_turns, plain_count_turns, plain_window_turns, plain_find_turns}
use Rattle.demands_first.proofs.Facts.FirstPlainSpace.{plain_full, plain_stays, plain_onward, plain_step_full, plain_step_stays}
use Rattle.demands_first.specs.FirstPlain.{PlainOperations}

pub plain_operations : PlainOperations
plain_operations = record {
  new = plain_new_turns;
  engine_check_holds = plain_engine_turns;
  step = plain_step_turns;
  run = plain_run_turns;
  fast = plain_fast_turns;
  get = plain_get_turns;
  non_blank = plain_extent_turns;
  count_non_blank = plain_count_turns;
  window = plain_window_turns;
  find_non_blank = plain_find_turns;
  packed_words = λ m s words t. (words_say m s words t, words_pass m s words t);
  fits = λ m σ. (bare_fits m σ, fits_bare m σ);
  full = plain_full;
  fast_full = λ m s words b rule fuel σ τ n e. plain_full m s b rule fuel σ τ n (fast_done m s words rule fuel σ τ (Full n) e);
  full_exact = plain_stays;
  full_onward = plain_onward;
  step_full = plain_step_full;
  step_full_exact = plain_step_stays;
}
