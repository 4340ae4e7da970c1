-- The numbers lent to an exported call, read as an engine or a timeline and stored back, are as they were: the sixteen of the plain engine, the seven of the
-- run-length engine and the four of a timeline, for all values. Assumes nothing.
use Rattle.std.specs.Prelude.{◌≡◌, refl, List, ℕ, ◌+◌}
use Rattle.std.proofs.lemmas.List.{set-get_or}
use Rattle.capi_engines.specs.Model.Engines.{tape_from, engine_of, with_tape, with_engine, chain_of, with_chain, times_from, with_times}

tape_kept : (xs : List ℕ) (i : ℕ) → with_tape xs i (tape_from xs i) ≡ xs
unfolding with_tape
tape_kept xs i = rw (set-get_or xs i 0, set-get_or xs (i + 1) 0, set-get_or xs (i + 2) 0, set-get_or xs (i + 3) 0, set-get_or xs (i + 4) 0) refl

pub engine_kept : (state : ℕ) (xs : List ℕ) → with_engine xs (engine_of state xs) ≡ xs
unfolding with_engine engine_of
engine_kept state xs = rw (set-get_or xs 0 0, tape_kept xs 1, tape_kept xs 6, tape_kept xs 11) refl

pub chain_kept : (state cur : ℕ) (xs : List ℕ) → with_chain xs (chain_of state cur xs) ≡ xs
unfolding with_chain chain_of
chain_kept state cur xs = rw (set-get_or xs 0 0, set-get_or xs 1 0, set-get_or xs 2 0, set-get_or xs 3 0, set-get_or xs 4 0, set-get_or xs 5 0, set-get_or xs 6 0) refl

pub times_kept : (xs : List ℕ) → with_times xs (times_from xs) ≡ xs
unfolding with_times times_from
times_kept xs = rw (set-get_or xs 0 0, set-get_or xs 1 0, set-get_or xs 2 0, set-get_or xs 3 0) refl
