-- Numbers across the C boundary: reading and storing the numbers of a plain engine. Assumes nothing.
use Rattle.std.specs.Prelude.{◌≡◌, List, ℕ, get_or, set}
use Rattle.symbol.specs.Kinds.{state_of}
use Rattle.tape.specs.declared.Tape.{Tape}
use Rattle.sim.specs.declared.Simulator.{Simulator}
use Rattle.capi_engines.specs.Model.Engines.{tape_from, engine_of, with_tape, with_engine}

pub engine_read : (q : ℕ) (xs : List ℕ) (t0 t1 t2 : Tape) → t0 ≡ tape_from xs 1 → t1 ≡ tape_from xs 6 → t2 ≡ tape_from xs 11
    → ◌≡◌ {A = Simulator} (record { state = state_of q; steps = get_or xs 0 0; t0 = t0; t1 = t1; t2 = t2 }) (engine_of q xs)
unfolding engine_of
engine_read q xs t0 t1 t2 p0 p1 p2 = λ i. record { state = state_of q; steps = get_or xs 0 0; t0 = p0 i; t1 = p1 i; t2 = p2 i }

pub engine_stored : (xs a b c : List ℕ) (v : Simulator) → c ≡ with_tape b 11 v.t2 → b ≡ with_tape a 6 v.t1 → a ≡ with_tape (set xs 0 v.steps) 1 v.t0 → c ≡ with_engine xs v
unfolding with_engine
engine_stored xs a b c v p q r = rw (p, q, r)
