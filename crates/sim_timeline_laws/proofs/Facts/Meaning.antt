-- Engines of the same meaning: the bytes past the tapes' lengths, and the tapes that the machine lacks, are no part of it. Assumes nothing.
use Rattle.std.specs.Prelude.{◌≡◌, refl, Bool, true, false, List, ℕ, ◌<◌, take, get_or}
use Rattle.std.proofs.Common.{sym, ap, ◌∙◌, arith, ltb-true, get_or-take}
use Rattle.machine.specs.declared.Machine.{Machine}
use Rattle.table_machine.proofs.Facts.Tape.{tape-≡}
use Rattle.tape.specs.declared.Tape.{Tape}
use Rattle.tape.specs.Model.Moves.{Held, held}
use Rattle.sim.specs.Model.Engine.{Conf, tape0, tape1, tape2}
use Rattle.sim_refines.specs.Meaning.{tape_of, has, tape_if}
use Rattle.sim_refines.specs.Lent.{SameFirst}
use Rattle.sim_refines.proofs.Facts.LiveCells.{Alike, alike_reads, cell_same}
use Rattle.sim_timeline_laws.specs.Meaning.{extent_of, extent_if, mean_of, SameEngine}

-- ---- one tape: the same numbers, the same cells up to its length, and a buffer of the same length (Alike)

-- buffers whose first n cells are equal as lists have the same first n cells one by one
pub taken_same : (n : ℕ) (c d : List ℕ) → take n c ≡ take n d → SameFirst n c d
taken_same n c d e i l = sym (get_or-take n c i 0 l) ∙ ap (λ x. get_or x i 0) e ∙ get_or-take n d i 0 l

live_tape : (t : Tape) (c d : List ℕ) → SameFirst t.len c d → tape_of (held t c) ≡ tape_of (held t d)
live_tape t c d e = tape-≡ (tape_of (held t c)) (tape_of (held t d)) (cell_same t c d e) refl refl refl

module _ (g h : Held) (a : Alike g h) where
  alike_tape : tape_of g ≡ tape_of h
  alike_tape = alike_reads tape_of g h a (live_tape h.tape g.cells h.cells a.cells)

  alike_extent : extent_of g ≡ extent_of h
  alike_extent = λ i. record { len = (a.numbers i).len; head = (a.numbers i).head; buffer = a.room i }

tape_if_lem : (b : Bool) (g h : Held) → (b ≡ true → Alike g h) → tape_if b g ≡ tape_if b h
tape_if_lem true g h a = alike_tape g h (a refl)
tape_if_lem false g h a = refl

extent_if_lem : (b : Bool) (g h : Held) → (b ≡ true → Alike g h) → extent_if b g ≡ extent_if b h
extent_if_lem true g h a = alike_extent g h (a refl)
extent_if_lem false g h a = refl

-- ---- two engines

module _ (m : Machine) (v u : Conf) (a : SameEngine m v u) where
  alike0 : Alike (tape0 v) (tape0 u)
  alike0 = record { numbers = a.numbers0; cells = a.cells0; room = a.length0 }

  alike1 : has m 1 ≡ true → Alike (tape1 v) (tape1 u)
  alike1 h = let l : 1 < m.tapes = ltb-true 1 m.tapes h in record { numbers = a.numbers1 (omega arith); cells = a.cells1 (omega arith); room = a.length1 }

  alike2 : has m 2 ≡ true → Alike (tape2 v) (tape2 u)
  alike2 h = let l : 2 < m.tapes = ltb-true 2 m.tapes h in record { numbers = a.numbers2 (omega arith); cells = a.cells2 (omega arith); room = a.length2 }

  pub same_mean : mean_of m v ≡ mean_of m u
  unfolding mean_of
  same_mean = λ i. record {
    config = record {
      state = (a.state i).0;
      steps = a.steps i;
      tape0 = alike_tape (tape0 v) (tape0 u) alike0 i;
      tape1 = tape_if_lem (has m 1) (tape1 v) (tape1 u) alike1 i;
      tape2 = tape_if_lem (has m 2) (tape2 v) (tape2 u) alike2 i;
    };
    extent0 = alike_extent (tape0 v) (tape0 u) alike0 i;
    extent1 = extent_if_lem (has m 1) (tape1 v) (tape1 u) alike1 i;
    extent2 = extent_if_lem (has m 2) (tape2 v) (tape2 u) alike2 i;
  }
