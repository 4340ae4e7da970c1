-- The parts of a packed word, and the entries of a checked table of one tape. Assumes nothing.
use Rattle.std.specs.Prelude.{◌≡◌, List, ℕ, ◌*◌, ◌/◌, ◌%◌, ◌^◌, ◌≤◌, ◌<◌, eqb, ltb, length, None, Ok, Option, Some}
use native.Mathlib.Omega.{arith}
use Rattle.std.proofs.Common.{ltb-true, lt-ltb, eqb-true, le-ltb}
use Rattle.notation.specs.Choice.{both}
use Rattle.notation.proofs.Facts.Tests.{both_split, by_test, pick_true, pick_false}
use Rattle.symbol.specs.Kinds.{dir_number}
use Rattle.symbol.specs.declared.Dir.{Dir}
use Rattle.symbol.specs.declared.Dir.TheVariants.{L, R, N}
use Rattle.machine.specs.declared.Machine.{Machine}
use Rattle.machine.specs.declared.Action.{Action}
use Rattle.machine.specs.Layout.{entry_count, flag_at, action_at, entry_at}
use Rattle.machine.specs.Model.Check.{table_check}
use Rattle.machine.proofs.Facts.Check.{ranges, PassedEntry, defined_passed}
use Rattle.machine.specs.Model.Packing.{word_of, undefined_word, action_word, word_write, word_next, word_row}

-- ---- one word

pub number_small : (d : Dir) → dir_number d ≤ 2
number_small L = omega arith
number_small R = omega arith
number_small N = omega arith

-- the four numbers that the word w holds
pub record Parts (w d write next row : ℕ) : Type 0 where
  pub dir_is : w % 256 ≡ d
  pub write_is : word_write w ≡ write
  pub next_is : word_next w ≡ next
  pub row_is : word_row w ≡ row

module _ (a : Action) (stride : ℕ) (write : a.write0.0 < 256) (next : a.next.0 < 65536) where
  -- where the row fits 32 bits, the word holds the action's numbers
  pub fit_parts : a.next.0 * stride < 2 ^ 32 → Parts (action_word a stride) (dir_number a.dir0) a.write0.0 a.next.0 (a.next.0 * stride)
  unfolding action_word
  fit_parts f =
      let w : action_word a stride ≡ word_of (dir_number a.dir0) a.write0.0 a.next.0 stride = pick_true _ _ _ (lt-ltb _ _ f) in
      let d = number_small a.dir0 in
      record { dir_is = omega arith; write_is = omega arith; next_is = omega arith; row_is = omega arith }

  -- every word that is not undefined holds them too
  pub word_parts : (action_word a stride ≡ undefined_word → ⊥)
      → Parts (action_word a stride) (dir_number a.dir0) a.write0.0 a.next.0 (a.next.0 * stride)
  unfolding action_word
  word_parts z = by_test (ltb (a.next.0 * stride) (2 ^ 32))
      (λ t. fit_parts (ltb-true _ _ t))
      (λ t. absurd (z (pick_false _ _ _ t)))

-- ---- a table of one tape that has passed the check

-- an action with its write and next state in range, which moves no tape but the first
pub record OneTape (a : Action) : Type 0 where
  pub write_in : a.write0.0 < 256
  pub next_in : a.next.0 < 65536
  pub still1 : a.dir1 ≡ N
  pub still2 : a.dir2 ≡ N

pub data OneTapeEntry : Option Action → Type 0 where
  nothing : OneTapeEntry None
  action : (a : Action) → OneTape a → OneTapeEntry (Some a)

module _ (m : Machine) (s : List ℕ) (i : ℕ) where
  one_tape_holds : m.tapes ≡ 1 → m.symbols ≤ 256 → m.states ≤ 65536 → PassedEntry m s i → OneTape (action_at s i)
  unfolding action_at
  one_tape_holds one k n p = record {
    write_in = omega (arith, p.write0_in);
    next_in = omega (arith, p.next_in);
    still1 = (p.lacks1 (le-ltb 1 m.tapes (omega arith))).1;
    still2 = (p.lacks2 (le-ltb 2 m.tapes (omega arith))).1;
  }

  pub entry_one_tape : table_check m s ≡ Ok tt → m.tapes ≡ 1 → i < entry_count m → OneTapeEntry (entry_at s i)
  unfolding entry_at
  entry_one_tape checked one h = by_test (both (ltb i (length s / 8)) (eqb (flag_at s i) 1))
      (λ t.
      let r = ranges m s checked in
      let p = defined_passed m s i checked h (eqb-true _ _ (both_split t).1) in
      rw (pick_true _ (Some (action_at s i)) None t) (action (action_at s i) (one_tape_holds one r.symbols_high r.states_high p)))
      (λ t. rw (pick_false _ (Some (action_at s i)) None t) nothing)
