-- THE LOOKUP: the entry read at a place of a well-formed table is the one whose bytes lie there. Assumes nothing.
use Rattle.std.specs.Prelude.{◌≡◌, refl, List, ℕ, ◌+◌, ◌*◌, ◌/◌, ◌%◌, ◌<◌, ltb, length, get_or, None, Option, Some}
use Rattle.std.proofs.Math.Path.{sym, ap}
use Rattle.std.proofs.Common.{◌∙◌, arith, lt-ltb, ltb-true, ltb-false, eq-eqb}
use Rattle.std.proofs.Math.Nat.{div-add-mod}
use Rattle.notation.specs.Choice.{both}
use Rattle.notation.proofs.Facts.Tests.{both_true, by_test, pick_true, pick_false}
use Rattle.machine.specs.declared.Machine.{Machine}
use Rattle.machine.specs.declared.Action.{Action}
use Rattle.machine.specs.Layout.{entry_count, flag_at, byte_at, dir_of, action_at, entry_at}
use Rattle.symbol.specs.Kinds.{symbol_of, state_of, dir_number}
use Rattle.machine.proofs.Facts.CheckCases.{entry_past}
use Rattle.table_laws.specs.WellFormed.{entry_bytes, EntryOf, LaidOut, WellFormed}
use Rattle.table_laws.proofs.Facts.Entries.{flag_is, number-move, moves_apart}

module _ (s : List ℕ) (i : ℕ) where
  action_written : (a : Action) → ((j : ℕ) → j < 8 → byte_at s i j ≡ get_or (entry_bytes (Some a)) j 0) → action_at s i ≡ a
  unfolding action_at
  action_written a written =
      let b1 : byte_at s i 1 ≡ a.next.0 % 256 = written 1 (omega arith) in
      let b2 : byte_at s i 2 ≡ a.next.0 / 256 = written 2 (omega arith) in
      let b6 : byte_at s i 6 ≡ dir_number a.dir0 + 3 * dir_number a.dir1 + 9 * dir_number a.dir2 = written 6 (omega arith) in
      let q : byte_at s i 1 + 256 * byte_at s i 2 ≡ a.next.0 = omega (arith, div-add-mod a.next.0 256) in
      let p = moves_apart _ a.dir0 a.dir1 a.dir2 b6 in
      let e0 = ap dir_of p.0 ∙ number-move a.dir0 in
      let e1 = ap dir_of p.1 ∙ number-move a.dir1 in
      let e2 = ap dir_of p.2 ∙ number-move a.dir2 in
      let w0 = written 3 (omega arith) in
      let w1 = written 4 (omega arith) in
      let w2 = written 5 (omega arith) in
      λ t. record {
        next = state_of (q t);
        write0 = symbol_of (w0 t);
        write1 = symbol_of (w1 t);
        write2 = symbol_of (w2 t);
        dir0 = e0 t;
        dir1 = e1 t;
        dir2 = e2 t;
      }

  -- the entry read is the one whose bytes lie there
  pub entry_read : (e : Option Action) → i < length s / 8 → ((j : ℕ) → j < 8 → byte_at s i j ≡ get_or (entry_bytes e) j 0) → entry_at s i ≡ e
  unfolding entry_at both
  entry_read None h written =
      let b : flag_at s i ≡ 0 = sym (flag_is s i) ∙ written 0 (omega arith) in
      pick_false _ _ _ (rw (lt-ltb _ _ h, b) refl)
  entry_read (Some a) h written =
      let b : flag_at s i ≡ 1 = sym (flag_is s i) ∙ written 0 (omega arith) in
      pick_true _ _ _ (both_true (lt-ltb _ _ h) (eq-eqb _ _ b)) ∙ ap Some (action_written a written)

-- every entry that is read, in the table or past its end, is an entry of the machine
pub entry_of_machine : (m : Machine) (s : List ℕ) → WellFormed m s → (i : ℕ) → EntryOf m (entry_at s i)
entry_of_machine m s w i = by_test (ltb i (length s / 8)) (λ t. inside (ltb-true _ _ t)) (λ t. rw (← entry_past s i (ltb-false _ _ t)) tt)
  where
    inside : i < length s / 8 → EntryOf m (entry_at s i)
    inside h =
        let n : length s ≡ 8 * entry_count m = w 5 in
        let l : LaidOut m s i = w 6 i (omega arith) in
        rw (entry_read s i l.entry h l.written) l.of_machine
