-- The check of one entry accepts exactly the entries that are laid out as document 01 says. Assumes nothing.
use Rattle.std.specs.Prelude.{◌≡◌, refl, Bool, List, ℕ, zero, suc, ◌+◌, ◌*◌, ◌/◌, ◌%◌, ◌≤◌, ◌<◌, eqb, ltb, get_or, None, Option, Some}
use Rattle.std.proofs.Math.Path.{sym}
use Rattle.std.proofs.Common.{ap, ◌∙◌, add-zero, mod-eq_of_lt}
use Rattle.std.proofs.Math.Bool.{true, false}
use Rattle.std.proofs.Math.Nat.{add-mul-mod_self_left}
use native.Mathlib.Omega.{arith}
use borrow.Author.Tests.{ltb-false, eqb-true, lt-ltb, le-ltb, eq-eqb, ne_eqb}
use Rattle.notation.specs.Choice.{pick}
use Rattle.notation.specs.Scan.{all_in}
use Rattle.notation.proofs.Facts.Tests.{both_true, by_test, pick_true, pick_false}
use Rattle.notation.proofs.Facts.Scan.{all_says, all_holds}
use Rattle.symbol.specs.declared.Dir.{Dir}
use Rattle.symbol.specs.declared.Dir.TheVariants.{L, R, N}
use Rattle.machine.specs.declared.Machine.{Machine}
use Rattle.machine.specs.declared.Action.{Action}
use Rattle.machine.proofs.Facts.Packed.{number_small}
use Rattle.machine.specs.Layout.{flag_at, byte_at, dir_of, action_at}
use Rattle.machine.specs.Model.Check.{zero_at, tape_ok, entry_ok}
use Rattle.machine.proofs.Facts.Check.{PassedEntry, defined_says}
use Rattle.symbol.specs.Kinds.{dir_number}
use Rattle.table_laws.specs.WellFormed.{Bytes, entry_bytes, ActionOf, EntryOf, LaidOut}

-- ---- moves and their numbers

pub move-number : (d : ℕ) → d < 3 → dir_number (dir_of d) ≡ d
unfolding pick
move-number zero h = refl
move-number (suc zero) h = refl
move-number (suc (suc zero)) h = refl
move-number (suc (suc (suc d))) h = absurd (omega arith)

pub number-move : (d : Dir) → dir_of (dir_number d) ≡ d
unfolding pick
number-move L = refl
number-move R = refl
number-move N = refl

-- the numbers of the three moves, from the byte that encodes them
pub moves_apart : (d : ℕ) (x y z : Dir) → d ≡ dir_number x + 3 * dir_number y + 9 * dir_number z
    → (d % 3 ≡ dir_number x) × (d / 3 % 3 ≡ dir_number y) × (d / 9 % 3 ≡ dir_number z)
moves_apart d x y z e =
    let a = number_small x in
    let b = number_small y in
    let c = number_small z in
    let k : d ≡ dir_number x + 3 * (dir_number y + 3 * dir_number z) = omega arith in
    (ap (λ (n : ℕ). n % 3) k ∙ add-mul-mod_self_left (dir_number x) 3 (dir_number y + 3 * dir_number z) ∙ mod-eq_of_lt (omega arith), omega arith, omega arith)

-- ---- from a passed check to the layout

pub eight-zeros : (j : ℕ) → j < 8 → get_or (entry_bytes None) j 0 ≡ 0
eight-zeros zero h = refl
eight-zeros (suc zero) h = refl
eight-zeros (suc (suc zero)) h = refl
eight-zeros (suc (suc (suc zero))) h = refl
eight-zeros (suc (suc (suc (suc zero)))) h = refl
eight-zeros (suc (suc (suc (suc (suc zero))))) h = refl
eight-zeros (suc (suc (suc (suc (suc (suc zero)))))) h = refl
eight-zeros (suc (suc (suc (suc (suc (suc (suc zero))))))) h = refl
eight-zeros (suc (suc (suc (suc (suc (suc (suc (suc j)))))))) h = absurd (omega arith)

pub flag_is : (s : List ℕ) (i : ℕ) → byte_at s i 0 ≡ flag_at s i
flag_is s i = ap (λ (n : ℕ). get_or s n 0) (add-zero (8 * i))

module _ (m : Machine) (s : List ℕ) (i : ℕ) where
  -- a write below k, or 0 where the machine lacks the tape, is a symbol
  write_symbol : {D : Type 0} (has : Bool) (w : ℕ) → 1 ≤ m.symbols → (has ≡ true → w < m.symbols) → (has ≡ false → (w ≡ 0) × D) → w < m.symbols
  write_symbol true w k f g = f refl
  write_symbol false w k f g = omega (arith, (g refl).0)

  module _ (bytes : Bytes s) (some : 1 ≤ m.symbols) where
    moves_are : byte_at s i 6 < 27 → byte_at s i 6 ≡ dir_number (action_at s i).dir0 + 3 * dir_number (action_at s i).dir1 + 9 * dir_number (action_at s i).dir2
    unfolding action_at
    moves_are h =
        let d = byte_at s i 6 in
        omega (arith, move-number (d % 3) (omega arith), move-number (d / 3 % 3) (omega arith), move-number (d / 9 % 3) (omega arith))

    -- a defined entry that passed the check holds the bytes of the action that is read there
    defined_laid : flag_at s i ≡ 1 → PassedEntry m s i → LaidOut m s i
    unfolding action_at
    defined_laid f p = record { entry = Some (action_at s i); of_machine = of_machine; written = written }
      where
        of_machine : ActionOf m (action_at s i)
        of_machine = record {
          next_in = p.next_in;
          write0_in = p.write0_in;
          write1_in = write_symbol (ltb 1 m.tapes) (byte_at s i 4) some p.write1_in p.lacks1;
          write2_in = write_symbol (ltb 2 m.tapes) (byte_at s i 5) some p.write2_in p.lacks2;
          lacks1 = λ l. p.lacks1 (le-ltb 1 m.tapes (omega arith));
          lacks2 = λ l. p.lacks2 (le-ltb 2 m.tapes (omega arith));
        }

        written : (j : ℕ) → j < 8 → byte_at s i j ≡ get_or (entry_bytes (Some (action_at s i))) j 0
        written zero h = flag_is s i ∙ f
        written (suc zero) h = omega (arith, bytes (8 * i + 1))
        written (suc (suc zero)) h = omega (arith, bytes (8 * i + 1))
        written (suc (suc (suc zero))) h = refl
        written (suc (suc (suc (suc zero)))) h = refl
        written (suc (suc (suc (suc (suc zero))))) h = refl
        written (suc (suc (suc (suc (suc (suc zero)))))) h = moves_are p.moves_in
        written (suc (suc (suc (suc (suc (suc (suc zero))))))) h = p.last
        written (suc (suc (suc (suc (suc (suc (suc (suc j)))))))) h = absurd (omega arith)

    undefined_laid : all_in (zero_at s i) 8 0 ≡ true → LaidOut m s i
    undefined_laid z = record {
      entry = None;
      of_machine = tt;
      written = λ j h. eqb-true _ _ (all_says (zero_at s i) 8 0 z j (omega arith) (omega arith)) ∙ sym (eight-zeros j h);
    }

    pub entry_laid : entry_ok m s i ≡ true → LaidOut m s i
    unfolding entry_ok
    entry_laid h = by_test (eqb (flag_at s i) 0)
        (λ z. undefined_laid (sym (pick_true _ _ _ z) ∙ h))
        (λ z. let p = defined_says m s i (sym (pick_false _ _ _ z) ∙ h) in defined_laid p.0 p.1)

  -- ---- from the layout to a passed check

  tape_has : (has : Bool) (w d : ℕ) → w < m.symbols → (has ≡ false → (w ≡ 0) × (d ≡ 2)) → tape_ok has m.symbols w d ≡ true
  unfolding pick
  tape_has true w d h g = lt-ltb _ _ h
  tape_has false w d h g = both_true (eq-eqb w 0 (g refl).0) (eq-eqb d 2 (g refl).1)

  -- the check's two conditions on a tape that the machine lacks
  lack : (t : ℕ) (w d : ℕ) (x : Dir) → (m.tapes < suc t → (w ≡ 0) × (x ≡ N)) → d ≡ dir_number x → ltb t m.tapes ≡ false → (w ≡ 0) × (d ≡ 2)
  lack t w d x f e z =
      let l : m.tapes ≤ t = ltb-false t m.tapes z in
      let q = f (omega arith) in
      (q.0, e ∙ ap dir_number q.1)

  laid_defined : (a : Action) → ActionOf m a → ((j : ℕ) → j < 8 → byte_at s i j ≡ get_or (entry_bytes (Some a)) j 0) → entry_ok m s i ≡ true
  unfolding entry_ok
  laid_defined a o written =
      let b0 : flag_at s i ≡ 1 = sym (flag_is s i) ∙ written 0 (omega arith) in
      let b1 : byte_at s i 1 ≡ a.next.0 % 256 = written 1 (omega arith) in
      let b2 : byte_at s i 2 ≡ a.next.0 / 256 = written 2 (omega arith) in
      let b3 : byte_at s i 3 ≡ a.write0.0 = written 3 (omega arith) in
      let b4 : byte_at s i 4 ≡ a.write1.0 = written 4 (omega arith) in
      let b5 : byte_at s i 5 ≡ a.write2.0 = written 5 (omega arith) in
      let b6 : byte_at s i 6 ≡ dir_number a.dir0 + 3 * dir_number a.dir1 + 9 * dir_number a.dir2 = written 6 (omega arith) in
      let b7 : byte_at s i 7 ≡ 0 = written 7 (omega arith) in
      let d0 = number_small a.dir0 in
      let d1 = number_small a.dir1 in
      let d2 = number_small a.dir2 in
      let p = moves_apart _ a.dir0 a.dir1 a.dir2 b6 in
      let next : byte_at s i 1 + 256 * byte_at s i 2 < m.states = omega (arith, o.next_in) in
      let moves : byte_at s i 6 < 27 = omega arith in
      let w0 : byte_at s i 3 < m.symbols = omega (arith, o.write0_in) in
      pick_false _ _ _ (ne_eqb (flag_at s i) 0 (λ (z : flag_at s i ≡ 0). omega arith))
      ∙ both_true
      (both_true (eq-eqb _ _ b0) (both_true (lt-ltb _ _ next) (both_true (lt-ltb _ _ moves) (eq-eqb _ _ b7))))
      (both_true (lt-ltb _ _ w0)
      (both_true
      (tape_has (ltb 1 m.tapes) (byte_at s i 4) (byte_at s i 6 / 3 % 3) (omega (arith, o.write1_in))
      (lack 1 _ _ a.dir1 (λ l. (b4 ∙ (o.lacks1 l).0, (o.lacks1 l).1)) p.1))
      (tape_has (ltb 2 m.tapes) (byte_at s i 5) (byte_at s i 6 / 9 % 3) (omega (arith, o.write2_in))
      (lack 2 _ _ a.dir2 (λ l. (b5 ∙ (o.lacks2 l).0, (o.lacks2 l).1)) p.2))))

  laid_undefined : ((j : ℕ) → j < 8 → byte_at s i j ≡ get_or (entry_bytes None) j 0) → entry_ok m s i ≡ true
  unfolding entry_ok
  laid_undefined written =
      pick_true _ _ _ (eq-eqb _ _ (sym (flag_is s i) ∙ written 0 (omega arith)))
      ∙ all_holds (zero_at s i) 8 0 (λ j a b. eq-eqb _ _ (written j (omega arith) ∙ eight-zeros j (omega arith)))

  pub laid_entry : LaidOut m s i → entry_ok m s i ≡ true
  laid_entry l = by l.entry l.of_machine l.written
    where
      by : (e : Option Action) → EntryOf m e → ((j : ℕ) → j < 8 → byte_at s i j ≡ get_or (entry_bytes e) j 0) → entry_ok m s i ≡ true
      by None o f = laid_undefined f
      by (Some a) o f = laid_defined a o f
