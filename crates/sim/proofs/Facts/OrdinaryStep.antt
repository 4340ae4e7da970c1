-- A step that is no proved loop, the move with a given number, and what an engine of one tape reads. Assumes nothing.
use Rattle.std.specs.Prelude.{◌≡◌, refl, Bool, true, false, List, ℕ, ◌+◌, ◌*◌, ◌-◌, ◌≤◌, ◌<◌, get_or}
use Rattle.std.proofs.Common.{ap, arith}
use borrow.Author.Tests.{lt-ltb, le-ltb, ne_eqb}
use Rattle.notation.specs.Choice.{pick, both}
use Rattle.notation.specs.Scan.{all_in}
use Rattle.notation.proofs.Facts.Scan.{all_says}
use Rattle.notation.proofs.Facts.Tests.{by_test, clash}
use Rattle.symbol.specs.declared.State.{State}
use Rattle.symbol.specs.declared.Dir.{Dir}
use Rattle.symbol.specs.declared.Dir.TheVariants.{L, R, N}
use Rattle.symbol.specs.Kinds.{state_of, dir_number}
use Rattle.machine.specs.declared.Machine.{Machine}
use Rattle.machine.specs.declared.Action.{Action}
use Rattle.machine.specs.Layout.{entry_number, entry_at}
use Rattle.machine.proofs.Facts.CheckCases.{stride_one}
use Rattle.tape.specs.declared.Tape.{Tape}
use Rattle.tape.specs.Model.Moves.{Held, held, read_of}
use Rattle.tape.specs.Model.Questions.{blank_at, blank_beyond}
use Rattle.run_checks.specs.declared.inner.look.Look.TheVariants.{Go}
use Rattle.sim.specs.Model.Engine.{stays, stays_all, loop_of, judge_of, entry_of}

-- ---- where one cell is not blank, not all are blank

all_fails : (p : ℕ → Bool) (n i j : ℕ) → i ≤ j → j < i + n → p j ≡ false → all_in p n i ≡ false
all_fails p n i j a b z = by_test (all_in p n i) (λ t. absurd (clash (all_says p n i t j a b) z)) (λ e. e)

module _ (t : Tape) (c : List ℕ) (j : ℕ) (one : get_or c j 0 ≡ 0 → ⊥) where
  pub not_blank_left : j < t.head → blank_beyond (held t c) L ≡ false
  unfolding blank_beyond
  not_blank_left h = all_fails (blank_at c) t.head 0 j (omega arith) (omega arith) (ne_eqb _ _ one)

  pub not_blank_right : t.head < j → j < t.len → blank_beyond (held t c) R ≡ false
  unfolding blank_beyond
  not_blank_right g h = all_fails (blank_at c) (t.len - (t.head + 1)) (t.head + 1) j (omega arith) (omega arith) (ne_eqb _ _ one)

pub beyond_none : (h : Held) (d : Dir) → d ≡ N → blank_beyond h d ≡ false
unfolding blank_beyond
beyond_none h d e = rw e

-- ---- an entry that is no proved loop

pick_same : {A : Type 0} (b : Bool) (x : A) → pick b x x ≡ x
unfolding pick
pick_same true x = refl
pick_same false x = refl

both_end : (b : Bool) → both b false ≡ false
unfolding both
both_end true = refl
both_end false = refl

module _ (p : Bool) (tapes : ℕ) (q : State) (a : Action) (r0 r1 r2 : ℕ) (h : Held) where
  pub go_leaves : (a.next.0 ≡ q.0 → ⊥) → Go a ≡ judge_of p tapes q a r0 r1 r2 h
  unfolding judge_of pick
  go_leaves n = simp (ne_eqb _ _ n, both_end)

  pub go_reads : stays_all a r0 r1 r2 ≡ false → (r0 ≡ 0 → ⊥) → Go a ≡ judge_of p tapes q a r0 r1 r2 h
  unfolding judge_of loop_of pick both
  go_reads st n = simp (st, ne_eqb _ _ n, both_end, pick_same)

  pub go_sees : stays_all a r0 r1 r2 ≡ false → blank_beyond h a.dir0 ≡ false → Go a ≡ judge_of p tapes q a r0 r1 r2 h
  unfolding judge_of loop_of pick both
  go_sees st b = simp (st, b, both_end, pick_same)

  pub go_moves : stays_all a r0 r1 r2 ≡ false → (tapes ≡ 1 → ⊥) → Go a ≡ judge_of p tapes q a r0 r1 r2 h
  unfolding judge_of loop_of pick both
  go_moves st n = simp (st, ne_eqb _ _ n, pick_same)

module _ (a : Action) (r0 r1 r2 : ℕ) where
  pub moves_left : a.dir0 ≡ L → stays_all a r0 r1 r2 ≡ false
  unfolding stays_all stays both
  moves_left e = simp e

  pub moves_right : a.dir0 ≡ R → stays_all a r0 r1 r2 ≡ false
  unfolding stays_all stays both
  moves_right e = simp e

  pub writes_other : a.dir0 ≡ N → a.dir1 ≡ N → a.dir2 ≡ N → (a.write0.0 ≡ r0 → ⊥) → stays_all a r0 r1 r2 ≡ false
  unfolding stays_all stays both
  writes_other e0 e1 e2 n = simp (e0, e1, e2, ne_eqb _ _ n)

-- ---- the move with a given number

pub number-left : (d : Dir) → dir_number d ≡ 0 → d ≡ L
number-left L e = refl
number-left R e = absurd (omega arith)
number-left N e = absurd (omega arith)

pub number_right : (d : Dir) → dir_number d ≡ 1 → d ≡ R
number_right L e = absurd (omega arith)
number_right R e = refl
number_right N e = absurd (omega arith)

pub number-none : (d : Dir) → (dir_number d ≡ 0 → ⊥) → (dir_number d ≡ 1 → ⊥) → d ≡ N
number-none L a b = absurd (a refl)
number-none R a b = absurd (b refl)
number-none N a b = refl

-- ---- what is read, and the entry of a machine of one tape

pub reads_there : (t : Tape) (c : List ℕ) → t.head < t.len → get_or c t.head 0 ≡ read_of (held t c)
unfolding read_of pick
reads_there t c h = simp (lt-ltb _ _ h)

pub reads_none : (t : Tape) (c : List ℕ) → t.len ≤ t.head → 0 ≡ read_of (held t c)
unfolding read_of pick
reads_none t c h = simp (le-ltb _ _ h)

pub entry_of_one : (m : Machine) (s : List ℕ) (q read : ℕ) → m.tapes ≡ 1 → entry_at s (q * m.symbols + read) ≡ entry_of m s (state_of q) read 0 0
unfolding entry_of
entry_of_one m s q read t =
    let n : q * m.symbols + read ≡ entry_number m.symbols m.symbols q read 0 0 = omega arith in
    rw (← stride_one m.tapes m.symbols t) (ap (entry_at s) n)
