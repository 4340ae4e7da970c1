-- The test of 21 says which tables have a line, in both directions. Assumes nothing.
use Rattle.std.specs.Prelude.{◌≡◌, refl, true, false, List, ℕ, ◌+◌, ◌-◌, ◌*◌, ◌≤◌, None, Option, Some}
use Rattle.std.proofs.Math.Path.{sym, ap, subst}
use Rattle.std.proofs.Common.{◌∙◌, eq-eqb, eqb-true, le-leb}
use Rattle.std.proofs.Math.Bool.{not}
use Rattle.std.proofs.Math.Logic.{inl, inr}
use native.Mathlib.Omega.{arith}
use Rattle.std.proofs.lemmas.Bool.{not-true}
use Rattle.notation.proofs.Facts.Scan.{all_says, all_holds}
use Rattle.notation.proofs.Facts.Tests.{both_split, both_true, by_test, clash, pick_cases, pick_true, pick_false}
use Rattle.symbol.specs.declared.Dir.{Dir}
use Rattle.symbol.specs.declared.Dir.TheVariants.{L, R, N}
use Rattle.machine.specs.declared.Machine.{Machine}
use Rattle.machine.specs.declared.Action.{Action}
use Rattle.machine.specs.Layout.{entry_at}
use Rattle.table_bytes.specs.Model.Entries.{within}
use Rattle.table_bytes.proofs.Facts.EntryCases.{within_says}
use Rattle.table_text_rows.specs.Rows.{is_undefined, undefined_at, row_undefined, lettered_rows, is_moving, moves_or, moves_at, row_defined, has_line}
use Rattle.table_text_rows.specs.Meaning.{RowUndefined, Lettered, HasLine}

-- ---- rows

undefined_is : (e : Option Action) → is_undefined e ≡ true → e ≡ None
undefined_is None h = refl
undefined_is (Some a) h = absurd (clash {b = true} refl (sym h))

row_says : (k : ℕ) (s : List ℕ) (q : ℕ) → row_undefined k s q ≡ true → RowUndefined k s q
unfolding row_undefined
row_says k s q h a l = undefined_is _ (all_says (undefined_at s) k (q * k) h (q * k + a) (omega arith) (omega arith))

row_holds : (k : ℕ) (s : List ℕ) (q : ℕ) → RowUndefined k s q → row_undefined k s q ≡ true
unfolding row_undefined
row_holds k s q h = all_holds (undefined_at s) k (q * k) (λ i a b.
    let e : q * k + (i - q * k) ≡ i = omega arith in
    ap is_undefined (ap (entry_at s) (sym e) ∙ h (i - q * k) (omega arith)))

row_not : (k : ℕ) (s : List ℕ) (q : ℕ) → row_undefined k s q ≡ false → ¬ (RowUndefined k s q)
row_not k s q e h = clash (row_holds k s q h) e

row_false : (k : ℕ) (s : List ℕ) (q : ℕ) → ¬ (RowUndefined k s q) → row_undefined k s q ≡ false
row_false k s q n = by_test (row_undefined k s q) (λ t. absurd (n (row_says k s q t))) (λ t. t)

-- ---- the lettered rows

-- the last row is lettered or it is Z's
pub lettered_states : (m : Machine) (s : List ℕ) (z : ℕ) → Lettered m s z → z ≤ m.states × m.states ≤ z + 1
lettered_states m s z (inl h) = (omega (arith, h.0), omega (arith, h.0))
lettered_states m s z (inr h) = (omega (arith, h.0), omega (arith, h.0))

module _ (m : Machine) (s : List ℕ) (some : 1 ≤ m.states) where
  last : ℕ
  last = m.states - 1

  lettered_is : Lettered m s (lettered_rows m s)
  unfolding lettered_rows last
  lettered_is = pick_cases (row_undefined m.symbols s last) last m.states (Lettered m s)
      (λ e. inl (omega arith, row_says m.symbols s last e))
      (λ e. inr (refl, λ q h. let p : last ≡ q = omega arith in subst (λ (n : ℕ). ¬ (RowUndefined m.symbols s n)) p (row_not m.symbols s last e)))

  lettered_one : (z : ℕ) → Lettered m s z → lettered_rows m s ≡ z
  unfolding lettered_rows last
  lettered_one z (inl h) =
      let e : last ≡ z = omega (arith, h.0) in
      pick_true (row_undefined m.symbols s last) last m.states (row_holds m.symbols s last (subst (RowUndefined m.symbols s) (sym e) h.1)) ∙ e
  lettered_one z (inr h) =
      pick_false (row_undefined m.symbols s last) last m.states (row_false m.symbols s last (h.1 last (omega arith))) ∙ sym h.0

rows_most : (m : Machine) (s : List ℕ) → lettered_rows m s ≤ m.states
unfolding lettered_rows
rows_most m s =
    pick_cases (row_undefined m.symbols s (m.states - 1)) (m.states - 1) m.states (λ z. z ≤ m.states) (λ e. omega arith) (λ e. omega arith)

-- ---- moves

moves_say : (s : List ℕ) (i : ℕ) (a : Action) → moves_at s i ≡ true → entry_at s i ≡ Some a → ¬ (a.dir0 ≡ N)
moves_say s i a h e n = clash {b = false} (sym (ap is_moving n) ∙ sym (ap moves_or e) ∙ h) refl

moving : (d : Dir) → ¬ (d ≡ N) → is_moving d ≡ true
moving L n = refl
moving R n = refl
moving N n = absurd (n refl)

moves_hold : (s : List ℕ) (i : ℕ) → ((a : Action) → entry_at s i ≡ Some a → ¬ (a.dir0 ≡ N)) → moves_at s i ≡ true
moves_hold s i h = by (entry_at s i) refl
  where
    by : (e : Option Action) → entry_at s i ≡ e → moves_or e ≡ true
    by None p = refl
    by (Some a) p = moving a.dir0 (h a p)

-- ---- the whole test

pub line_says : (m : Machine) (s : List ℕ) → has_line m s ≡ true → HasLine m s (lettered_rows m s)
unfolding has_line
line_says m s h =
    let a = both_split h in
    let b = both_split a.1 in
    let c = both_split b.1 in
    let d = both_split c.1 in
    let e = both_split d.1 in
    let rows = within_says 1 25 (lettered_rows m s) c.0 in
    record {
      one_tape_holds = eqb-true _ _ a.0;
      symbols_are = within_says 2 10 m.symbols b.0;
      lettered = lettered_is m s (omega (arith, rows.0, rows_most m s));
      rows_are = rows;
      start_is = eqb-true _ _ d.0;
      moves = λ i x l p. moves_say s i x (all_says (moves_at s) _ 0 e.0 i (omega arith) (omega arith)) p;
      before_last = λ q l. row_not m.symbols s q (not-true _ (all_says (row_defined m.symbols s) _ 0 e.1 q (omega arith) (omega arith)));
    }

module _ (m : Machine) (s : List ℕ) (z : ℕ) (h : HasLine m s z) where
  pub rows_is : lettered_rows m s ≡ z
  rows_is = lettered_one m s (omega (arith, h.rows_are.0, (lettered_states m s z h.lettered).0)) z h.lettered

  pub line_holds : has_line m s ≡ true
  unfolding has_line
  line_holds =
      both_true (eq-eqb _ _ h.one_tape_holds)
      (both_true (both_true (le-leb _ _ h.symbols_are.0) (le-leb _ _ h.symbols_are.1))
      (both_true (ap (within 1 25) rows_is ∙ both_true (le-leb _ _ h.rows_are.0) (le-leb _ _ h.rows_are.1))
      (both_true (eq-eqb _ _ h.start_is)
      (both_true (all_holds (moves_at s) (m.states * m.symbols) 0 (λ i a b. moves_hold s i (λ x p. h.moves i x (omega arith) p)))
      (all_holds (row_defined m.symbols s) (m.states - 1) 0 (λ q a b. ap not (row_false m.symbols s q (h.before_last q (omega arith)))))))))
