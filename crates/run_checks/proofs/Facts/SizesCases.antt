-- The checks of sizes and words: one fact for each return, and what a passed check says. Assumes nothing.
use Rattle.std.specs.Prelude.{◌≡◌, ◌↔◌, refl, IsTrue, slice_index, Bool, true, false, List, [], ℕ, ◌+◌, ◌*◌, ◌-◌, ◌≤◌, ◌<◌, leb, get_or, Err, Ok, Result, ⊤}
use Rattle.std.proofs.Math.Path.{sym, ap}
use Rattle.std.proofs.Common.{◌∙◌, arith}
use borrow.Author.Tests.{leb-true, eq-eqb, ne_eqb, eqb-true}
use Rattle.std.proofs.Math.ListN.{length}
use Rattle.notation.specs.Choice.{pick, both}
use Rattle.notation.specs.Scan.{all_in}
use Rattle.notation.proofs.Facts.Lists.{all-places}
use Rattle.notation.proofs.Facts.Scan.{all_says}
use Rattle.notation.proofs.Facts.Tests.{both_split, pick_true}
use Rattle.notation.specs.Limits.{steps_most, cells_most}
use Rattle.outcome.specs.declared.Refusal.{Refusal}
use Rattle.outcome.specs.declared.Refusal.TheVariants as Why
use Rattle.machine.specs.declared.Machine.{Machine}
use Rattle.machine.specs.Model.Check.{within, table_check}
use Rattle.machine.proofs.Facts.Check.{demand_says, on_says, ranges}
use Rattle.machine.proofs.Facts.CheckCases.{stride_one}
use Rattle.machine.specs.Layout.{entry_count, entry_at}
use Rattle.machine.specs.Model.Packing.{pack_word, word_at}
use Rattle.machine.specs.Model.Word.{word_check}
use Rattle.tape.specs.declared.Tape.{Tape}
use Rattle.tape.specs.Model.Moves.{held, no_tape, fresh_of}
use Rattle.run_checks.specs.Model.Sizes.{has1, has2, if_has, fuel_fits, word_right, words_right, fresh_sizes, fresh_check, blank_tape}

-- ---- the fuel

pub fuel_says : (steps fuel : ℕ) → fuel_fits steps fuel ≡ true → steps + fuel ≤ steps_most
unfolding fuel_fits
fuel_says steps fuel e =
    let p = both_split e in
    omega (arith, leb-true fuel steps_most p.0, leb-true steps (steps_most - fuel) p.1)

-- ---- the words

module _ (m : Machine) (s words : List ℕ) where
  pub words_several : (m.tapes ≡ 1 → ⊥) → false ≡ words_right m s words
  unfolding words_right both
  words_several h = simp (ne_eqb _ _ h)

  module _ (one : m.tapes ≡ 1) where
    count_is : m.states * m.symbols ≡ entry_count m
    count_is = ap (λ (n : ℕ). m.states * n) (stride_one m.tapes m.symbols one)

    pub words_number : (length words ≡ m.states * m.symbols → ⊥) → false ≡ words_right m s words
    unfolding words_right both
    words_number h = simp (eq-eqb _ _ one, ne_eqb _ _ (λ (q : length words ≡ entry_count m). h (q ∙ sym count_is)))

    pub words_compared : (x : Bool) → IsTrue x ↔ ((i : ℕ) → i < length words → slice_index words i ≡ pack_word (entry_at s i) m.symbols) → length words ≡ m.states * m.symbols → x ≡ words_right m s words
    unfolding words_right word_at both
    words_compared x e q =
        let n : length words ≡ entry_count m = q ∙ count_is in
        let r : x ≡ all_in (word_right s m.symbols words) (length words) 0 = all-places (λ i. slice_index words i ≡ pack_word (entry_at s i) m.symbols) (word_right s m.symbols words) (length words) (λ i h g. eq-eqb _ _ g) (λ i h g. eqb-true _ _ g) x e in
        simp (eq-eqb _ _ one, eq-eqb _ _ n) (r ∙ ap (λ (j : ℕ). all_in (word_right s m.symbols words) j 0) n)

-- where the words are right: one tape, and each word is that of its entry
pub words_say : (m : Machine) (s words : List ℕ) → words_right m s words ≡ true
    → (m.tapes ≡ 1) × (length words ≡ m.states * m.symbols) × ((i : ℕ) → i < m.states * m.symbols → get_or words i 0 ≡ word_at s m.symbols i)
unfolding words_right
words_say m s words e =
    let a = both_split e in
    let b = both_split a.1 in
    let one = eqb-true _ _ a.0 in
    let n = count_is m s words one in
    (one, eqb-true _ _ b.0 ∙ sym n, λ i h. eqb-true _ _ (all_says (word_right s m.symbols words) (entry_count m) 0 b.1 i (omega arith) (omega arith)))

-- ---- a fresh engine

module _ (m : Machine) (s w : List ℕ) (n0 n1 n2 : ℕ) (r : Result ⊤ Refusal) (checked : r ≡ table_check m s) where
  pub fresh_table : (why : Refusal) → r ≡ Err why → Err why ≡ fresh_check m s w n0 n1 n2
  unfolding fresh_check
  fresh_table why e = rw (← checked, e)

  module _ (passed : r ≡ Ok tt) (q : Result ⊤ Refusal) (spelled : q ≡ word_check m.symbols w) where
    pub fresh_word : (why : Refusal) → q ≡ Err why → Err why ≡ fresh_check m s w n0 n1 n2
    unfolding fresh_check
    fresh_word why e = rw (← checked, passed, ← spelled, e)

    module _ (fine : q ≡ Ok tt) (z : Bool) (sizes : z ≡ fresh_sizes m (length w) n0 n1 n2) where
      pub fresh_small : z ≡ false → Err Why.BufferSize ≡ fresh_check m s w n0 n1 n2
      unfolding fresh_check pick
      fresh_small e = rw (← checked, passed, ← spelled, fine, ← sizes, e)

      pub fresh_passed : z ≡ true → (Ok tt) ≡ fresh_check m s w n0 n1 n2
      unfolding fresh_check pick
      fresh_passed e = rw (← checked, passed, ← spelled, fine, ← sizes, e)

-- what a passed check says
pub record FreshPassed (m : Machine) (s w : List ℕ) (n0 n1 n2 : ℕ) : Type 0 where
  pub table : table_check m s ≡ Ok tt
  pub word : word_check m.symbols w ≡ Ok tt
  pub room0 : 32 + length w ≤ n0
  pub room1 : if_has (has1 m) (leb 32 n1) ≡ true
  pub room2 : if_has (has2 m) (leb 32 n2) ≡ true
  -- `new` casts the start state to 16 bits
  pub start_fits : m.start < 65536

has_room : (has : Bool) (n : ℕ) → if_has has (within 32 cells_most n) ≡ true → if_has has (leb 32 n) ≡ true
unfolding pick
has_room true n e = (both_split e).0
has_room false n e = refl

pub fresh_says : (m : Machine) (s w : List ℕ) (n0 n1 n2 : ℕ) → fresh_check m s w n0 n1 n2 ≡ Ok tt → FreshPassed m s w n0 n1 n2
unfolding fresh_check fresh_sizes
fresh_says m s w n0 n1 n2 e =
    let t = on_says _ _ e in
    let q = on_says _ _ t.1 in
    let z = demand_says _ _ _ q.1 in
    let z0 = both_split z.0 in
    let z1 = both_split z0.1 in
    let g = ranges m s t.0 in
    record {
      table = t.0;
      word = q.0;
      room0 = omega (arith, leb-true (length w + 32) n0 (both_split z0.0).0);
      room1 = has_room (has1 m) n1 z1.0;
      room2 = has_room (has2 m) n2 z1.1;
      start_fits = omega (arith, g.start_in, g.states_high);
    }

pub fresh_ok : (m : Machine) (s w : List ℕ) (n0 n1 n2 : ℕ) (r : Result ⊤ Refusal) → r ≡ fresh_check m s w n0 n1 n2 → r ≡ Ok tt → FreshPassed m s w n0 n1 n2
fresh_ok m s w n0 n1 n2 r e a = fresh_says m s w n0 n1 n2 (sym e ∙ a)

-- ---- a blank tape

pub blank_room : (has : Bool) (n : ℕ) → if_has has (leb 32 n) ≡ true → has ≡ true → 32 ≤ n
blank_room has n h e = leb-true 32 n (sym (pick_true has (leb 32 n) true e) ∙ h)

module _ (has : Bool) (c : List ℕ) where
  pub blank_has : (t : Tape) (d : List ℕ) → has ≡ true → held t d ≡ fresh_of [] c → held t d ≡ blank_tape has c
  unfolding pick
  blank_has t d e p = simp (e, p)

  pub blank_lacks : has ≡ false → held no_tape c ≡ blank_tape has c
  unfolding pick
  blank_lacks e = simp e
