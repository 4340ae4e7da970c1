-- An entry and its three bytes: each has the other as its only one. Assumes nothing.
use Rattle.machine.specs.declared.Action.{Action}
use Rattle.std.specs.Prelude.{◌≡◌, refl, ℕ, ◌+◌, ◌-◌, ◌≤◌, ◌<◌, eqb, ltb, None, Option, Some}
use Rattle.std.proofs.Common.{sym, ap, subst, ◌∙◌, inl, inr, arith, eq-eqb, ne_eqb, ltb-true, ltb-false}
use Rattle.std.proofs.Math.Decide.{ℕ_discrete}
use Rattle.notation.specs.Choice.{pick}
use Rattle.notation.proofs.Facts.Tests.{by_test, pick_true, pick_false}
use Rattle.symbol.specs.Kinds.{symbol_of, state_of}
use Rattle.symbol.specs.declared.Dir.{Dir}
use Rattle.symbol.specs.declared.Dir.TheVariants.{L, R, N}
use Rattle.machine.specs.declared.Machine.{Machine}
use Rattle.machine.specs.Layout.{single_of}
use Rattle.table_laws.specs.WellFormed.{EntryOf}
use Rattle.table_text_form.specs.Line.{Move, EntryText}
use Rattle.table_text_reader.specs.Reading.{move_of, state_in, entry_of}
use Rattle.table_text_reader.specs.Meaning.{LacksDigit, LacksLetter, MoveOf, LetterOf, Says}

-- ---- reading: the entry of three bytes

move_read : (y : ℕ) → Move y → MoveOf y (move_of y)
unfolding pick
move_read y (inl e) = rw (eq-eqb y 76 e) e
move_read y (inr e) = rw (ne_eqb y 76 (λ (h : y ≡ 76). omega arith)) e

letter_read : (z c : ℕ) → 65 ≤ c → ¬ (LacksLetter z c) → c ≤ 90 → LetterOf z c (state_in z c)
letter_read z c h n l = by (ℕ_discrete c 90)
  where
    by : Dec (c ≡ 90) → LetterOf z c (state_in z c)
    by (yes e) = inl (e, pick_true (eqb c 90) z (c - 65) (eq-eqb c 90 e))
    by (no f) =
        let p : state_in z c ≡ c - 65 = pick_false (eqb c 90) z (c - 65) (ne_eqb c 90 f) in
        by_test (ltb c (65 + z)) (λ t. let b : c < 65 + z = ltb-true c (65 + z) t in inr (omega arith, omega arith)) (λ t. absurd (n ((h, l), f, ltb-false c (65 + z) t)))

pub read_says : (z x y c : ℕ) → EntryText x y c → ¬ (LacksLetter z c) → Says z x y c (entry_of z x y c)
read_says z x y c (inl t) n = subst (Says z x y c) (sym (pick_true (eqb x 45) _ _ (eq-eqb x 45 t.0))) t
read_says z x y c (inr t) n =
    let d = t.0.0 in
    let defined : Says z x y c (Some (single_of (symbol_of (x - 48)) (move_of y) (state_of (state_in z c)))) = (omega arith, move_read y t.1, letter_read z c t.2.0 n t.2.1) in
    subst (Says z x y c) (sym (pick_false (eqb x 45) _ _ (ne_eqb x 45 (λ (h : x ≡ 45). omega arith)))) defined

-- an entry that was read is one of the machine that reading makes: its state is below states, its symbol below symbols
pub read_of_machine : (m : Machine) (z x y c : ℕ) → m.tapes ≡ 1 → m.states ≡ z + 1 → EntryText x y c → ¬ (LacksDigit m.symbols x) → ¬ (LacksLetter z c) → 1 ≤ m.symbols → EntryOf m (entry_of z x y c)
read_of_machine m z x y c one states (inl t) nd nl some = subst (EntryOf m) (sym (pick_true (eqb x 45) _ _ (eq-eqb x 45 t.0))) tt
read_of_machine m z x y c one states (inr t) nd nl some =
    subst (EntryOf m) (sym (pick_false (eqb x 45) _ _ (ne_eqb x 45 (λ (h : x ≡ 45). let d = t.0.0 in omega arith)))) (record {
      next_in = next (letter_read z c t.2.0 nl t.2.1);
      write0_in = digit;
      write1_in = some;
      write2_in = some;
      lacks1 = λ l. (refl, refl);
      lacks2 = λ l. (refl, refl);
    })
  where
    next : LetterOf z c (state_in z c) → state_in z c < m.states
    next (inl e) = omega (arith, e.1)
    next (inr e) = omega (arith, e.1)

    digit : x - 48 < m.symbols
    digit = by_test (ltb x (48 + m.symbols)) (λ e. let l = ltb-true x (48 + m.symbols) e in let d = t.0.0 in omega arith) (λ e. absurd (nd (t.0, ltb-false x (48 + m.symbols) e)))

-- ---- the text is the entry's only one

same_move : (y y' : ℕ) (d : Dir) → MoveOf y d → MoveOf y' d → y ≡ y'
same_move y y' L h l = h ∙ sym l
same_move y y' R h l = h ∙ sym l
same_move y y' N h l = absurd h

same_letter : (z c c' q : ℕ) → LetterOf z c q → LetterOf z c' q → c ≡ c'
same_letter z c c' q (inl h) (inl l) = h.0 ∙ sym l.0
same_letter z c c' q (inl h) (inr l) = absurd (omega (arith, h.1, l.1))
same_letter z c c' q (inr h) (inl l) = absurd (omega (arith, h.1, l.1))
same_letter z c c' q (inr h) (inr l) = h.0 ∙ sym l.0

pub same_text : (z x y c x' y' c' : ℕ) (e : Option Action) → Says z x y c e → Says z x' y' c' e → (x ≡ x') × (y ≡ y') × (c ≡ c')
same_text z x y c x' y' c' None h l = (h.0 ∙ sym l.0, h.1 ∙ sym l.1, h.2 ∙ sym l.2)
same_text z x y c x' y' c' (Some a) h l = (h.0 ∙ sym l.0, same_move y y' a.dir0 h.1 l.1, same_letter z c c' a.next.0 h.2 l.2)

-- ---- the entry is the text's only one, among those of a machine with one tape

same_dir : (y : ℕ) (d d' : Dir) → MoveOf y d → MoveOf y d' → d ≡ d'
same_dir y L L h l = refl
same_dir y L R h l = absurd (omega arith)
same_dir y L N h l = absurd l
same_dir y R L h l = absurd (omega arith)
same_dir y R R h l = refl
same_dir y R N h l = absurd l
same_dir y N d h l = absurd h

same_state : (z c q q' : ℕ) → z ≤ 25 → LetterOf z c q → LetterOf z c q' → q ≡ q'
same_state z c q q' n (inl h) (inl l) = h.1 ∙ sym l.1
same_state z c q q' n (inl h) (inr l) = absurd (omega (arith, h.0, l.0, l.1))
same_state z c q q' n (inr h) (inl l) = absurd (omega (arith, h.0, l.0, h.1))
same_state z c q q' n (inr h) (inr l) = omega (arith, h.0, l.0)

pub same-entry : (m : Machine) (z x y c : ℕ) (e e' : Option Action) → m.tapes ≡ 1 → z ≤ 25 → EntryOf m e → EntryOf m e' → Says z x y c e → Says z x y c e' → e ≡ e'
same-entry m z x y c None None one n o o' h l = refl
same-entry m z x y c None (Some a) one n o o' h l = absurd (omega (arith, h.0, l.0))
same-entry m z x y c (Some a) None one n o o' h l = absurd (omega (arith, h.0, l.0))
same-entry m z x y c (Some a) (Some b) one n o o' h l =
    let w : a.write0.0 ≡ b.write0.0 = omega (arith, h.0, l.0) in
    let d = same_dir y a.dir0 b.dir0 h.1 l.1 in
    let q = same_state z c a.next.0 b.next.0 n h.2 l.2 in
    let a1 = o.lacks1 (omega arith) in
    let a2 = o.lacks2 (omega arith) in
    let b1 = o'.lacks1 (omega arith) in
    let b2 = o'.lacks2 (omega arith) in
    ap Some (λ i. record {
      next = state_of (q i);
      write0 = symbol_of (w i);
      write1 = symbol_of ((a1.0 ∙ sym b1.0) i);
      write2 = symbol_of ((a2.0 ∙ sym b2.0) i);
      dir0 = d i;
      dir1 = (a1.1 ∙ sym b1.1) i;
      dir2 = (a2.1 ∙ sym b2.1) i;
    })

-- ---- the text is of the form, and its letter and digit are those of the rows

move_form : (y : ℕ) (d : Dir) → MoveOf y d → Move y
move_form y L h = inl h
move_form y R h = inr h
move_form y N h = absurd h

pub says_form : (z x y c : ℕ) (e : Option Action) → z ≤ 25 → Says z x y c e → (x ≤ 57) → EntryText x y c
says_form z x y c None n h l = inl h
says_form z x y c (Some a) n h l = inr ((omega (arith, h.0), l), move_form y a.dir0 h.1, letter h.2)
  where
    letter : LetterOf z c a.next.0 → (65 ≤ c) × (c ≤ 90)
    letter (inl e) = (omega (arith, e.0), omega (arith, e.0))
    letter (inr e) = (omega (arith, e.0), omega (arith, e.0, e.1))

pub says_letter : (z x y c : ℕ) (e : Option Action) → Says z x y c e → ¬ (LacksLetter z c)
says_letter z x y c None h n = omega (arith, h.2, n.0.0)
says_letter z x y c (Some a) h n = by h.2
  where
    by : LetterOf z c a.next.0 → ⊥
    by (inl e) = n.1 e.0
    by (inr e) = omega (arith, e.0, e.1, n.2)

pub says_digit : (m : Machine) (z x y c : ℕ) (e : Option Action) → EntryOf m e → Says z x y c e → ¬ (LacksDigit m.symbols x)
says_digit m z x y c None o h n = omega (arith, h.0, n.0.0)
says_digit m z x y c (Some a) o h n = omega (arith, h.0, n.1, o.write0_in)
