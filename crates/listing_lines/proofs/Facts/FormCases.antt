-- Facts for the code that reads and writes forms, one for each path through it; and rules for `search` on a chain of forms. Assumes nothing.
use Rattle.std.specs.Prelude.{ℕ, suc, ◌+◌, ◌/◌, ◌%◌, ◌≤◌, ◌<◌, ◌≡◌, refl, true, false, get_or, set, None, Option, Some}
use Rattle.std.proofs.Math.Path.{sym, ap}
use Rattle.std.proofs.Common.{◌∙◌, arith, add-one, take-append-drop, drop-cons, length-take-le, eq-eqb, ne_eqb}
use mathlib.Core.List.{List, [], ◌∷◌, ◌++◌}
use Rattle.std.proofs.Math.ListN.{length, take, drop, length-set, drop_of_length-le}
use Rattle.std.proofs.Math.Seq.{paste, take-suc-set, drop-drop, drop-set-lt}
use Rattle.notation.specs.Choice.{pick}
use Rattle.symbol.specs.Kinds.{dir_number}
use Rattle.machine.specs.declared.Machine.{Machine}
use Rattle.table_laws.specs.WellFormed.{entry_bytes}
use Rattle.listing_text.specs.Pieces.{fields, field}
use Rattle.listing_text.specs.Numbers.{below, on_num}
use Rattle.listing_text.proofs.Facts.Chain.{chain}
use Rattle.listing_lines.specs.declared.Rule.{Rule}
use Rattle.listing_lines.specs.Forms.{on_some, machine_line, entry_line, symbols_of, word_of, symbols_before, word_before, place, given, action_of, define}
use Rattle.listing_lines.specs.Model.{count_of, over, read_word, Small, RuleOk}
use Rattle.listing_lines.proofs.Facts.Forms.{below_lt, rule_ok, machine_good, good_small}

-- ---- the result of a callee

module _ {A : Type 0} (x out : A) where
  pub some_out : {B : Type 0} (r n : Option B) (go : B → A) → r ≡ n → r ≡ None → x ≡ out → x ≡ on_some n out go
  unfolding on_some
  some_out r n go e q p = simp (← e, q) p

  pub some_go : {B : Type 0} (r n : Option B) (go : B → A) (v : B) → r ≡ n → r ≡ Some v → x ≡ go v → x ≡ on_some n out go
  unfolding on_some
  some_go r n go v e q p = simp (← e, q) p

pub ruleset forms = (some_out, some_go, chain)

pub entry_ok_lem : (m : Machine) (l : List ℕ) (e : Rule) (r : Option Rule) → r ≡ entry_line m l → r ≡ Some e → RuleOk m e
entry_ok_lem m l e r p q = rule_ok m l e (sym p ∙ q)

pub machine_small : (l : List ℕ) (m : Machine) (r : Option Machine) → r ≡ machine_line l → r ≡ Some m → Small m
machine_small l m r p q = good_small (machine_good l m (sym p ∙ q))

-- ---- `give` and `store`

module _ (m : Machine) (e : Rule) (t : List ℕ) (at : ℕ) (p : at ≡ place m e) where
  pub given_yes : get_or t at 0 ≡ 1 → true ≡ given m t e
  unfolding given
  given_yes h = sym (eq-eqb _ _ (rw p at h))

  pub given_no : (get_or t at 0 ≡ 1 → ⊥) → false ≡ given m t e
  unfolding given
  given_no h = sym (ne_eqb _ _ (rw p at h))

  pub defined : (t' : List ℕ) → t' ≡ paste t at (entry_bytes (Some (action_of e))) 8 → t' ≡ define m t e
  unfolding define
  defined t' q = rw p at q

-- the eight bytes as the code computes them
pub stored : (t t' : List ℕ) (at : ℕ) (e : Rule) (d : ℕ) → d ≡ dir_number e.dir
    → t' ≡ paste t at (1 ∷ (e.next % 256) ∷ (e.next / 256) ∷ e.write ∷ 0 ∷ 0 ∷ (d + 24) ∷ 0 ∷ []) 8
    → t' ≡ paste t at (entry_bytes (Some (action_of e))) 8
stored t t' at e d h p =
    let z : d + 24 ≡ dir_number e.dir + 6 + 18 = omega (arith, h) in
    p ∙ ap (λ d. paste t at (1 ∷ (e.next % 256) ∷ (e.next / 256) ∷ e.write ∷ 0 ∷ 0 ∷ d ∷ 0 ∷ []) 8) z

-- ---- the word

pub below_256 : (k : ℕ) (f : List ℕ) (a : ℕ) (r : Option ℕ) → r ≡ below k f → r ≡ Some a → k ≤ 256 → a < 256
below_256 k f a r e q h = omega (arith, below_lt k f a (sym e ∙ q))

-- at field i of n: the first i places of w hold the symbols before it, the others are as they were
pub record WordInv (k : ℕ) (l w₀ : List ℕ) (n : ℕ) (w : List ℕ) (i : ℕ) : Type 0 where
  pub inside : i ≤ n
  pub count : n ≡ length (fields l)
  pub few : n ≤ 81
  pub room : 81 ≤ length w
  pub long : length w ≡ length w₀
  pub all : symbols_of k (take i w) (drop i (fields l)) ≡ word_of k l
  pub before : symbols_before k (take i w) (drop i (fields l)) ≡ word_before k l
  pub rest : drop i w ≡ drop i w₀

pub word_none : (k : ℕ) (l w : List ℕ) → length l ≡ 0 → (Some 0, w) ≡ read_word k l w
unfolding read_word count_of word_of word_before pick
word_none k l w h = simp (eq-eqb _ _ h)

pub word-start : (k : ℕ) (l w : List ℕ) (n : ℕ) → (length l ≡ 0 → ⊥) → n ≡ length (fields l) → n ≤ length l + 1 → length l ≤ 80 → 81 ≤ length w → WordInv k l w n w 0
unfolding word_of word_before pick
word-start k l w n h e f z g =
    record {
      inside = omega arith;
      count = e;
      few = omega arith;
      room = g;
      long = refl;
      all = simp (ne_eqb _ _ h);
      before = simp (ne_eqb _ _ h);
      rest = refl;
    }

-- the bytes after i symbols are read
left_over : (v w w₀ : List ℕ) (i : ℕ) → take i w ≡ v → drop i w ≡ drop i w₀ → i ≤ length w → w ≡ over v w₀
left_over v w w₀ i e r h =
    let z : length v ≡ i = ap length (sym e) ∙ length-take-le i w h in
    sym (take-append-drop i w) ∙ (λ j. e j ++ r j) ∙ ap (λ n. v ++ drop n w₀) (sym z)

module _ (k : ℕ) (l w₀ : List ℕ) (n : ℕ) (w : List ℕ) (i : ℕ) (inv : WordInv k l w₀ n w i) where
  module _ (r : Option ℕ) (e : r ≡ below k (field l i)) (d : i < n) where
    h : i < length (fields l)
    h = omega (arith, inv.count)

    pub word_bad : r ≡ None → (None, w) ≡ read_word k l w₀
    unfolding read_word count_of symbols_of symbols_before on_num
    word_bad q =
        let a : None ≡ word_of k l = simp (drop-cons (fields l) i [] h, ← e, q) at inv.all in
        let b : take i w ≡ word_before k l = simp (drop-cons (fields l) i [] h, ← e, q) at inv.before in
        λ j. (count_of (a j), left_over (word_before k l) w w₀ i b inv.rest (omega (arith, inv.few, inv.room)) j)

    pub word_next_holds : (a b : ℕ) → b ≡ a → r ≡ Some a → WordInv k l w₀ n (set w i b) (i + 1)
    unfolding symbols_of symbols_before on_num
    word_next_holds a b z q =
        let y : symbols_of k (take i w ++ (a ∷ [])) (drop (suc i) (fields l)) ≡ word_of k l = simp (drop-cons (fields l) i [] h, ← e, q) at inv.all in
        let x : symbols_before k (take i w ++ (a ∷ [])) (drop (suc i) (fields l)) ≡ word_before k l = simp (drop-cons (fields l) i [] h, ← e, q) at inv.before in
        let g : i < length w = omega (arith, inv.few, inv.room) in
        record {
          inside = omega arith;
          count = inv.count;
          few = inv.few;
          room = simp length-set inv.room;
          long = length-set w i b ∙ inv.long;
          all = rw (add-one i, z, take-suc-set w i a g) y;
          before = rw (add-one i, z, take-suc-set w i a g) x;
          rest = drop-set-lt (i + 1) w i b (omega arith) ∙ sym (drop-drop 1 i w) ∙ ap (drop 1) inv.rest ∙ drop-drop 1 i w₀;
        }

  pub word_end : n ≤ i → (Some n, w) ≡ read_word k l w₀
  unfolding read_word count_of symbols_of symbols_before
  word_end g =
      let z : i ≡ n = omega (arith, inv.inside) in
      let o : drop i (fields l) ≡ [] = drop_of_length-le (fields l) {i = i} (omega (arith, inv.count)) in
      let a : Some (take i w) ≡ word_of k l = simp o at inv.all in
      let b : take i w ≡ word_before k l = simp o at inv.before in
      let t : i ≤ length w = omega (arith, inv.few, inv.room) in
      let c : Some n ≡ count_of (word_of k l) = ap Some (sym z ∙ sym (length-take-le i w t)) ∙ ap count_of a in
      λ j. (c j, left_over (word_before k l) w w₀ i b inv.rest t j)
