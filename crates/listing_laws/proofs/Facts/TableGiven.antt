-- THE TABLE OF AN ACCEPTED LISTING: each entry line defines its entry, and no other entry is defined. Assumes nothing.
use Rattle.machine.specs.declared.Action.{Action}
use Rattle.std.specs.Prelude.{ℕ, ◌+◌, ◌*◌, ◌/◌, ◌%◌, ◌^◌, ◌<◌, ◌≡◌, true, false, leb, ltb, length, get_or, None, Option, Some}
use Rattle.std.proofs.Math.Path.{refl, ap, subst}
use Rattle.std.proofs.Common.{sym, ◌∙◌, arith, pow-suc, length-take-le}
use mathlib.Core.List.{List, [], ◌∷◌, ◌++◌}
use Rattle.std.proofs.Math.Nat.{pow-zero}
use Rattle.std.proofs.Math.Arith.{digits_lt, digits_div, digits_mod}
use Rattle.std.proofs.lemmas.List.{get_or-replicate}
use Rattle.std.proofs.Math.ListN.{length-replicate}
use Rattle.std.proofs.Math.Seq.{get_or-take}
use Rattle.notation.specs.Choice.{pick}
use Rattle.notation.proofs.Facts.Tests.{by_test, pick_cases}
use Rattle.symbol.specs.declared.Dir.{Dir}
use Rattle.symbol.specs.Kinds.{symbol_of, state_of}
use Rattle.machine.specs.declared.Machine.{Machine}
use Rattle.machine.specs.Layout.{stride_of, entry_number, byte_at, single_of, entry_at}
use Rattle.table_laws.specs.WellFormed.{entry_bytes}
use Rattle.table_laws.proofs.Facts.Reading.{entry_read}
use Rattle.table_machine.specs.Tables.{table_of}
use Rattle.listing_text.specs.Pieces.{lines, same_list}
use Rattle.listing_text.proofs.Facts.Chain.{pick_inv}
use Rattle.listing_lines.specs.declared.Rule.{Rule}
use Rattle.listing_lines.specs.Forms.{first_line, columns_line, word_line, heading_line, on_some, machine_line, entry_line, word_of, call_line, number_in, given, action_of, define}
use Rattle.listing_lines.specs.Model.{RuleOk}
use Rattle.listing_lines.proofs.Facts.Forms.{rule_ok}
use Rattle.listing_reader.specs.declared.Due.{Due}
use Rattle.listing_reader.specs.declared.Due.TheVariants.{Names, Numbers, Columns, Entries, Word, Heading, Calls}
use Rattle.listing_reader.specs.Listing.{Sofar, table_in, nothing, Next, on, bad, line, refused, asked, at_end, on_next, read_from, listing}
use Rattle.listing_reader.proofs.Facts.Accepted.{Kept, asked_kept, some_cases}
use Rattle.listing_laws.specs.EntryLines.{machine_text, Gives, GivesTable}
use Rattle.listing_laws.proofs.Facts.Text.{same_is}
use Rattle.listing_laws.proofs.Facts.FilledTable.{entry_text_lem, machine_text_lem, action_is, number_is, Filled, made, left}

no_asked : {n : ℕ} {x : Sofar} → refused n ≡ asked x → ⊥
no_asked p = let z : ◌≡◌ {A = ℕ} 0 1 = cc in omega arith

-- ---- after the line `word` the machine and the table do not change

record Same (x y : Sofar) : Type 0 where
  machine_same : y.machine ≡ x.machine
  table_same : y.table ≡ x.table

abbrev Late : Due → Type 0
Late Names = ⊥
Late Numbers = ⊥
Late Columns = ⊥
Late Entries = ⊥
Late Word = Unit {0}
Late Heading = Unit {0}
Late Calls = Unit {0}

abbrev LateNext : Sofar → Next → Type 0
LateNext x bad = Unit {0}
LateNext x (on d z) = Late d × Same x z

itself : (x : Sofar) → Same x x
itself x = record { machine_same = refl; table_same = refl }

late_line : (d : Due) (x : Sofar) (l : List ℕ) → Late d → LateNext x (line d x l)
unfolding line
late_line Names x l h = absurd h
late_line Numbers x l h = absurd h
late_line Columns x l h = absurd h
late_line Entries x l h = absurd h
late_line Word x l h =
    some_cases (word_of x.machine.symbols l) bad _ (LateNext x) tt (λ w e. (tt, record { machine_same = refl; table_same = refl }))
late_line Heading x l h = pick_cases (same_list l heading_line) (on Calls x) bad (LateNext x) (λ _. (tt, itself x)) (λ _. tt)
late_line Calls x l h =
    pick_cases (ltb (length x.calls) 64) _ bad (LateNext x)
    (λ _. some_cases (call_line l) bad _ (LateNext x) tt (λ c e. (tt, record { machine_same = refl; table_same = refl })))
    (λ _. tt)

module _ (y : Sofar) where
  late_end : (n : ℕ) (d : Due) (x : Sofar) → Late d → at_end n d x ≡ asked y → Same x y
  unfolding at_end
  late_end n Names x h p = absurd h
  late_end n Numbers x h p = absurd h
  late_end n Columns x h p = absurd h
  late_end n Entries x h p = absurd h
  late_end n Word x h p = absurd (no_asked p)
  late_end n Heading x h p = absurd (no_asked p)
  late_end n Calls x h p = let e : x ≡ y = cc in subst (Same x) e (itself x)

  -- the result of a first line
  leads : (n : ℕ) (d : Due) (x : Sofar) (l : List ℕ) (ls : List (List ℕ)) → read_from n d x (l ∷ ls) ≡ asked y
      → (z : Next) → line d x l ≡ z → on_next z (refused n) (λ d' x'. read_from (n + 1) d' x' ls) ≡ asked y
  unfolding read_from
  leads n d x l ls p z e =
      subst (λ (u : Next). on_next u (refused n) (λ d' x'. read_from (n + 1) d' x' ls) ≡ asked y) e (pick_inv (leb (length l) 80) _ no_asked p).1

  late : (ls : List (List ℕ)) (n : ℕ) (d : Due) (x : Sofar) → Late d → read_from n d x ls ≡ asked y → Same x y
  unfolding read_from on_next
  late [] n d x h p = late_end n d x h p
  late (l ∷ ls) n d x h p = by (λ d' x' h' q. late ls (n + 1) d' x' h' q) (line d x l) (late_line d x l h) (leads n d x l ls p (line d x l) refl)
    where
      by : ((d' : Due) (x' : Sofar) → Late d' → read_from (n + 1) d' x' ls ≡ asked y → Same x' y)
          → (z : Next) → LateNext x z → on_next z (refused n) (λ d' x'. read_from (n + 1) d' x' ls) ≡ asked y → Same x y
      by rec bad k q = absurd (no_asked q)
      by rec (on d' x') k q =
          let r : Same x' y = rec d' x' k.0 q in
          record { machine_same = r.machine_same ∙ k.1.machine_same; table_same = r.table_same ∙ k.1.table_same }

  -- ---- the entry lines

  record Entered (x : Sofar) (ls : List (List ℕ)) : Type 0 where
    es : List (List ℕ)
    rest : List (List ℕ)
    split : ls ≡ es ++ word_line ∷ rest
    filled : Filled x.machine x.table es y.table
    same : y.machine ≡ x.machine

  abbrev more : Sofar → Rule → Sofar
  more x e = record { machine = x.machine; table = define x.machine x.table e; word = x.word; calls = x.calls }

  module _ (x : Sofar) (l : List ℕ) where
    line_word : same_list l word_line ≡ true → line Entries x l ≡ on Word x
    unfolding line pick
    line_word t = simp t

    module _ (t : same_list l word_line ≡ false) where
      line-none : entry_line x.machine l ≡ None → line Entries x l ≡ bad
      unfolding line pick on_some
      line-none e = simp (t, e)

      line_twice : (e : Rule) → entry_line x.machine l ≡ Some e → given x.machine x.table e ≡ true → line Entries x l ≡ bad
      unfolding line pick on_some
      line_twice e p q = simp (t, p, q)

      line_once : (e : Rule) → entry_line x.machine l ≡ Some e → given x.machine x.table e ≡ false → line Entries x l ≡ on Entries (more x e)
      unfolding line pick on_some
      line_once e p q = simp (t, p, q)

  entered : (ls : List (List ℕ)) (n : ℕ) (x : Sofar) → read_from n Entries x ls ≡ asked y → Entered x ls
  unfolding read_from at_end on_next
  entered [] n x p = absurd (no_asked p)
  entered (l ∷ ls) n x p = turn (λ n' x' q. entered ls n' x' q)
    where
      goes : (z : Next) → line Entries x l ≡ z → on_next z (refused n) (λ d' x'. read_from (n + 1) d' x' ls) ≡ asked y
      goes z e = leads n Entries x l ls p z e

      turn : ((n' : ℕ) (x' : Sofar) → read_from n' Entries x' ls ≡ asked y → Entered x' ls) → Entered x (l ∷ ls)
      turn rec = by_test (same_list l word_line) at_word (λ t. at_entry t (entry_line x.machine l) refl)
        where
          at_word : same_list l word_line ≡ true → Entered x (l ∷ ls)
          at_word t =
              let s : Same x y = late ls (n + 1) Word x tt (goes (on Word x) (line_word x l t)) in
              record {
                es = [];
                rest = ls;
                split = ap (λ (u : List ℕ). u ∷ ls) (same_is l word_line t);
                filled = s.table_same;
                same = s.machine_same;
              }

          at_entry : same_list l word_line ≡ false → (o : Option Rule) → entry_line x.machine l ≡ o → Entered x (l ∷ ls)
          at_entry t None e = absurd (no_asked (goes bad (line-none x l t e)))
          at_entry t (Some r) e =
              by_test (given x.machine x.table r)
              (λ q. absurd (no_asked (goes bad (line_twice x l t r e q))))
              (λ q.
              let i : Entered (more x r) ls = rec (n + 1) (more x r) (goes (on Entries (more x r)) (line_once x l t r e q)) in
              record {
                es = l ∷ i.es;
                rest = i.rest;
                split = ap (λ (u : List (List ℕ)). l ∷ u) i.split;
                filled = (r, e, q, i.filled);
                same = i.same;
              })

  -- ---- the three lines before them

  -- a line that must be `text`
  fixed : (d d' : Due) (text : List ℕ) → ((x : Sofar) (l : List ℕ) → line d x l ≡ pick (same_list l text) (on d' x) bad) → ((n : ℕ) (x : Sofar) → at_end n d x ≡ refused n)
      → (n : ℕ) (x : Sofar) (ls : List (List ℕ)) → read_from n d x ls ≡ asked y → (rest : List (List ℕ)) × (ls ≡ text ∷ rest) × (read_from (n + 1) d' x rest ≡ asked y)
  unfolding read_from on_next pick
  fixed d d' text is end n x [] p = absurd (no_asked (sym (end n x) ∙ p))
  fixed d d' text is end n x (l ∷ ls) p =
      by_test (same_list l text)
      (λ t. (ls, ap (λ (u : List ℕ). u ∷ ls) (same_is l text t), leads n d x l ls p (on d' x) (is x l ∙ simp t)))
      (λ t. absurd (no_asked (leads n d x l ls p bad (is x l ∙ simp t))))

  abbrev with : Machine → Sofar → Sofar
  with m x = record { machine = m; table = x.table; word = x.word; calls = x.calls }

  numbers : (n : ℕ) (x : Sofar) (ls : List (List ℕ)) → read_from n Numbers x ls ≡ asked y
      → (l : List ℕ) × (m : Machine) × (rest : List (List ℕ)) × (ls ≡ l ∷ rest) × (machine_line l ≡ Some m) × (read_from (n + 1) Columns (with m x) rest ≡ asked y)
  unfolding read_from at_end on_next line on_some
  numbers n x [] p = absurd (no_asked p)
  numbers n x (l ∷ ls) p = by (machine_line l) refl
    where
      by : (o : Option Machine) → machine_line l ≡ o
          → (l' : List ℕ) × (m : Machine) × (rest : List (List ℕ)) × (l ∷ ls ≡ l' ∷ rest) × (machine_line l' ≡ Some m) × (read_from (n + 1) Columns (with m x) rest ≡ asked y)
      by None e = absurd (no_asked (leads n Numbers x l ls p bad (simp e)))
      by (Some m) e = (l, m, ls, refl, e, leads n Numbers x l ls p (on Columns (with m x)) (simp e))

-- ---- an entry of the table, by its bytes

module _ (x : Sofar) (k : Kept x) (q a : ℕ) (h : q < x.machine.states) (g : a < x.machine.symbols) where
  abbrev at : ℕ
  at = q * x.machine.symbols + a

  inside : at < x.machine.states * x.machine.symbols
  inside = digits_lt h g

  long : length (table_in x) ≡ 8 * (x.machine.states * x.machine.symbols)
  long = length-take-le (8 * (x.machine.states * x.machine.symbols)) x.table (omega (arith, k.long, k.good.few))

  number_at : entry_number x.machine.symbols (stride_of x.machine) q a 0 0 ≡ at
  number_at =
      let one : x.machine.symbols ^ 1 ≡ x.machine.symbols =
      pow-suc x.machine.symbols 0 ∙ ap (λ (n : ℕ). n * x.machine.symbols) (pow-zero x.machine.symbols) ∙ omega arith in
      let stride : stride_of x.machine ≡ x.machine.symbols = ap (λ (t : ℕ). x.machine.symbols ^ t) k.good.one ∙ one in
      ap (λ (s : ℕ). q * s + a + x.machine.symbols * 0 + x.machine.symbols * x.machine.symbols * 0) stride ∙ omega arith

  pub table_at : (e : Option Action) → ((j : ℕ) → j < 8 → byte_at x.table at j ≡ get_or (entry_bytes e) j 0) → table_of x.machine (table_in x) q a 0 0 ≡ e
  unfolding table_of
  table_at e written =
      ap (entry_at (table_in x)) number_at
      ∙ entry_read (table_in x) at e (omega (arith, inside, long))
      (λ j l. get_or-take (8 * (x.machine.states * x.machine.symbols)) x.table (8 * at + j) 0 (omega (arith, inside)) ∙ written j l)

-- before the first line no entry is defined
blank_at_lem : (p j : ℕ) → p < 4096 → j < 8 → get_or nothing.table p 0 ≡ get_or (entry_bytes None) j 0
unfolding nothing
blank_at_lem p j h b = get_or-replicate 4096 p 0 0 h ∙ sym (get_or-replicate 8 j 0 0 b)

-- ---- the theorem

module _ (s : List ℕ) (x : Sofar) (e : listing s ≡ asked x) where
  k : Kept x
  k = asked_kept s x e

  first : (rest : List (List ℕ)) × (lines s ≡ first_line ∷ rest) × (read_from (1 + 1) Numbers nothing rest ≡ asked x)
  unfolding listing line at_end
  first = fixed x Names Numbers first_line (λ y l. refl) (λ n y. refl) 1 nothing (lines s) e

  second : (l : List ℕ) × (m : Machine) × (rest : List (List ℕ)) × (first.0 ≡ l ∷ rest) × (machine_line l ≡ Some m) × (read_from (1 + 1 + 1) Columns (with x m nothing) rest ≡ asked x)
  second = numbers x (1 + 1) nothing first.0 first.2

  third : (rest : List (List ℕ)) × (second.2 ≡ columns_line ∷ rest) × (read_from (1 + 1 + 1 + 1) Entries (with x second.1 nothing) rest ≡ asked x)
  unfolding line at_end
  third = fixed x Columns Entries columns_line (λ y l. refl) (λ n y. refl) (1 + 1 + 1) (with x second.1 nothing) second.2 second.5

  given_lines : Entered x (with x second.1 nothing) third.0
  given_lines = entered x third.0 (1 + 1 + 1 + 1) (with x second.1 nothing) third.2

  abbrev es : List (List ℕ)
  es = given_lines.es

  filled_table : Filled x.machine nothing.table es x.table
  filled_table = subst (λ (m : Machine). Filled m nothing.table es x.table) (sym given_lines.same) given_lines.filled

  blank_long : length nothing.table ≡ 4096
  unfolding nothing
  blank_long = length-replicate {A = ℕ} 4096 0

  line_of_holds : (i : ℕ) → i < length es
      → (r : Rule) × (entry_line x.machine (get_or es i []) ≡ Some r) × ((j : ℕ) → j < 8 → byte_at x.table (number_in x.machine r) j ≡ get_or (entry_bytes (Some (action_of r))) j 0)
  line_of_holds i h = made x.machine k.good es nothing.table x.table blank_long filled_table i h

  gives : (l : List ℕ) (r : Rule) → entry_line x.machine l ≡ Some r → Gives x.machine l r.state r.read r.write r.dir r.next
  gives l r p =
      let o : RuleOk x.machine r = rule_ok x.machine l r p in
      record { state_in_holds = o.state_ok; read_in = o.read_ok; write_in = o.write_ok; next_in = o.next_ok; text = entry_text_lem x.machine l r p }

  made_by : (i q a w : ℕ) (d : Dir) (r : ℕ) → i < length es → Gives x.machine (get_or es i []) q a w d r
      → table_of x.machine (table_in x) q a 0 0 ≡ Some (single_of (symbol_of w) d (state_of r))
  made_by i q a w d r h t =
      let f = line_of_holds i h in
      let n : number_in x.machine f.0 ≡ q * x.machine.symbols + a = number_is x.machine k.good (get_or es i []) f.0 f.1 q a w d r t in
      let c : action_of f.0 ≡ single_of (symbol_of w) d (state_of r) = action_is x.machine k.good (get_or es i []) f.0 f.1 q a w d r t in
      table_at x k q a t.state_in_holds t.read_in (Some (action_of f.0)) (λ j b. ap (λ (p : ℕ). byte_at x.table p j) (sym n) ∙ f.2 j b) ∙ ap Some c

  not_made : (q a : ℕ) → q < x.machine.states → a < x.machine.symbols
      → ((i w : ℕ) (d : Dir) (r : ℕ) → i < length es → ¬ Gives x.machine (get_or es i []) q a w d r) → table_of x.machine (table_in x) q a 0 0 ≡ None
  not_made q a h g none-gives =
      table_at x k q a h g None
      (λ j b. left x.machine k.good es nothing.table x.table blank_long filled_table (q * x.machine.symbols + a) other j b ∙ blank j b)
    where
      blank : (j : ℕ) → j < 8 → byte_at nothing.table (q * x.machine.symbols + a) j ≡ get_or (entry_bytes None) j 0
      blank j b = blank_at_lem (8 * (q * x.machine.symbols + a) + j) j (omega (arith, inside x k q a h g, k.good.few)) b

      other : (i : ℕ) (r : Rule) → i < length es → entry_line x.machine (get_or es i []) ≡ Some r → ¬ (q * x.machine.symbols + a ≡ number_in x.machine r)
      other i r b p z =
          let o : RuleOk x.machine r = rule_ok x.machine (get_or es i []) r p in
          let n : q ≡ r.state = sym (digits_div q g) ∙ ap (λ (v : ℕ). v / x.machine.symbols) z ∙ digits_div r.state o.read_ok in
          let c : a ≡ r.read = sym (digits_mod q g) ∙ ap (λ (v : ℕ). v % x.machine.symbols) z ∙ digits_mod r.state o.read_ok in
          let t : Gives x.machine (get_or es i []) q a r.write r.dir r.next =
          rw (n, c) (gives (get_or es i []) r p) in
          none-gives i r.write r.dir r.next b t

  pub listing_gives : GivesTable s x.machine (table_in x)
  listing_gives = record {
    entries = es;
    rest = given_lines.rest;
    are =
        first.1
        ∙ ap (λ (u : List (List ℕ)). first_line ∷ u) second.3
        ∙ (λ i. first_line ∷ (machine_text_lem second.0 second.1 second.4 ∙ ap machine_text (sym given_lines.same)) i ∷ (third.1 ∙ ap (λ (u : List (List ℕ)). columns_line ∷ u) given_lines.split) i);
    each = λ i h. let f = line_of_holds i h in (f.0.state, f.0.read, f.0.write, f.0.dir, f.0.next, gives (get_or es i []) f.0 f.1);
    given = made_by;
    ungiven = not_made;
  }
