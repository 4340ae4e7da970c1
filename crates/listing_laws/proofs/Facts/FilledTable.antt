-- How the entry lines of an accepted listing fill its table, line by line. Assumes nothing.
use Rattle.std.specs.Prelude.{ℕ, zero, suc, ◌+◌, ◌*◌, ◌^◌, ◌<◌, ◌≡◌, refl, false, eqb, ltb, length, get_or, Some}
use Rattle.std.proofs.Math.Path.{sym, ap}
use Rattle.std.proofs.Common.{◌∙◌, arith}
use mathlib.Core.List.{List, [], ◌∷◌}
use borrow.Author.Tests.{eqb-true, eqb-false}
use Rattle.symbol.specs.declared.Dir.{Dir}
use Rattle.symbol.specs.declared.Dir.TheVariants.{L, R, N}
use Rattle.symbol.specs.Kinds.{symbol_of, state_of}
use Rattle.machine.specs.declared.Machine.{Machine}
use Rattle.machine.specs.Layout.{byte_at, flag_at, single_of}
use Rattle.table_laws.specs.WellFormed.{entry_bytes}
use Rattle.table_laws.proofs.Facts.Entries.{flag_is}
use Rattle.listing_text.specs.Pieces.{fields, field}
use Rattle.listing_text.specs.Numbers.{number, below}
use Rattle.listing_text.specs.Show.{show}
use Rattle.listing_text.proofs.Facts.Chain.{no_value, pick_inv, num_inv}
use Rattle.listing_text.proofs.Facts.ReadBack.{read_back}
use Rattle.listing_lines.specs.declared.Rule.{Rule}
use Rattle.listing_lines.specs.Forms.{machine_ok, machine_line, entry_line, number_in, place, given, action_of, define}
use Rattle.listing_lines.specs.Model.{RuleOk}
use Rattle.listing_lines.proofs.Facts.Forms.{no_some, some_inv, Good, rule_ok}
use Rattle.listing_reader.proofs.Facts.Table.{define_length, define_same, define_other}
use Rattle.listing_laws.specs.EntryLines.{joined, letter_of, machine_text, entry_text, Gives}
use Rattle.listing_laws.proofs.Facts.Text.{show_of, letter_of_lem, joined-fields, fields-joined, plain-show, plain_letter}

-- ---- a line's text, from the numbers read from it

number_of_lem : (top : ℕ) (f : List ℕ) (v : ℕ) → below top f ≡ Some v → number f ≡ Some v
unfolding below
number_of_lem top f v p =
    let i = num_inv (number f) _ no_value p in
    i.1 ∙ (pick_inv (ltb i.0 top) (Some i.0) no_value i.2).1

four : (fs : List (List ℕ)) → length fs ≡ 4 → fs ≡ get_or fs 0 [] ∷ get_or fs 1 [] ∷ get_or fs 2 [] ∷ get_or fs 3 [] ∷ []
four [] e = absurd (omega arith)
four (a ∷ []) e = absurd (omega arith)
four (a ∷ b ∷ []) e = absurd (omega arith)
four (a ∷ b ∷ c ∷ []) e = absurd (omega arith)
four (a ∷ b ∷ c ∷ d ∷ []) e = refl
four (a ∷ b ∷ c ∷ d ∷ f ∷ fs) e = absurd (omega arith)

five : (fs : List (List ℕ)) → length fs ≡ 5 → fs ≡ get_or fs 0 [] ∷ get_or fs 1 [] ∷ get_or fs 2 [] ∷ get_or fs 3 [] ∷ get_or fs 4 [] ∷ []
five [] e = absurd (omega arith)
five (a ∷ fs) e = let z : length fs ≡ 4 = omega arith in ap (λ (u : List (List ℕ)). a ∷ u) (four fs z)

pub entry_text_lem : (m : Machine) (l : List ℕ) (e : Rule) → entry_line m l ≡ Some e → l ≡ entry_text e.state e.read e.write e.dir e.next
unfolding entry_line entry_text
entry_text_lem m l e p =
    let j = pick_inv (eqb (length (fields l)) 5) _ no_some p in
    let i0 = num_inv _ _ no_some j.1 in
    let i1 = num_inv _ _ no_some i0.2 in
    let i2 = num_inv _ _ no_some i1.2 in
    let i3 = some_inv _ _ no_some i2.2 in
    let i4 = num_inv _ _ no_some i3.2 in
    let x0 : i0.0 ≡ e.state = cc in
    let x1 : i1.0 ≡ e.read = cc in
    let x2 : i2.0 ≡ e.write = cc in
    let x3 : i3.0 ≡ e.dir = cc in
    let x4 : i4.0 ≡ e.next = cc in
    let y0 : field l 0 ≡ show e.state = show_of (field l 0) i0.0 (number_of_lem m.states (field l 0) i0.0 i0.1) ∙ ap show x0 in
    let y1 : field l 1 ≡ show e.read = show_of (field l 1) i1.0 (number_of_lem m.symbols (field l 1) i1.0 i1.1) ∙ ap show x1 in
    let y2 : field l 2 ≡ show e.write = show_of (field l 2) i2.0 (number_of_lem m.symbols (field l 2) i2.0 i2.1) ∙ ap show x2 in
    let y3 : field l 3 ≡ letter_of e.dir = letter_of_lem (field l 3) i3.0 i3.1 ∙ ap letter_of x3 in
    let y4 : field l 4 ≡ show e.next = show_of (field l 4) i4.0 (number_of_lem m.states (field l 4) i4.0 i4.1) ∙ ap show x4 in
    sym (joined-fields l) ∙ ap joined (five (fields l) (eqb-true _ 5 j.0)) ∙ (λ i. joined (y0 i ∷ y1 i ∷ y2 i ∷ y3 i ∷ y4 i ∷ []))

pub machine_text_lem : (l : List ℕ) (m : Machine) → machine_line l ≡ Some m → l ≡ machine_text m
unfolding machine_line machine_text
machine_text_lem l m p =
    let j = pick_inv (eqb (length (fields l)) 4) _ no_some p in
    let i0 = num_inv _ _ no_some j.1 in
    let i1 = num_inv _ _ no_some i0.2 in
    let i2 = num_inv _ _ no_some i1.2 in
    let i3 = num_inv _ _ no_some i2.2 in
    let q = pick_inv (machine_ok i0.0 i1.0 i2.0 i3.0) _ no_some i3.2 in
    let x0 : i0.0 ≡ m.tapes = cc in
    let x1 : i1.0 ≡ m.symbols = cc in
    let x2 : i2.0 ≡ m.states = cc in
    let x3 : i3.0 ≡ m.start = cc in
    let y0 : field l 0 ≡ show m.tapes = show_of (field l 0) i0.0 i0.1 ∙ ap show x0 in
    let y1 : field l 1 ≡ show m.symbols = show_of (field l 1) i1.0 i1.1 ∙ ap show x1 in
    let y2 : field l 2 ≡ show m.states = show_of (field l 2) i2.0 i2.1 ∙ ap show x2 in
    let y3 : field l 3 ≡ show m.start = show_of (field l 3) i3.0 i3.1 ∙ ap show x3 in
    sym (joined-fields l) ∙ ap joined (four (fields l) (eqb-true _ 4 j.0)) ∙ (λ i. joined (y0 i ∷ y1 i ∷ y2 i ∷ y3 i ∷ []))

-- ---- two lines with the same text have the same numbers

show_inj : (a b : ℕ) → a < 2 ^ 64 → b < 2 ^ 64 → show a ≡ show b → a ≡ b
show_inj a b h g e = let z : Some a ≡ Some b = sym (read_back a h) ∙ ap number e ∙ read_back b g in cc

first_of_lem : (d d' : Dir) → letter_of d ≡ letter_of d' → get_or (letter_of d) 0 0 ≡ get_or (letter_of d') 0 0
first_of_lem d d' e = ap (λ (u : List ℕ). get_or u 0 0) e

letter_inj : (d d' : Dir) → letter_of d ≡ letter_of d' → d ≡ d'
letter_inj L L e = refl
letter_inj L R e = let z : ◌≡◌ {A = ℕ} 76 82 = first_of_lem L R e in absurd (omega arith)
letter_inj L N e = let z : ◌≡◌ {A = ℕ} 76 78 = first_of_lem L N e in absurd (omega arith)
letter_inj R L e = let z : ◌≡◌ {A = ℕ} 82 76 = first_of_lem R L e in absurd (omega arith)
letter_inj R R e = refl
letter_inj R N e = let z : ◌≡◌ {A = ℕ} 82 78 = first_of_lem R N e in absurd (omega arith)
letter_inj N L e = let z : ◌≡◌ {A = ℕ} 78 76 = first_of_lem N L e in absurd (omega arith)
letter_inj N R e = let z : ◌≡◌ {A = ℕ} 78 82 = first_of_lem N R e in absurd (omega arith)
letter_inj N N e = refl

five_of : (q a w : ℕ) (d : Dir) (r : ℕ) → List (List ℕ)
five_of q a w d r = show q ∷ show a ∷ show w ∷ letter_of d ∷ show r ∷ []

entry-fields : (q a w : ℕ) (d : Dir) (r : ℕ) → fields (entry_text q a w d r) ≡ five_of q a w d r
unfolding entry_text five_of
entry-fields q a w d r =
    fields-joined (show q) (show a ∷ show w ∷ letter_of d ∷ show r ∷ []) (plain-show q, (plain-show a, (plain-show w, (plain_letter d, (plain-show r, tt)))))

-- the rule that was read from the line `q a w d r`
module _ (m : Machine) (g : Good m) (l : List ℕ) (e : Rule) (p : entry_line m l ≡ Some e) (q a w : ℕ) (d : Dir) (r : ℕ) (t : Gives m l q a w d r) where
  o : RuleOk m e
  o = rule_ok m l e p

  at_field : (i : ℕ) → get_or (five_of e.state e.read e.write e.dir e.next) i [] ≡ get_or (five_of q a w d r) i []
  at_field i =
      ap (λ (fs : List (List ℕ)). get_or fs i [])
      (sym (entry-fields e.state e.read e.write e.dir e.next)
      ∙ ap fields (sym (entry_text_lem m l e p) ∙ t.text) ∙ entry-fields q a w d r)

  state_is : e.state ≡ q
  unfolding five_of
  state_is = show_inj e.state q (omega (arith, o.state_ok, g.few_states)) (omega (arith, t.state_in_holds, g.few_states)) (at_field 0)

  read_is : e.read ≡ a
  unfolding five_of
  read_is = show_inj e.read a (omega (arith, o.read_ok, g.few_symbols)) (omega (arith, t.read_in, g.few_symbols)) (at_field 1)

  write_is : e.write ≡ w
  unfolding five_of
  write_is = show_inj e.write w (omega (arith, o.write_ok, g.few_symbols)) (omega (arith, t.write_in, g.few_symbols)) (at_field 2)

  move_is : e.dir ≡ d
  unfolding five_of
  move_is = letter_inj e.dir d (at_field 3)

  next_is : e.next ≡ r
  unfolding five_of
  next_is = show_inj e.next r (omega (arith, o.next_ok, g.few_states)) (omega (arith, t.next_in, g.few_states)) (at_field 4)

  pub action_is : action_of e ≡ single_of (symbol_of w) d (state_of r)
  action_is = λ i. single_of (symbol_of (write_is i)) (move_is i) (state_of (next_is i))

  pub number_is : number_in m e ≡ q * m.symbols + a
  number_is = λ i. state_is i * m.symbols + read_is i

-- ---- a table filled by entry lines

abbrev pub Filled : Machine → (t : List ℕ) → List (List ℕ) → (t' : List ℕ) → Type 0
Filled m t [] t' = t' ≡ t
Filled m t (l ∷ es) t' = (e : Rule) × (entry_line m l ≡ Some e) × (given m t e ≡ false) × Filled m (define m t e) es t'

module _ (m : Machine) (g : Good m) where
  -- a defined entry stays
  stays : (es : List (List ℕ)) (t t' : List ℕ) → length t ≡ 4096 → Filled m t es t' → (i : ℕ) → flag_at t i ≡ 1 → (j : ℕ) → j < 8 → byte_at t' i j ≡ byte_at t i j
  unfolding given place
  stays [] t t' n f i h j k = ap (λ (u : List ℕ). byte_at u i j) f
  stays (l ∷ es) t t' n f i h j k =
      let e : Rule = f.0 in
      let o : RuleOk m e = rule_ok m l e f.1 in
      let z : ¬ (i ≡ number_in m e) = λ q. eqb-false (flag_at t (number_in m e)) 1 f.2 (ap (flag_at t) (sym q) ∙ h) in
      let b : flag_at (define m t e) i ≡ 1 =
      sym (flag_is (define m t e) i) ∙ define_other m t e g o n i z 0 (omega arith) ∙ flag_is t i ∙ h in
      stays es (define m t e) t' (define_length m t e g o n) f.3 i b j k ∙ define_other m t e g o n i z j k

  -- each line's entry is written
  pub made : (es : List (List ℕ)) (t t' : List ℕ) → length t ≡ 4096 → Filled m t es t' → (i : ℕ) → i < length es
      → (e : Rule) × (entry_line m (get_or es i []) ≡ Some e) × ((j : ℕ) → j < 8 → byte_at t' (number_in m e) j ≡ get_or (entry_bytes (Some (action_of e))) j 0)
  made [] t t' n f i h = absurd (omega arith)
  made (l ∷ es) t t' n f zero h =
      let e : Rule = f.0 in
      let o : RuleOk m e = rule_ok m l e f.1 in
      let b : flag_at (define m t e) (number_in m e) ≡ 1 = sym (flag_is (define m t e) (number_in m e)) ∙ define_same m t e g o n 0 (omega arith) in
      (e, f.1, λ j k. stays es (define m t e) t' (define_length m t e g o n) f.3 (number_in m e) b j k ∙ define_same m t e g o n j k)
  made (l ∷ es) t t' n f (suc i) h =
      let o : RuleOk m f.0 = rule_ok m l f.0 f.1 in
      made es (define m t f.0) t' (define_length m t f.0 g o n) f.3 i (omega arith)

  -- a place that no line gives is unchanged
  pub left : (es : List (List ℕ)) (t t' : List ℕ) → length t ≡ 4096 → Filled m t es t' → (p : ℕ)
      → ((i : ℕ) (e : Rule) → i < length es → entry_line m (get_or es i []) ≡ Some e → ¬ (p ≡ number_in m e)) → (j : ℕ) → j < 8 → byte_at t' p j ≡ byte_at t p j
  left [] t t' n f p h j k = ap (λ (u : List ℕ). byte_at u p j) f
  left (l ∷ es) t t' n f p h j k =
      let e : Rule = f.0 in
      let o : RuleOk m e = rule_ok m l e f.1 in
      left es (define m t e) t' (define_length m t e g o n) f.3 p (λ i e' b q. h (suc i) e' (omega arith) q) j k
      ∙ define_other m t e g o n p (h 0 e (omega arith) f.1) j k
