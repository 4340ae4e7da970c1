-- The ranges of the numbers in a form that was read. Assumes nothing.
use Rattle.std.specs.Prelude.{ℕ, ◌*◌, ◌≤◌, ◌<◌, ◌≡◌, refl, true, List, eqb, ltb, length, None, Option, Some}
use Rattle.std.proofs.Common.{arith, ltb-true, leb-true, eqb-true}
use Rattle.std.proofs.Math.Arith.{digits_lt}
use Rattle.notation.proofs.Facts.Tests.{both_split}
use Rattle.machine.specs.declared.Machine.{Machine}
use Rattle.listing_text.specs.Pieces.{fields, field}
use Rattle.listing_text.specs.Numbers.{number, below}
use Rattle.listing_text.proofs.Facts.Chain.{no_value, pick_inv, num_inv}
use Rattle.listing_lines.specs.declared.Rule.{Rule}
use Rattle.listing_lines.specs.Forms.{on_some, machine_ok, machine_line, entry_line, number_in}
use Rattle.listing_lines.specs.Model.{Small, RuleOk}

pub no_some : {A : Type 0} {a : A} → None ≡ Some a → ⊥
no_some p = let z : ◌≡◌ {A = ℕ} 0 1 = cc in omega arith

pub below_lt : (top : ℕ) (f : List ℕ) (v : ℕ) → below top f ≡ Some v → v < top
unfolding below
below_lt top f v p =
    let i = num_inv (number f) _ no_value p in
    let q = pick_inv (ltb i.0 top) (Some i.0) no_value i.2 in
    let e : i.0 ≡ v = cc in
    rw (← e) (ltb-true i.0 top q.0)

-- the converse of `on_some`: from its result to its parts
pub some_inv : {A B : Type 0} {o x : A} (n : Option B) (go : B → A) → (o ≡ x → ⊥) → on_some n o go ≡ x → (v : B) × (n ≡ Some v) × (go v ≡ x)
unfolding on_some
some_inv (Some v) go h p = (v, refl, p)
some_inv None go h p = absurd (h p)

pub rule_ok : (m : Machine) (l : List ℕ) (e : Rule) → entry_line m l ≡ Some e → RuleOk m e
unfolding entry_line
rule_ok m l e p =
    let i0 = num_inv _ _ no_some (pick_inv (eqb (length (fields l)) 5) _ no_some p).1 in
    let i1 = num_inv _ _ no_some i0.2 in
    let i2 = num_inv _ _ no_some i1.2 in
    let i3 = some_inv _ _ no_some i2.2 in
    let i4 = num_inv _ _ no_some i3.2 in
    let x0 : i0.0 ≡ e.state = cc in
    let x1 : i1.0 ≡ e.read = cc in
    let x2 : i2.0 ≡ e.write = cc in
    let x4 : i4.0 ≡ e.next = cc in
    record {
      state_ok = rw (← x0) (below_lt m.states (field l 0) i0.0 i0.1);
      read_ok = rw (← x1) (below_lt m.symbols (field l 1) i1.0 i1.1);
      write_ok = rw (← x2) (below_lt m.symbols (field l 2) i2.0 i2.1);
      next_ok = rw (← x4) (below_lt m.states (field l 4) i4.0 i4.1);
    }

-- ---- the machine of line 2

-- a machine within the table check's ranges, with one tape and at most 512 entries
pub record Good (m : Machine) : Type 0 where
  pub one : m.tapes ≡ 1
  pub some_symbols : 1 ≤ m.symbols
  pub few_symbols : m.symbols ≤ 256
  pub some_states : 1 ≤ m.states
  pub few_states : m.states ≤ 65536
  pub start_in : m.start < m.states
  pub few : m.states * m.symbols ≤ 512

good_of : (m : Machine) → machine_ok m.tapes m.symbols m.states m.start ≡ true → Good m
unfolding machine_ok
good_of m e =
    let p1 = both_split e in
    let p2 = both_split p1.1 in
    let p3 = both_split p2.1 in
    let p4 = both_split p3.1 in
    let p5 = both_split p4.1 in
    let p6 = both_split p5.1 in
    record {
      one = eqb-true m.tapes 1 p1.0;
      some_symbols = leb-true 1 m.symbols p2.0;
      few_symbols = leb-true m.symbols 256 p3.0;
      some_states = leb-true 1 m.states p4.0;
      few_states = leb-true m.states 65536 p5.0;
      start_in = ltb-true m.start m.states p6.0;
      few = leb-true (m.states * m.symbols) 512 p6.1;
    }

pub machine_good : (l : List ℕ) (m : Machine) → machine_line l ≡ Some m → Good m
unfolding machine_line
machine_good l m p =
    let i0 = num_inv _ _ no_some (pick_inv (eqb (length (fields l)) 4) _ no_some p).1 in
    let i1 = num_inv _ _ no_some i0.2 in
    let i2 = num_inv _ _ no_some i1.2 in
    let i3 = num_inv _ _ no_some i2.2 in
    let q = pick_inv (machine_ok i0.0 i1.0 i2.0 i3.0) _ no_some i3.2 in
    let x : record { tapes = i0.0; symbols = i1.0; states = i2.0; start = i3.0 } ≡ m = cc in
    rw (← x) (good_of (record { tapes = i0.0; symbols = i1.0; states = i2.0; start = i3.0 }) q.0)

pub good_small : {m : Machine} → Good m → Small m
good_small g = record { few_symbols = g.few_symbols; few_states = g.few_states; few = g.few }

pub number_ok : (m : Machine) (e : Rule) → Small m → RuleOk m e → number_in m e < 512
number_ok m e s o =
    let h : number_in m e < m.states * m.symbols = digits_lt o.state_ok o.read_ok in
    omega arith
