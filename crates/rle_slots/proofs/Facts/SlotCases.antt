-- The code of the slots: its loops, what its calls require, and one fact for each return. Assumes nothing.
use Rattle.std.specs.Prelude.{◌≡◌, refl, Bool, true, false, ℕ, ◌+◌, ◌-◌, ◌*◌, ◌/◌, ◌≤◌, ◌<◌, eqb, length, take, drop, get_or, set, None, Option, Some}
use Rattle.std.proofs.Math.Path.{sym, ap}
use Rattle.std.proofs.Common.{◌∙◌, add-one, arith, length-take, length-drop}
use mathlib.Core.List.{List}
use borrow.Author.Tests.{eq-eqb, ne_eqb}
use Rattle.std.proofs.Math.Seq.{paste}
use Rattle.notation.specs.Choice.{pick, both}
use Rattle.notation.proofs.Facts.Tests.{both_split, by_test, pick_true, pick_false}
use Rattle.machine.specs.declared.Machine.{Machine}
use Rattle.store_bytes.specs.Bytes.{get64, put16, put64}
use Rattle.std.proofs.lemmas.List.Edits.{paste_more}
use Rattle.rle_stack.specs.Model.{places_of}
use Rattle.rle.specs.declared.ChainSim.{ChainSim}
use Rattle.rle.specs.Model.Engine.{Conf, conf}
use Rattle.rle.specs.Fits.{chain_fits}
use Rattle.rle_refines.proofs.Facts.Fits.{fits_holds}
use Rattle.rle_slots.specs.Model.Slots.{bytes_for, right_symbols, left_lengths, right_lengths, put_numbers, put_value, put_symbols, put_lengths, packed, part, numbers_in, value_in, held_in, Lent, lent, live_in, holds_one, unpacked}
use Rattle.rle_slots.specs.Model.Restored.{found_in, restored, restored_by, restored_of}
use Rattle.rle_slots.proofs.Facts.Numbers.{length_numbers, number_in_lem, length_in, length_part}

-- ---- lists of numbers

pub number_here : (b : List ℕ) (i x : ℕ) → x ≡ get64 b (8 * i) → 8 * i + 8 ≤ length b → x ≡ get_or (numbers_in b) i 0
number_here b i x q h = q ∙ number_in_lem b i h

pub numbers_start : (b : List ℕ) (at : ℕ) (xs : List ℕ) → b ≡ put_numbers b at xs 0
unfolding put_numbers
numbers_start b at xs = refl

pub numbers_turn : (b₀ b b' : List ℕ) (at : ℕ) (xs : List ℕ) (i : ℕ) → b ≡ put_numbers b₀ at xs i → b' ≡ put64 b (at + 8 * i) (get_or xs i 0) → b' ≡ put_numbers b₀ at xs (i + 1)
unfolding put_numbers
numbers_turn b₀ b b' at xs i p q = rw add-one (rw p at q)

pub take_turn : (d₀ d b : List ℕ) (n i x : ℕ) → n ≤ length d₀ → 8 * n ≤ length b → i < n → d ≡ paste d₀ 0 (numbers_in b) i → x ≡ get_or (numbers_in b) i 0
    → set d i x ≡ paste d₀ 0 (numbers_in b) (i + 1)
take_turn d₀ d b n i x h k l p q =
    let e : i ≡ 0 + i = omega arith in
    (λ j. set (p j) (e j) (q j)) ∙ paste_more d₀ 0 (numbers_in b) i 0 (omega (arith, h, l)) (omega (arith, length_numbers b 0 (length b / 8)))

-- ---- a side of a slot

-- the part of a slice that the code lends
pub part-lent : (b : List ℕ) (at n : ℕ) → take (at + n - at) (drop at b) ≡ part b at n
part-lent b at n = let e : at + n - at ≡ n = omega arith in ap (λ (k : ℕ). take k (drop at b)) e

pub lent_long : (b : List ℕ) (at n : ℕ) → at + n ≤ length b → n ≤ length (take (at + n - at) (drop at b))
lent_long b at n h = omega (arith, length-take (at + n - at) (drop at b), length-drop at b)

-- ---- the parts of a slot have as many places as the slot is made for

module _ (b : List ℕ) (l r : ℕ) (long : length b ≡ bytes_for l r) where
  pub lefts_are : l ≡ places_of (part b 128 l) (numbers_in (part b (left_lengths l r) (8 * l)))
  lefts_are =
      omega (arith, length_part b 128 l (omega arith), length_in (part b (left_lengths l r) (8 * l)) l (length_part b (left_lengths l r) (8 * l) (omega arith)))

  pub rights_are : r ≡ places_of (part b (right_symbols l) r) (numbers_in (part b (right_lengths l r) (8 * r)))
  rights_are =
      omega (arith, length_part b (right_symbols l) r (omega arith), length_in (part b (right_lengths l r) (8 * r)) r (length_part b (right_lengths l r) (8 * r) (omega arith)))

-- ---- what a slot holds

module _ (m : Machine) (l r : ℕ) (b : List ℕ) (step : ℕ) (v : ChainSim) (vp : v ≡ value_in b) where
  step_is : eqb v.steps step ≡ eqb (value_in b).steps step
  step_is = ap (λ (x : ChainSim). eqb x.steps step) vp

  pub peek_other : (v.steps ≡ step → ⊥) → None ≡ found_in m l r b step
  unfolding found_in holds_one pick both
  peek_other h = rw (sym step_is ∙ ne_eqb v.steps step h)

  module _ (e : v.steps ≡ step) (x : Bool)
      (xp : x ≡ chain_fits m (conf v (part b 128 l) (numbers_in (part b (left_lengths l r) (8 * l))) (part b (right_symbols l) r) (numbers_in (part b (right_lengths l r) (8 * r))))) where
    fits_is : x ≡ chain_fits m (held_in l r b)
    fits_is = xp ∙ (λ i. chain_fits m (conf (vp i) (part b 128 l) (numbers_in (part b (left_lengths l r) (8 * l))) (part b (right_symbols l) r) (numbers_in (part b (right_lengths l r) (8 * r)))))

    pub peek_misfit : x ≡ false → None ≡ found_in m l r b step
    unfolding found_in holds_one pick both
    peek_misfit z = rw (sym step_is ∙ eq-eqb v.steps step e, sym fits_is ∙ z)

    pub peek_holds : x ≡ true → Some v ≡ found_in m l r b step
    unfolding found_in holds_one pick both
    peek_holds z = rw (sym step_is ∙ eq-eqb v.steps step e, sym fits_is ∙ z) (ap Some vp)

-- ---- writing an engine into a slot

pub value_written : (v : ChainSim) (b b0 b1 b2 b3 b4 b5 b6 b7 b8 : List ℕ) → b0 ≡ put16 b 0 v.state.0 → b1 ≡ set b0 2 v.tape.cur
    → b2 ≡ put64 b1 8 v.steps → b3 ≡ put64 b2 16 v.macros → b4 ≡ put64 b3 24 v.tape.left → b5 ≡ put64 b4 32 v.tape.right
    → b6 ≡ put64 b5 40 v.tape.head → b7 ≡ put64 b6 48 v.lowest → b8 ≡ put64 b7 56 v.highest → b8 ≡ put_value v b
unfolding put_value put_numbers
value_written v b b0 b1 b2 b3 b4 b5 b6 b7 b8 p0 p1 p2 p3 p4 p5 p6 p7 p8 =
    p8 ∙ ap (λ (x : List ℕ). put64 x 56 v.highest) (p7
    ∙ ap (λ (x : List ℕ). put64 x 48 v.lowest) (p6
    ∙ ap (λ (x : List ℕ). put64 x 40 v.tape.head) (p5
    ∙ ap (λ (x : List ℕ). put64 x 32 v.tape.right) (p4
    ∙ ap (λ (x : List ℕ). put64 x 24 v.tape.left) (p3
    ∙ ap (λ (x : List ℕ). put64 x 16 v.macros) (p2
    ∙ ap (λ (x : List ℕ). put64 x 8 v.steps) (p1 ∙ ap (λ (x : List ℕ). set x 2 v.tape.cur) p0)))))))

module _ (v : ChainSim) (ls ll rs rl : List ℕ) (lp rp : ℕ) (lq : lp ≡ places_of ls ll) (rq : rp ≡ places_of rs rl) where
  pub saved : (b b1 b2 b3 b4 b5 : List ℕ) → b1 ≡ put_value v b → b2 ≡ paste b1 128 ls v.tape.left → b3 ≡ paste b2 (128 + lp) rs v.tape.right
      → b4 ≡ put_numbers b3 (128 + lp + rp) ll v.tape.left → b5 ≡ put_numbers b4 (128 + 9 * lp + rp) rl v.tape.right → b5 ≡ packed (conf v ls ll rs rl) b
  unfolding packed put_symbols put_lengths
  saved b b1 b2 b3 b4 b5 p1 p2 p3 p4 p5 =
      p5 ∙ ap (λ (x : List ℕ). put_numbers x (128 + 9 * lp + rp) rl v.tape.right) p4
      ∙ ap (λ (x : List ℕ). put_numbers (put_numbers x (128 + lp + rp) ll v.tape.left) (128 + 9 * lp + rp) rl v.tape.right) (p3 ∙ ap (λ (x : List ℕ). paste x (128 + lp) rs v.tape.right) (p2 ∙ ap (λ (x : List ℕ). paste x 128 ls v.tape.left) p1))
      ∙ (λ i. put_numbers (put_numbers (paste (paste (put_value v b) 128 ls v.tape.left) (128 + lq i) rs v.tape.right) (128 + lq i + rq i) ll v.tape.left) (128 + 9 * lq i + rq i) rl v.tape.right)

-- ---- reading a slot into the places

holds_is : (v w : ChainSim) → Some v ≡ Some w → w ≡ v
holds_is v w q = cc

nothing_holds : (v : ChainSim) → None ≡ Some v → ⊥
nothing_holds v q = let y : ◌≡◌ {A = ℕ} 0 1 = cc in omega arith

module _ (m : Machine) (b : List ℕ) (step lp rp : ℕ) (f : Option ChainSim) (fp : f ≡ found_in m lp rp b step) where
  none_held : f ≡ None → holds_one m lp rp b step ≡ false
  unfolding found_in
  none_held e = by_test (holds_one m lp rp b step)
      (λ h. absurd (nothing_holds (value_in b) (sym e ∙ fp ∙ pick_true (holds_one m lp rp b step) (Some (value_in b)) None h)))
      (λ h. h)

  module _ (v : ChainSim) (e : f ≡ Some v) where
    one_held : (holds_one m lp rp b step ≡ true) × (value_in b ≡ v)
    unfolding found_in
    one_held = by_test (holds_one m lp rp b step)
        (λ h. (h, holds_is v (value_in b) (sym e ∙ fp ∙ pick_true (holds_one m lp rp b step) (Some (value_in b)) None h)))
        (λ h. absurd (nothing_holds v (sym (pick_false (holds_one m lp rp b step) (Some (value_in b)) None h) ∙ sym fp ∙ e)))

    held_fits : holds_one m lp rp b step ≡ true → chain_fits m (held_in lp rp b) ≡ true
    unfolding holds_one
    held_fits h = (both_split h).1

    pub restore_left : v.tape.left ≤ lp
    restore_left =
        let o = one_held in
        omega (arith, (fits_holds m (held_in lp rp b) (held_fits o.0)).lefts.live, length-take lp (drop 128 b), ap (λ (x : ChainSim). x.tape.left) o.1)

    pub restore_right : v.tape.right ≤ rp
    restore_right =
        let o = one_held in
        omega (arith, (fits_holds m (held_in lp rp b) (held_fits o.0)).rights.live, length-take rp (drop (right_symbols lp) b), ap (λ (x : ChainSim). x.tape.right) o.1)

module _ (m : Machine) (b : List ℕ) (step : ℕ) (ls ll rs rl : List ℕ) (lp rp : ℕ) (lq : lp ≡ places_of ls ll) (rq : rp ≡ places_of rs rl)
    (f : Option ChainSim) (fp : f ≡ found_in m lp rp b step) where
  abbrev t : Lent
  t = lent ls ll rs rl

  -- what is read with l and r places
  abbrev with-places : (l r : ℕ) → Option Conf
  with-places l r = pick (holds_one m l r b step) (Some (live_in (held_in l r b) t)) None

  unpacked_is : with-places lp rp ≡ unpacked m b step t
  unfolding unpacked
  unpacked_is i = with-places (lq i) (rq i)

  pub restore_none : f ≡ None → restored None t ≡ restored_of m b step t
  restore_none e =
      sym (ap (λ (x : Option Conf). restored_by x t) (sym unpacked_is ∙ pick_false (holds_one m lp rp b step) (Some (live_in (held_in lp rp b) t)) None (none_held m b step lp rp f fp e)))

  pub restore_some : (v : ChainSim) → f ≡ Some v → (ls' ll' rs' rl' : List ℕ)
      → (ls' ≡ paste ls 0 (part b 128 lp) v.tape.left) × (ll' ≡ paste ll 0 (numbers_in (part b (128 + lp + rp) (8 * lp))) v.tape.left)
      → (rs' ≡ paste rs 0 (part b (128 + lp) rp) v.tape.right) × (rl' ≡ paste rl 0 (numbers_in (part b (128 + 9 * lp + rp) (8 * rp))) v.tape.right)
      → restored (Some v) (lent ls' ll' rs' rl') ≡ restored_of m b step t
  restore_some v e ls' ll' rs' rl' p q =
      let o = one_held m b step lp rp f fp v e in
      (λ i. restored (Some v) (lent (p.0 i) (p.1 i) (q.0 i) (q.1 i)))
      ∙ (λ i. restored_by (Some (live_in (conf (sym o.1 i) (part b 128 lp) (numbers_in (part b (left_lengths lp rp) (8 * lp))) (part b (right_symbols lp) rp) (numbers_in (part b (right_lengths lp rp) (8 * rp)))) t)) t)
      ∙ sym (ap (λ (x : Option Conf). restored_by x t) (sym unpacked_is ∙ pick_true (holds_one m lp rp b step) (Some (live_in (held_in lp rp b) t)) None o.0))
