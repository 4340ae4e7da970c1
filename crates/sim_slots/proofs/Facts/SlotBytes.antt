-- One tape in a slot: reading gives what was written, and bytes apart from it are unchanged. Assumes nothing.
use Rattle.std.specs.Prelude.{◌≡◌, Bool, true, List, ℕ, ◌+◌, ◌-◌, ◌≤◌, ◌<◌, min, take, drop, get_or}
use Rattle.std.proofs.Math.Path.{refl, ap}
use Rattle.std.proofs.Common.{sym, ◌∙◌, subst, arith, length-take, length-drop, ext_get_or, get_or-take, get_or-drop, length-take-le, take-take}
use Rattle.std.proofs.Math.ListN.{length}
use Rattle.std.proofs.Math.Seq.{paste, length-paste}
use Rattle.notation.proofs.Facts.Tests.{pick_cases, pick_true}
use Rattle.tape.specs.declared.Tape.{Tape}
use Rattle.tape.specs.Model.Moves.{Held}
use Rattle.tape.specs.Fits.{tape_fits, TapeFits}
use Rattle.tape.proofs.Facts.Fits.{fits_says, fits_holds}
use Rattle.store_bytes.specs.Bytes.{get32, put32, Agree, Apart}
use Rattle.store_bytes.proofs.Facts.Bytes.{agree_then, length-put32, put32_agree, get32_agree, get_put32, paste_agree}
use Rattle.store_bytes.proofs.Facts.Slots.{paste_same}
use Rattle.sim_slots.specs.Model.Slots.{put_tape, put_held, put_if, tape_at, part_of}

-- ---- bytes that agree

pub tape_agree : (s t : List ℕ) (p : ℕ) → Agree s t p (p + 20) → tape_at s p ≡ tape_at t p
unfolding tape_at
tape_agree s t p a =
    let e0 = get32_agree s t p (λ j l h. a j l (omega arith)) in
    let e1 = get32_agree s t (p + 4) (λ j l h. a j (omega arith) (omega arith)) in
    let e2 = get32_agree s t (p + 8) (λ j l h. a j (omega arith) (omega arith)) in
    let e3 = get32_agree s t (p + 12) (λ j l h. a j (omega arith) (omega arith)) in
    let e4 = get32_agree s t (p + 16) (λ j l h. a j (omega arith) (omega arith)) in
    λ i. record { len = e0 i; origin = e1 i; head = e2 i; lowest = e3 i; highest = e4 i }

pub part_agree : (s t : List ℕ) (at n : ℕ) → length s ≡ length t → Agree s t at (at + n) → part_of at n s ≡ part_of at n t
part_agree s t at n e a =
    ext_get_or 0 (part_of at n s) (part_of at n t)
    (length-take n (drop at s) ∙ ap (min n) (length-drop at s ∙ ap (λ k. k - at) e ∙ sym (length-drop at t)) ∙ sym (length-take n (drop at t)))
    (λ i l.
    let h : i < n = omega (arith, length-take n (drop at s)) in
    get_or-take n (drop at s) i 0 h ∙ get_or-drop at s i 0 ∙ a (at + i) (omega arith) (omega arith)
    ∙ sym (get_or-take n (drop at t) i 0 h ∙ get_or-drop at t i 0))

-- ---- the five numbers

module _ (t : Tape) (p : ℕ) (b : List ℕ) where
  b1 : List ℕ
  b1 = put32 b p t.len

  b2 : List ℕ
  b2 = put32 b1 (p + 4) t.origin

  b3 : List ℕ
  b3 = put32 b2 (p + 8) t.head

  b4 : List ℕ
  b4 = put32 b3 (p + 12) t.lowest

  b5 : List ℕ
  b5 = put32 b4 (p + 16) t.highest

  numbers_are : put_tape t p b ≡ b5
  unfolding put_tape b1 b2 b3 b4 b5
  numbers_are = refl

  long1 : length b1 ≡ length b
  unfolding b1
  long1 = length-put32 b p t.len

  long2 : length b2 ≡ length b
  unfolding b2
  long2 = length-put32 b1 (p + 4) t.origin ∙ long1

  long3 : length b3 ≡ length b
  unfolding b3
  long3 = length-put32 b2 (p + 8) t.head ∙ long2

  long4 : length b4 ≡ length b
  unfolding b4
  long4 = length-put32 b3 (p + 12) t.lowest ∙ long3

  pub numbers_length : length (put_tape t p b) ≡ length b
  unfolding b5
  numbers_length = ap length numbers_are ∙ length-put32 b4 (p + 16) t.highest ∙ long4

  -- writing a number leaves the bytes apart from it unchanged
  keep1 : (lo hi : ℕ) → Apart p 4 lo hi → Agree b1 b lo hi
  unfolding b1
  keep1 = put32_agree b p t.len

  keep2 : (lo hi : ℕ) → Apart (p + 4) 4 lo hi → Agree b2 b1 lo hi
  unfolding b2
  keep2 = put32_agree b1 (p + 4) t.origin

  keep3 : (lo hi : ℕ) → Apart (p + 8) 4 lo hi → Agree b3 b2 lo hi
  unfolding b3
  keep3 = put32_agree b2 (p + 8) t.head

  keep4 : (lo hi : ℕ) → Apart (p + 12) 4 lo hi → Agree b4 b3 lo hi
  unfolding b4
  keep4 = put32_agree b3 (p + 12) t.lowest

  keep5 : (lo hi : ℕ) → Apart (p + 16) 4 lo hi → Agree b5 b4 lo hi
  unfolding b5
  keep5 = put32_agree b4 (p + 16) t.highest

  pub numbers_agree : (lo hi : ℕ) → Apart p 20 lo hi → Agree (put_tape t p b) b lo hi
  numbers_agree lo hi a =
      subst (λ l. Agree l b lo hi) (sym numbers_are)
      (agree_then b5 b4 b lo hi (keep5 lo hi (λ j l h k. omega (arith, a j l h (omega arith))))
      (agree_then b4 b3 b lo hi (keep4 lo hi (λ j l h k. omega (arith, a j l h (omega arith))))
      (agree_then b3 b2 b lo hi (keep3 lo hi (λ j l h k. omega (arith, a j l h (omega arith))))
      (agree_then b2 b1 b lo hi (keep2 lo hi (λ j l h k. omega (arith, a j l h (omega arith))))
      (keep1 lo hi (λ j l h k. omega (arith, a j l h k)))))))

  module _ (room : p + 20 ≤ length b) where
    at_highest : get32 b5 (p + 16) ≡ t.highest
    unfolding b5
    at_highest = get_put32 b4 (p + 16) t.highest (omega (arith, long4))

    at_lowest : get32 b5 (p + 12) ≡ t.lowest
    unfolding b4
    at_lowest = get32_agree b5 b4 (p + 12) (keep5 (p + 12) (p + 12 + 4) (λ j l h k. omega arith)) ∙ get_put32 b3 (p + 12) t.lowest (omega (arith, long3))

    at_head : get32 b5 (p + 8) ≡ t.head
    unfolding b3
    at_head =
        get32_agree b5 b4 (p + 8) (keep5 (p + 8) (p + 8 + 4) (λ j l h k. omega arith))
        ∙ get32_agree b4 b3 (p + 8) (keep4 (p + 8) (p + 8 + 4) (λ j l h k. omega arith))
        ∙ get_put32 b2 (p + 8) t.head (omega (arith, long2))

    at_origin : get32 b5 (p + 4) ≡ t.origin
    unfolding b2
    at_origin =
        get32_agree b5 b4 (p + 4) (keep5 (p + 4) (p + 4 + 4) (λ j l h k. omega arith))
        ∙ get32_agree b4 b3 (p + 4) (keep4 (p + 4) (p + 4 + 4) (λ j l h k. omega arith))
        ∙ get32_agree b3 b2 (p + 4) (keep3 (p + 4) (p + 4 + 4) (λ j l h k. omega arith))
        ∙ get_put32 b1 (p + 4) t.origin (omega (arith, long1))

    at_len : get32 b5 p ≡ t.len
    unfolding b1
    at_len =
        get32_agree b5 b4 p (keep5 p (p + 4) (λ j l h k. omega arith))
        ∙ get32_agree b4 b3 p (keep4 p (p + 4) (λ j l h k. omega arith))
        ∙ get32_agree b3 b2 p (keep3 p (p + 4) (λ j l h k. omega arith))
        ∙ get32_agree b2 b1 p (keep2 p (p + 4) (λ j l h k. omega arith))
        ∙ get_put32 b p t.len (omega arith)

    pub numbers_read : tape_at (put_tape t p b) p ≡ t
    unfolding tape_at
    numbers_read =
        ap (λ l. tape_at l p) numbers_are
        ∙ (λ i. record { len = at_len i; origin = at_origin i; head = at_head i; lowest = at_lowest i; highest = at_highest i })

-- ---- a tape, its numbers before its cells

pub record Room (h : Held) (p at : ℕ) (b : List ℕ) : Type 0 where
  pub head_room : p + 20 ≤ at
  pub cells_room : at + h.tape.len ≤ length b
  pub len_in : h.tape.len ≤ length h.cells

module _ (h : Held) (p at : ℕ) (b : List ℕ) (r : Room h p at b) where
  pub held_length : length (put_held h p at b) ≡ length b
  unfolding put_held
  held_length =
      length-paste (put_tape h.tape p b) at h.cells h.tape.len (omega (arith, numbers_length h.tape p b, r.cells_room)) r.len_in
      ∙ numbers_length h.tape p b

  -- below the cells, only the numbers are written
  below_cells : (lo hi : ℕ) → hi ≤ at → Agree (put_held h p at b) (put_tape h.tape p b) lo hi
  unfolding put_held
  below_cells lo hi l = paste_agree (put_tape h.tape p b) at h.cells h.tape.len lo hi (omega (arith, numbers_length h.tape p b, r.cells_room)) l

  pub held_agree : (lo hi : ℕ) → Apart p 20 lo hi → hi ≤ at → Agree (put_held h p at b) b lo hi
  held_agree lo hi a l = agree_then (put_held h p at b) (put_tape h.tape p b) b lo hi (below_cells lo hi l) (numbers_agree h.tape p b lo hi a)

  pub held_numbers : tape_at (put_held h p at b) p ≡ h.tape
  held_numbers =
      tape_agree (put_held h p at b) (put_tape h.tape p b) p (below_cells p (p + 20) r.head_room)
      ∙ numbers_read h.tape p b (omega (arith, r.head_room, r.cells_room))

  pub held_cells : part_of at h.tape.len (put_held h p at b) ≡ take h.tape.len h.cells
  unfolding put_held
  held_cells = paste_same (put_tape h.tape p b) at h.cells h.tape.len (omega (arith, numbers_length h.tape p b, r.cells_room)) r.len_in

-- ---- the same for a tape that the machine may lack

module _ (has : Bool) (h : Held) (p at : ℕ) (b : List ℕ) (r : has ≡ true → Room h p at b) where
  pub if_length : length (put_if has h p at b) ≡ length b
  unfolding put_if
  if_length = pick_cases has (put_held h p at b) b (λ l. length l ≡ length b) (λ e. held_length h p at b (r e)) (λ e. refl)

  pub if_agree : (lo hi : ℕ) → Apart p 20 lo hi → hi ≤ at → Agree (put_if has h p at b) b lo hi
  unfolding put_if
  if_agree lo hi a l = pick_cases has (put_held h p at b) b (λ s. Agree s b lo hi) (λ e. held_agree h p at b (r e) lo hi a l) (λ e j u w. refl)

  pub if_numbers : has ≡ true → tape_at (put_if has h p at b) p ≡ h.tape
  unfolding put_if
  if_numbers e = ap (λ s. tape_at s p) (pick_true has (put_held h p at b) b e) ∙ held_numbers h p at b (r e)

  pub if_cells : has ≡ true → part_of at h.tape.len (put_if has h p at b) ≡ take h.tape.len h.cells
  unfolding put_if
  if_cells e = ap (part_of at h.tape.len) (pick_true has (put_held h p at b) b e) ∙ held_cells h p at b (r e)

-- ---- cells with the same live part fit as well

pub refits : (k : ℕ) (t : Tape) (c d : List ℕ) → tape_fits k t c ≡ true → take t.len d ≡ take t.len c → t.len ≤ length d → tape_fits k t d ≡ true
refits k t c d f e l = fits_holds k t d (go (fits_says k t c f))
  where
    go : TapeFits k t c → TapeFits k t d
    go g = record {
      least = g.least;
      most = l;
      head_in = g.head_in;
      origin_in = g.origin_in;
      low_head = g.low_head;
      head_high = g.head_high;
      high_in = g.high_in;
      symbols = λ i a. subst (λ x. x < k) (sym (sym (get_or-take t.len d i 0 a) ∙ ap (λ x. get_or x i 0) e ∙ get_or-take t.len c i 0 a)) (g.symbols i a);
    }

-- ---- a tape read back from a part of a slot into a buffer d

module _ (k : ℕ) (t : Tape) (c b d : List ℕ) (at : ℕ) (fits : tape_fits k t c ≡ true) (live : part_of at t.len b ≡ take t.len c)
    (same : length d ≡ length c) (room : at + length c ≤ length b) where
  abbrev part : List ℕ
  part = part_of at (length d) b

  len_in : t.len ≤ length c
  len_in = (fits_says k t c fits).most

  part_length : length part ≡ length d
  part_length = length-take-le (length d) (drop at b) (omega (arith, length-drop at b))

  part_live : take t.len part ≡ take t.len c
  part_live = take-take t.len (length d) (drop at b) (omega (arith, len_in)) ∙ live

  pub part_fits : tape_fits k t part ≡ true
  part_fits = refits k t c part fits part_live (omega (arith, part_length, len_in))

  pub poured_length : length (paste d 0 part t.len) ≡ length d
  poured_length = length-paste d 0 part t.len (omega (arith, len_in)) (omega (arith, part_length, len_in))

  pub poured_live : take t.len (paste d 0 part t.len) ≡ take t.len c
  poured_live = paste_same d 0 part t.len (omega (arith, len_in)) (omega (arith, part_length, len_in)) ∙ part_live

  pub poured_fits : tape_fits k t (paste d 0 part t.len) ≡ true
  poured_fits = refits k t c (paste d 0 part t.len) fits poured_live (omega (arith, poured_length, len_in))
