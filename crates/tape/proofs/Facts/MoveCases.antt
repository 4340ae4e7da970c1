-- A fresh tape, writes, moves and growth, one fact for each way through the code. Assumes nothing.
use Rattle.std.specs.Prelude.{◌≡◌, refl, Bool, true, false, List, ℕ, ◌+◌, ◌-◌, ◌≤◌, ◌<◌, min, max, eqb, leb, length, set}
use Rattle.std.proofs.Common.{sym, ap, ◌∙◌, length-set}
use native.Mathlib.Omega.{arith}
use borrow.Author.Tests.{lt-ltb, le-ltb, leb-true, eqb-true, eqb-false, ne_eqb}
use Rattle.notation.specs.Choice.{pick}
use Rattle.notation.proofs.Facts.Tests.{clash}
use Rattle.symbol.specs.declared.Dir.{Dir}
use Rattle.symbol.specs.declared.Dir.TheVariants.{L, R, N}
use Rattle.tape.specs.declared.Tape.{Tape}
use Rattle.tape_cells.specs.Growth.{extra}
use Rattle.tape_cells.proofs.Facts.Growth.{extra_most, extra-within}
use Rattle.tape.specs.Model.Moves.{Held, held, fresh_tape, fresh_cells, fresh_of, moved_up, blanked, leaves, room_for, grown_left, grown_right, grown_by, grow_of, shift_of, move_of, act_of}
use Rattle.tape.specs.Fits.{TapeOk}

-- ---- a fresh tape

pub fresh-held : (w c c₁ : List ℕ) → c₁ ≡ fresh_cells w c → held (fresh_tape (length w)) c₁ ≡ fresh_of w c
unfolding fresh_of
fresh-held w c c₁ e = ap (held (fresh_tape (length w))) e

-- ---- whether a move leaves the cells

module _ (t : Tape) (d : Dir) where
  pub leaves_left : d ≡ L → eqb t.head 0 ≡ leaves t d
  unfolding leaves
  leaves_left e = rw e

  pub leaves_right : d ≡ R → eqb (t.head + 1) t.len ≡ leaves t d
  unfolding leaves
  leaves_right e = rw e

  pub leaves_none : d ≡ N → false ≡ leaves t d
  unfolding leaves
  leaves_none e = rw e

  pub not_left : leaves t d ≡ false → d ≡ L → 1 ≤ t.head
  unfolding leaves
  not_left h e =
      let z : t.head ≡ 0 → ⊥ = eqb-false t.head 0 (rw e at h) in
      omega arith

-- ---- room

module _ (t : Tape) (cap : ℕ) (d : Dir) (b : Bool) (is : b ≡ leaves t d) where
  pub room_asked : (n : ℕ) → b ≡ true → n ≡ extra t.len cap → leb 1 n ≡ room_for t cap d
  unfolding room_for pick
  room_asked n z e = simp (← is, z, e)

  pub room_given : b ≡ false → true ≡ room_for t cap d
  unfolding room_for pick
  room_given z = simp (← is, z)

  -- where a move leaves the cells and has room, the growth adds at least one cell
  pub room_says : b ≡ true → room_for t cap d ≡ true → 1 ≤ extra t.len cap
  unfolding room_for pick
  room_says z r = leb-true 1 (extra t.len cap) (simp (← is, z) at r)

-- ---- growth and the head's move

pub grow_fits : (len cap n : ℕ) → n ≡ extra len cap → len ≤ cap → len + n ≤ cap
grow_fits len cap n e h = omega (arith, extra-within len cap h)

module _ (t : Tape) (c : List ℕ) (d : Dir) (n : ℕ) (is : n ≡ extra t.len (length c)) where
  pub grow_left : (c₁ : List ℕ) → d ≡ L → c₁ ≡ blanked 0 n (moved_up n t.len c) → held (grown_left t n) c₁ ≡ grow_of (held t c) d
  unfolding grown_by
  grow_left c₁ e p = rw (e, p, is)

  pub grow_right : (c₁ : List ℕ) → d ≡ R → c₁ ≡ blanked t.len (t.len + n) c → held (grown_right t n) c₁ ≡ grow_of (held t c) d
  unfolding grown_by
  grow_right c₁ e p = rw (e, p, is)

  pub grow_none : d ≡ N → held t c ≡ grow_of (held t c) d
  unfolding grown_by
  grow_none e = rw e

module _ (t : Tape) (d : Dir) where
  pub shift_left : (low : ℕ) → d ≡ L → low ≡ min t.lowest (t.head - 1)
      → ◌≡◌ {A = Tape} (record { len = t.len; origin = t.origin; head = t.head - 1; lowest = low; highest = t.highest }) (shift_of t d)
  unfolding shift_of
  shift_left low e p = rw (e, p)

  pub shift_right : (high : ℕ) → d ≡ R → high ≡ max t.highest (t.head + 1)
      → ◌≡◌ {A = Tape} (record { len = t.len; origin = t.origin; head = t.head + 1; lowest = t.lowest; highest = high }) (shift_of t d)
  unfolding shift_of
  shift_right high e p = rw (e, p)

  pub shift_none : d ≡ N → t ≡ shift_of t d
  unfolding shift_of
  shift_none e = rw e

-- ---- after a growth by at least one cell the head's move stays inside the cells

module _ (n : ℕ) (h : Held) where
  pub grown_stays : (d : Dir) → leaves h.tape d ≡ true → 1 ≤ n → leaves (grown_by n h d).tape d ≡ false
  unfolding grown_by leaves
  grown_stays L z p = ne_eqb (h.tape.head + n) 0 (λ e. omega arith)
  grown_stays R z p =
      let e : h.tape.head + 1 ≡ h.tape.len = eqb-true (h.tape.head + 1) h.tape.len z in
      ne_eqb (h.tape.head + 1) (h.tape.len + n) (λ q. omega arith)
  grown_stays N z p = absurd (clash z refl)

  grown_head : (d : Dir) → (grown_by n h d).tape.head ≤ h.tape.head + n
  unfolding grown_by
  grown_head L = omega arith
  grown_head R = omega arith
  grown_head N = omega arith

pub grown_inside : (t g : Tape) (c c₁ c₂ : List ℕ) (w : ℕ) (d : Dir) (b : Bool) → held g c₂ ≡ grow_of (held t c₁) d → c₁ ≡ set c t.head w
    → b ≡ leaves t d → b ≡ true → room_for t (length c) d ≡ true → TapeOk t c → (g.head ≤ 4294967296) × (leaves g d ≡ false)
grown_inside t g c c₁ c₂ w d b q p is z r ok =
    let more : ℕ = extra t.len (length c₁) in
    let m : g.head ≡ (grow_of (held t c₁) d).tape.head = ap (λ (x : Held). x.tape.head) q in (
      omega (arith, grown_head more (held t c₁) d, extra_most t.len (length c₁)),
      ap (λ (x : Held). leaves x.tape d) q ∙ grown_stays more (held t c₁) d (sym is ∙ z) (room_says t (length c₁) d b is z (rw (p, length-set) r)),
    )

-- ---- the result of `act`

module _ (t : Tape) (c : List ℕ) (w : ℕ) (d : Dir) where
  pub act_none : t.len ≤ t.head → held t c ≡ act_of (held t c) w d
  unfolding act_of pick
  act_none h = simp (le-ltb _ _ h)

  module _ (r : Tape) (c₁ : List ℕ) (b : Bool) (there : t.head < t.len) (wrote : c₁ ≡ set c t.head w) (is : b ≡ leaves t d) where
    pub act_inside : b ≡ false → r ≡ shift_of t d → held r c₁ ≡ act_of (held t c) w d
    unfolding act_of move_of pick
    act_inside z e = simp (lt-ltb _ _ there, ← is, z, e, wrote)

    pub act_grown : (g : Tape) (c₂ : List ℕ) → b ≡ true → held g c₂ ≡ grow_of (held t c₁) d → r ≡ shift_of g d → held r c₂ ≡ act_of (held t c) w d
    unfolding act_of move_of pick
    act_grown g c₂ z q e = simp (lt-ltb _ _ there, ← is, z, e, ← wrote, ← q)
