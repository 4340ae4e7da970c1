-- THE SLOT'S ROUND TRIP: the engine read from a slot is the engine written, in the buffers of any other of the same sizes. Assumes nothing.
use Rattle.std.specs.Prelude.{◌≡◌, refl, Bool, false, List, ℕ, ◌+◌, ◌≤◌, ltb, leb, length, take, None, Ok, Some}
use Rattle.std.proofs.Common.{sym, ◌∙◌, arith, eq-eqb}
use Rattle.std.proofs.Math.Path.{ap, subst⁻¹}
use Rattle.std.proofs.Math.Bool.{true}
use Rattle.std.proofs.Math.Seq.{paste}
use Rattle.notation.specs.Choice.{pick}
use Rattle.notation.proofs.Facts.Tests.{both_true, by_test, clash, pick_true, pick_false}
use Rattle.notation.specs.Limits.{steps_most}
use Rattle.symbol.specs.Kinds.{state_of}
use Rattle.machine.specs.declared.Machine.{Machine}
use Rattle.tape.specs.declared.Tape.{Tape}
use Rattle.tape.specs.Fits.{tape_fits}
use Rattle.sim.specs.declared.Simulator.{Simulator}
use Rattle.sim.specs.Model.Engine.{Conf}
use Rattle.sim.specs.Model.Operations.{has1, has2, sizes_fit, value_check, engine_check}
use Rattle.sim.proofs.Facts.OperationCases.{Passed, engine_says}
use Rattle.sim_slots.specs.Model.Slots.{size_if, place1, place2, slot_size, pack_of, tape_at, sim_in, part_of, part0, part1, part2, holds_one, fill_if, filled, unpack_of}
use Rattle.sim_slots.proofs.Facts.SlotBytes.{part_fits, poured_length, poured_live, poured_fits}
use Rattle.sim_slots.proofs.Facts.FitCases.{Fitted, fitted, fits_again}
use Rattle.sim_slots.proofs.Facts.Pack.{packed_length, state_read, steps_read, tape0_read, tape1_read, tape2_read, cells0_read, cells1_read, cells2_read}

-- ---- reading back

-- the buffers of t are as long as those of u
pub record SameSizes (m : Machine) (u t : Conf) : Type 0 where
  pub same0 : length t.c0 ≡ length u.c0
  pub same1 : has1 m ≡ true → length t.c1 ≡ length u.c1
  pub same2 : has2 m ≡ true → length t.c2 ≡ length u.c2

-- v is u in the buffers of t: tapes that the machine has get u's live cells; tapes that it lacks keep t's fields and buffers
pub record InBuffers (m : Machine) (s : List ℕ) (u t v : Conf) : Type 0 where
  pub state : v.sim.state ≡ u.sim.state
  pub steps : v.sim.steps ≡ u.sim.steps
  pub numbers0 : v.sim.t0 ≡ u.sim.t0
  pub numbers1 : has1 m ≡ true → v.sim.t1 ≡ u.sim.t1
  pub numbers2 : has2 m ≡ true → v.sim.t2 ≡ u.sim.t2
  pub cells0 : take u.sim.t0.len v.c0 ≡ take u.sim.t0.len u.c0
  pub cells1 : has1 m ≡ true → take u.sim.t1.len v.c1 ≡ take u.sim.t1.len u.c1
  pub cells2 : has2 m ≡ true → take u.sim.t2.len v.c2 ≡ take u.sim.t2.len u.c2
  pub length0 : length v.c0 ≡ length t.c0
  pub length1 : length v.c1 ≡ length t.c1
  pub length2 : length v.c2 ≡ length t.c2
  pub lacks1 : has1 m ≡ false → (v.sim.t1 ≡ t.sim.t1) × (v.c1 ≡ t.c1)
  pub lacks2 : has2 m ≡ false → (v.sim.t2 ≡ t.sim.t2) × (v.c2 ≡ t.c2)
  pub checked : engine_check m s v ≡ Ok tt

pub check_holds : (m : Machine) (s : List ℕ) (σ : Conf) → Passed m s σ → engine_check m s σ ≡ Ok tt
unfolding engine_check value_check pick
check_holds m s σ p = rw (p.table, p.sizes, p.fits) refl

-- a tape that the machine may lack, in the buffer d
record TapeBack (has : Bool) (k : ℕ) (t w e : Tape) (c d part : List ℕ) : Type 0 where
  is : has ≡ true → w ≡ t
  fits_part : has ≡ true → tape_fits k w part ≡ true
  fits : has ≡ true → tape_fits k w (fill_if has w part d) ≡ true
  live : has ≡ true → take t.len (fill_if has w part d) ≡ take t.len c
  size : length (fill_if has w part d) ≡ length d
  lacks : has ≡ false → (w ≡ e) × (fill_if has w part d ≡ d)

tape_back : (has : Bool) (k : ℕ) (t r e : Tape) (c b d : List ℕ) (at : ℕ) → (has ≡ true → tape_fits k t c ≡ true) → (has ≡ true → r ≡ t)
    → (has ≡ true → part_of at t.len b ≡ take t.len c) → (has ≡ true → length d ≡ length c) → at + size_if has (length d) ≤ length b
    → TapeBack has k t (pick has r e) e c d (part_of at (size_if has (length d)) b)
unfolding pick fill_if
tape_back true k t r e c b d at f is live same room =
    let q : r ≡ t = is refl in
    record {
      is = is;
      fits_part = λ z. subst⁻¹ (λ x. tape_fits k x (part_of at (length d) b) ≡ true) q (part_fits k t c b d at (f refl) (live refl) (same refl) (omega (arith, same refl)));
      fits = λ z. subst⁻¹ (λ (x : Tape). tape_fits k x (paste d 0 (part_of at (length d) b) x.len) ≡ true) q (poured_fits k t c b d at (f refl) (live refl) (same refl) (omega (arith, same refl)));
      live = λ z. subst⁻¹ (λ (x : Tape). take t.len (paste d 0 (part_of at (length d) b) x.len) ≡ take t.len c) q (poured_live k t c b d at (f refl) (live refl) (same refl) (omega (arith, same refl)));
      size = subst⁻¹ (λ (x : Tape). length (paste d 0 (part_of at (length d) b) x.len) ≡ length d) q (poured_length k t c b d at (f refl) (live refl) (same refl) (omega (arith, same refl)));
      lacks = λ z. absurd (clash refl z);
    }
tape_back false k t r e c b d at f is live same room = record {
  is = λ z. absurd (clash z refl);
  fits_part = λ z. absurd (clash z refl);
  fits = λ z. absurd (clash z refl);
  live = λ z. absurd (clash z refl);
  size = refl;
  lacks = λ z. (refl, refl);
}

size_same : (has : Bool) (a b : ℕ) → (has ≡ true → a ≡ b) → size_if has a ≡ size_if has b
size_same has a b h = by_test has (λ e. ap (size_if has) (h e)) (λ e. pick_false has a 0 e ∙ sym (pick_false has b 0 e))

module _ (m : Machine) (s : List ℕ) (u t : Conf) (old : List ℕ) (fu : Passed m s u) (ft : Passed m s t) (same : SameSizes m u t) (long : length old ≡ slot_size m u) where
  f : Fitted m u.sim u.c0 u.c1 u.c2
  f = fitted m u.sim u.c0 u.c1 u.c2 fu.fits

  abbrev slot : List ℕ
  slot = pack_of m u old

  whole : length slot ≡ slot_size m u
  whole = packed_length m u old f long

  w : Simulator
  w = sim_in m slot t.sim

  at1 : place1 (length t.c0) ≡ place1 (length u.c0)
  at1 = ap place1 same.same0

  sizes1 : size_if (has1 m) (length t.c1) ≡ size_if (has1 m) (length u.c1)
  sizes1 = size_same (has1 m) _ _ same.same1

  sizes2 : size_if (has2 m) (length t.c2) ≡ size_if (has2 m) (length u.c2)
  sizes2 = size_same (has2 m) _ _ same.same2

  at2 : place2 m (length t.c0) (length t.c1) ≡ place2 m (length u.c0) (length u.c1)
  at2 = omega (arith, same.same0, sizes1)

  back0 : TapeBack true m.symbols u.sim.t0 w.t0 t.sim.t0 u.c0 t.c0 (part0 (length t.c0) slot)
  unfolding w sim_in pick
  back0 = tape_back true m.symbols u.sim.t0 (tape_at slot 16) t.sim.t0 u.c0 slot t.c0 128 (λ e. f.fits0) (λ e. tape0_read m u old f long)
      (λ e. cells0_read m u old f long) (λ e. same.same0) (omega (arith, whole, same.same0))

  back1 : TapeBack (has1 m) m.symbols u.sim.t1 w.t1 t.sim.t1 u.c1 t.c1 (part1 m (length t.c0) (length t.c1) slot)
  unfolding w sim_in
  back1 = tape_back (has1 m) m.symbols u.sim.t1 (tape_at slot 36) t.sim.t1 u.c1 slot t.c1 (place1 (length t.c0)) f.fits1 (tape1_read m u old f long)
      (λ e. ap (λ a. part_of a u.sim.t1.len slot) at1 ∙ cells1_read m u old f long e) same.same1 (omega (arith, whole, same.same0, sizes1))

  back2 : TapeBack (has2 m) m.symbols u.sim.t2 w.t2 t.sim.t2 u.c2 t.c2 (part2 m (length t.c0) (length t.c1) (length t.c2) slot)
  unfolding w sim_in
  back2 = tape_back (has2 m) m.symbols u.sim.t2 (tape_at slot 56) t.sim.t2 u.c2 slot t.c2 (place2 m (length t.c0) (length t.c1)) f.fits2 (tape2_read m u old f long)
      (λ e. ap (λ a. part_of a u.sim.t2.len slot) at2 ∙ cells2_read m u old f long e) same.same2 (omega (arith, whole, same.same0, sizes1, sizes2))

  w_state : w.state ≡ u.sim.state
  unfolding w sim_in
  w_state = ap state_of (state_read m u old f long)

  w_steps : w.steps ≡ u.sim.steps
  unfolding w sim_in
  w_steps = steps_read m u old f long

  w_state_in : ltb w.state.0 m.states ≡ true
  w_state_in = subst⁻¹ (λ q. ltb q.0 m.states ≡ true) w_state f.state_in_holds

  w_steps_in : leb w.steps steps_most ≡ true
  w_steps_in = subst⁻¹ (λ n. leb n steps_most ≡ true) w_steps f.steps_in

  holds : holds_one m slot u.sim.steps w (length t.c0) (length t.c1) (length t.c2) ≡ true
  unfolding holds_one
  holds = both_true (eq-eqb _ _ w_steps) (fits_again m w _ _ _ (record {
    state_in_holds = w_state_in;
    steps_in = w_steps_in;
    fits0 = back0.fits_part refl;
    fits1 = back1.fits_part;
    fits2 = back2.fits_part;
  }))

  v : Conf
  v = filled m slot w t.c0 t.c1 t.c2

  found : unpack_of m slot u.sim.steps t ≡ Some v
  unfolding unpack_of v w
  found = pick_true _ (Some v) None holds

  v_checked : engine_check m s v ≡ Ok tt
  unfolding v filled fill_if pick
  v_checked = check_holds m s v (record {
    table = fu.table;
    sizes = (λ i. sizes_fit m (back0.size i) (back1.size i) (back2.size i)) ∙ ft.sizes;
    fits = fits_again m w _ _ _ (record {
      state_in_holds = w_state_in;
      steps_in = w_steps_in;
      fits0 = back0.fits refl;
      fits1 = back1.fits;
      fits2 = back2.fits;
    });
  })

  in_buffers : InBuffers m s u t v
  unfolding v filled fill_if pick
  in_buffers = record {
    state = w_state;
    steps = w_steps;
    numbers0 = back0.is refl;
    numbers1 = back1.is;
    numbers2 = back2.is;
    cells0 = back0.live refl;
    cells1 = back1.live;
    cells2 = back2.live;
    length0 = back0.size;
    length1 = back1.size;
    length2 = back2.size;
    lacks1 = back1.lacks;
    lacks2 = back2.lacks;
    checked = v_checked;
  }

pub unpack_pack : (m : Machine) (s : List ℕ) (u t : Conf) (old : List ℕ) → engine_check m s u ≡ Ok tt → engine_check m s t ≡ Ok tt → SameSizes m u t
    → length old ≡ slot_size m u → (v : Conf) × (unpack_of m (pack_of m u old) u.sim.steps t ≡ Some v) × InBuffers m s u t v
unpack_pack m s u t old cu ct same long =
    let fu = engine_says m s u cu in
    let ft = engine_says m s t ct in
    (v m s u t old fu ft same long, found m s u t old fu ft same long, in_buffers m s u t old fu ft same long)
