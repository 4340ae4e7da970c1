-- The plain engine meets the requirements of a timeline's code. Assumes nothing.
use Rattle.std.proofs.Math.Path.{◌≡◌, ap, subst}
use Rattle.std.specs.Prelude.{refl, Bool, List, ℕ, ◌≤◌, drop, None, Ok, Option, Some}
use Rattle.std.proofs.Common.{sym, ◌∙◌, arith, length-take}
use Rattle.std.proofs.Math.Bool.{true, false}
use borrow.Author.Tests.{eqb-true, leb-true}
use Rattle.std.proofs.Math.ListN.{length}
use Rattle.std.proofs.Math.Seq.{paste}
use Rattle.std.proofs.lemmas.List.Edits.{length-paste}
use Rattle.notation.specs.Choice.{pick}
use Rattle.notation.proofs.Facts.Tests.{both_split, by_test, pick_true, pick_false}
use Rattle.store_bytes.proofs.Facts.Slots.{paste_same}
use Rattle.machine.specs.declared.Machine.{Machine}
use Rattle.tape.specs.declared.Tape.{Tape}
use Rattle.tape.specs.Fits.{tape_fits}
use Rattle.tape.proofs.Facts.Fits.{fits_says}
use Rattle.sim.specs.declared.Simulator.{Simulator}
use Rattle.sim.specs.Model.Engine.{Conf}
use Rattle.sim.specs.Model.Operations.{has1, has2, sizes_fit, engine_check}
use Rattle.sim.proofs.Facts.OperationCases.{Passed, engine_says}
use Rattle.timeline_rule.specs.Invariants.{Sound, Fits}
use Rattle.sim_slots.specs.Model.Advance.{advance_of}
use Rattle.sim_slots.specs.Model.Slots.{size_if, place1, place2, size_of, slot_size, part_of, part0, part1, part2, sim_in, holds_one, fill_if, filled, taken_if, unpack_of}
use Rattle.sim_slots.proofs.Facts.SlotBytes.{refits}
use Rattle.sim_slots.proofs.Facts.FitCases.{Fitted, fitted, fits_again}
use Rattle.sim_slots.proofs.Facts.RoundTrip.{check_holds}
use Rattle.sim_slots.proofs.Facts.Advance.{advance_fits, advance_climbs, advance_length0, advance_length1, advance_length2}
use Rattle.sim_slots.specs.Model.Kind.{plain_kind}

-- ---- a tape that fits a part of a slot also fits its buffer, once the part is copied there

module _ (k : ℕ) (t : Tape) (part c : List ℕ) (short : length part ≤ length c) (fits : tape_fits k t part ≡ true) where
  len_in : t.len ≤ length part
  len_in = (fits_says k t part fits).most

  poured_size : length (paste c 0 part t.len) ≡ length c
  poured_size = length-paste c 0 part t.len (omega (arith, len_in)) len_in

  poured_fits : tape_fits k t (paste c 0 part t.len) ≡ true
  poured_fits = refits k t part (paste c 0 part t.len) fits (paste_same c 0 part t.len (omega (arith, len_in)) len_in) (omega (arith, poured_size, len_in))

part_short : (at n : ℕ) (b : List ℕ) → length (part_of at n b) ≤ n
part_short at n b = omega (arith, length-take n (drop at b))

module _ (has : Bool) (k : ℕ) (t : Tape) (at : ℕ) (b c : List ℕ) (fits : has ≡ true → tape_fits k t (part_of at (size_if has (length c)) b) ≡ true) where
  short : has ≡ true → length (part_of at (size_if has (length c)) b) ≤ length c
  short e = omega (arith, part_short at (size_if has (length c)) b, pick_true has (length c) 0 e)

  filled_size : length (fill_if has t (part_of at (size_if has (length c)) b) c) ≡ length c
  unfolding fill_if
  filled_size = by_test has
      (λ e. ap length (pick_true has _ c e) ∙ poured_size k t _ c (short e) (fits e))
      (λ e. ap length (pick_false has _ c e))

  filled_fits : has ≡ true → tape_fits k t (fill_if has t (part_of at (size_if has (length c)) b) c) ≡ true
  unfolding fill_if
  filled_fits e = ap (tape_fits k t) (pick_true has _ c e) ∙ poured_fits k t _ c (short e) (fits e)

-- ---- an engine restored from any bytes

pub record Again (m : Machine) (s : List ℕ) (σ v : Conf) : Type 0 where
  pub accepted : engine_check m s v ≡ Ok tt
  pub long0 : length v.c0 ≡ length σ.c0
  pub long1 : length v.c1 ≡ length σ.c1
  pub long2 : length v.c2 ≡ length σ.c2

module _ (m : Machine) (s : List ℕ) (b : List ℕ) (step : ℕ) (σ : Conf) (passed : Passed m s σ) where
  v : Simulator
  v = sim_in m b σ.sim

  abbrev holds : Bool
  holds = holds_one m b step v (length σ.c0) (length σ.c1) (length σ.c2)

  module _ (yes : holds ≡ true) where
    v_steps : v.steps ≡ step
    unfolding holds_one
    v_steps = eqb-true _ _ (both_split yes).0

    f : Fitted m v (part0 (length σ.c0) b) (part1 m (length σ.c0) (length σ.c1) b) (part2 m (length σ.c0) (length σ.c1) (length σ.c2) b)
    unfolding holds_one
    f = fitted m v _ _ _ (both_split yes).1

    short0 : length (part0 (length σ.c0) b) ≤ length σ.c0
    short0 = part_short 128 (length σ.c0) b

    filled_again : Again m s σ (filled m b v σ.c0 σ.c1 σ.c2)
    unfolding filled
    filled_again =
        let l0 = poured_size m.symbols v.t0 _ σ.c0 short0 f.fits0 in
        let l1 = filled_size (has1 m) m.symbols v.t1 (place1 (length σ.c0)) b σ.c1 f.fits1 in
        let l2 = filled_size (has2 m) m.symbols v.t2 (place2 m (length σ.c0) (length σ.c1)) b σ.c2 f.fits2 in
        record {
          accepted = check_holds m s _ (record {
            table = passed.table;
            sizes = (λ i. sizes_fit m (l0 i) (l1 i) (l2 i)) ∙ passed.sizes;
            fits = fits_again m v _ _ _ (record {
              state_in_holds = f.state_in_holds;
              steps_in = f.steps_in;
              fits0 = poured_fits m.symbols v.t0 _ σ.c0 short0 f.fits0;
              fits1 = filled_fits (has1 m) m.symbols v.t1 (place1 (length σ.c0)) b σ.c1 f.fits1;
              fits2 = filled_fits (has2 m) m.symbols v.t2 (place2 m (length σ.c0) (length σ.c1)) b σ.c2 f.fits2;
            });
          });
          long0 = l0;
          long1 = l1;
          long2 = l2;
        }

  pub record Read (r : Conf) : Type 0 where
    pub again : Again m s σ r
    pub steps : r.sim.steps ≡ step

  abbrev got : Conf → Option Conf → Conf
  got d None = d
  got d (Some x) = x

  taken : (x : Bool) (y r : Conf) → (x ≡ true → Read y) → Some r ≡ taken_if x y → Read r
  unfolding pick
  taken true y r h e = subst (λ z. Read z) (sym (ap (got y) e)) (h refl)
  taken false y r h e = let z : ◌≡◌ {A = ℕ} 0 1 = cc in absurd (omega arith)

  pub unpack_fits : (r : Conf) → Some r ≡ unpack_of m b step σ → Read r
  unfolding unpack_of filled v
  unpack_fits r e = taken holds _ r (λ y. record { again = filled_again y; steps = v_steps y }) e

-- ---- all together

same_size : (m : Machine) (σ v : Conf) → length v.c0 ≡ length σ.c0 → length v.c1 ≡ length σ.c1 → length v.c2 ≡ length σ.c2 → slot_size m v ≡ slot_size m σ
same_size m σ v p q r i = size_of m (p i) (q i) (r i)

pub plain_sound : (m : Machine) (s : List ℕ) (size : ℕ) → Sound plain_kind m s size (Fits plain_kind m s size)
plain_sound m s size = record {
  accepted = λ e a z. record { accepted = a; sized = z };
  low = λ e f. leb-true _ _ (fitted m e.sim e.c0 e.c1 e.c2 (engine_says m s e f.accepted).fits).steps_in;
  advance_fits = λ n e f l. record {
    accepted = advance_fits m s n e f.accepted l;
    sized = same_size m e (advance_of m s n e).1 (advance_length0 m s n e f.accepted l) (advance_length1 m s n e f.accepted l) (advance_length2 m s n e f.accepted l) ∙ f.sized;
  };
  advance_climbs = λ n e f l. advance_climbs m s n e f.accepted l;
  restored_fits = λ b p e r f l q. let z = unpack_fits m s b p e (engine_says m s e f.accepted) r q in record {
    accepted = z.again.accepted;
    sized = same_size m e r z.again.long0 z.again.long1 z.again.long2 ∙ f.sized;
  };
  restored_now = λ b p e r f l q. (unpack_fits m s b p e (engine_says m s e f.accepted) r q).steps;
}
