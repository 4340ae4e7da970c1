-- For any bytes in a slot, an engine that is read is accepted and is of the given step. Assumes nothing.
use Rattle.std.specs.Prelude.{◌≡◌, true, List, ℕ, ◌≤◌, drop, None, Ok, Some}
use Rattle.std.proofs.Common.{◌∙◌, arith, length-take}
use Rattle.std.proofs.Math.Path.{subst}
use borrow.Author.Tests.{eqb-true}
use Rattle.notation.proofs.Facts.Tests.{both_split, by_test, pick_true, pick_false}
use Rattle.machine.specs.declared.Machine.{Machine}
use Rattle.rle.specs.Model.Engine.{Conf}
use Rattle.rle.specs.Invariants.{SameSizes}
use Rattle.rle.specs.Fits.{chain_fits, engine_check}
use Rattle.rle_refines.proofs.Facts.Fits.{fits_holds}
use Rattle.rle_slots.specs.Model.Slots.{lefts_of, rights_of, right_symbols, value_in, held_in, Lent, lent, live_in, holds_one, unpacked, unpack_of}
use Rattle.rle_slots.proofs.Facts.LiveRuns.{accepted_again, placed_sizes, placed_fits}
use Rattle.rle_slots.proofs.Facts.Advance.{Again}

-- v was read for step p into the places of t
pub record Read (m : Machine) (s : List ℕ) (p : ℕ) (t v : Conf) : Type 0 where
  pub again : Again m s t v
  pub steps : v.sim.steps ≡ p

module _ (m : Machine) (s b : List ℕ) (p : ℕ) (t : Conf) (passed : engine_check m s t ≡ Ok tt) where
  abbrev l : ℕ
  l = lefts_of t

  abbrev r : ℕ
  r = rights_of t

  abbrev h : Conf
  h = held_in l r b

  abbrev places : Lent
  places = lent t.ls t.ll t.rs t.rl

  module _ (fits : chain_fits m h ≡ true) where
    live_left : h.sim.tape.left ≤ lefts_of h
    live_left = (fits_holds m h fits).lefts.live

    live_right : h.sim.tape.right ≤ rights_of h
    live_right = (fits_holds m h fits).rights.live

    in_left : h.sim.tape.left ≤ l
    in_left = omega (arith, live_left, length-take l (drop 128 b))

    in_right : h.sim.tape.right ≤ r
    in_right = omega (arith, live_right, length-take r (drop (right_symbols l) b))

    placed : Again m s t (live_in h places)
    placed =
        let z : SameSizes t (live_in h places) = placed_sizes h places live_left live_right in_left in_right t.sim in
        record { accepted = accepted_again m s t (live_in h places) passed z (placed_fits h places live_left live_right in_left in_right m fits); sizes = z }

  holds_says : holds_one m l r b p ≡ true → Read m s p t (live_in h places)
  unfolding holds_one
  holds_says e =
      let q = both_split e in
      record { again = placed q.1; steps = eqb-true (value_in b).steps p q.0 }

  none_some : (v : Conf) → Some v ≡ None → ⊥
  none_some v q = let y : ◌≡◌ {A = ℕ} 0 1 = cc in omega arith

  some_is : (v w : Conf) → Some v ≡ Some w → w ≡ v
  some_is v w q = cc

  pub unpack_fits : (v : Conf) → Some v ≡ unpack_of m b p t → Read m s p t v
  unfolding unpacked
  unpack_fits v e = by_test (holds_one m l r b p)
      (λ t₁. subst (Read m s p t) (some_is v (live_in h places) (e ∙ pick_true (holds_one m l r b p) (Some (live_in h places)) None t₁)) (holds_says t₁))
      (λ t₁. absurd (none_some v (e ∙ pick_false (holds_one m l r b p) (Some (live_in h places)) None t₁)))
