-- A new timeline, for each way through its code. Assumes nothing.
use Rattle.std.specs.Prelude.{◌≡◌, refl, List, ℕ, ◌+◌, ◌*◌, ◌≤◌, length, Err, Ok, Result, ⊤}
use Rattle.std.proofs.Common.{sym, ◌∙◌, arith}
use Rattle.std.proofs.Math.Path.{ap}
use borrow.Author.Tests.{ltb-true}
use Rattle.outcome.specs.declared.Refusal.{Refusal}
use Rattle.machine.specs.declared.Machine.{Machine}
use Rattle.machine.proofs.Facts.Check.{demand_says, on_says}
use Rattle.store_bytes.specs.Model.{slot_count, slot_of, put_slot}
use Rattle.store_bytes.proofs.Facts.Slots.{slot_inside}
use Rattle.timeline_rule.specs.Model.Timeline.{Reply, refused, answered, new_check, born, on_new, new}
use Rattle.timeline_rule.specs.Model.Kind.{Kind, TimelineOf, ops_of, ops_for, new_on, store_after, new_with}
use Rattle.timeline_rule.specs.Invariants.{timeline_of}

-- ---- a new timeline

module _ (X : Kind) (m : Machine) (s : List ℕ) (size most every : ℕ) (e : X.State) (b : List ℕ) (sized : X.slot_size m e ≡ size)
    (r : Result ⊤ Refusal) (checked : r ≡ new_check (ops_of X m s size) most every e b) where
  same_new : (c : Result ⊤ Refusal) → r ≡ c → new_on X m s most every e b ≡ on_new (ops_of X m s size) c (born (ops_of X m s size) most every e b)
  unfolding new_on new
  same_new c z = ap (λ n. new (ops_of X m s n) most every e b) sized ∙ ap (λ a. on_new (ops_of X m s size) a (born (ops_of X m s size) most every e b)) (sym checked ∙ z)

  pub new_refused : (why : Refusal) → r ≡ Err why → (refused why, b) ≡ new_with X m s most every e b
  unfolding new_with
  new_refused why z = ap (λ (y : Reply (TimelineOf X)). (y, store_after X y b)) (sym (same_new (Err why) z))

  -- slot 0 lies inside the store
  pub new_inside : r ≡ Ok tt → 0 * size + size ≤ length b
  unfolding new_check
  new_inside z =
      let a = on_says (X.check m s e) _ (sym checked ∙ z) in
      let d = demand_says _ _ _ (demand_says _ _ _ a.1).1 in
      slot_inside size 0 b (omega (arith, ltb-true most (slot_count size b) d.0))

  pub new_goes : (t : List ℕ) → r ≡ Ok tt → t ≡ put_slot size 0 (X.pack m e (slot_of size 0 b)) b
      → (answered (timeline_of X e t (record { most = most; first = X.now e; count = 1; every = every })), t) ≡ new_with X m s most every e b
  unfolding new_with
  new_goes t z p = ap (λ u. (answered (timeline_of X e u (record { most = most; first = X.now e; count = 1; every = every })), u)) p
      ∙ ap (λ (y : Reply (TimelineOf X)). (y, store_after X y b)) (sym (same_new (Ok tt) z))

-- the same, with the slot's size as the code computes it
module _ (X : Kind) (m : Machine) (s : List ℕ) (most every : ℕ) (e : X.State) (b : List ℕ) (r : Result ⊤ Refusal) (checked : r ≡ new_check (ops_for X m s e) most every e b) where
  pub new_passed : r ≡ Ok tt → X.check m s e ≡ Ok tt
  unfolding new_check
  new_passed z = (on_says (X.check m s e) _ (sym checked ∙ z)).0

  module _ (n : ℕ) (sized : n ≡ X.slot_size m e) (z : r ≡ Ok tt) where
    pub new_room : 0 * n + n ≤ length b
    new_room = omega (arith, sized, new_inside X m s (X.slot_size m e) most every e b refl r checked z)

    pub new_made : (t : List ℕ) → t ≡ put_slot n 0 (X.pack m e (slot_of n 0 b)) b
        → (answered (timeline_of X e t (record { most = most; first = X.now e; count = 1; every = every })), t) ≡ new_with X m s most every e b
    new_made t p = new_goes X m s (X.slot_size m e) most every e b refl r checked t z (p ∙ ap (λ k. put_slot k 0 (X.pack m e (slot_of k 0 b)) b) sized)
