-- A new timeline, for each way through its code. Assumes nothing.
use Rattle.std.specs.Prelude.{◌≡◌, refl, List, ℕ, ◌+◌, ◌*◌, ◌/◌, ◌≤◌, length, take, drop, ◌++◌, Result, Ok, Err, ⊤}
use Rattle.std.proofs.Common.{◌∙◌, sym, ap, arith, length-take-le, take_all}
use Rattle.outcome.specs.declared.Refusal.{Refusal}
use Rattle.machine.specs.declared.Machine.{Machine}
use Rattle.store_bytes.specs.Model.{slot_of, put_slot}
use Rattle.timeline_rule.specs.Model.Timeline.{refused, answered, first_check, new_check}
use Rattle.timeline_rule.specs.Model.Kind.{Kind, ops_for, new_with}
use Rattle.timeline_rule.specs.Invariants.{timeline_of}
use Rattle.timeline_rule.proofs.Facts.GoCases.{new_check_lem, new_first}
use Rattle.timeline_rule.proofs.Facts.NewCases.{new_refused, new_room, new_made}
use Rattle.timeline_engine.specs.Engine.{sized, Saves}
use Rattle.timeline_engine.proofs.Facts.Answers.{passed, size_is, refused_by}

-- the first slot, lent as the first n bytes of the store, and put back
pub saved_first : (X : Kind) (m : Machine) (e : X.State) (n : ℕ) (b ys : List ℕ) → ys ≡ X.pack m e (take n b) → length ys ≡ length (take n b) → n ≤ length b
    → ys ++ drop n b ≡ put_slot n 0 (X.pack m e (slot_of n 0 b)) b
unfolding slot_of put_slot
saved_first X m e n b ys q l h =
    let w : take n ys ≡ ys = take_all n ys (omega (arith, l, length-take-le n b h)) in
    let z : 0 ≡ 0 * n = omega arith in
    let k : n ≡ 0 * n + n = omega arith in
    ap (λ x. x ++ drop n b) (sym w ∙ ap (take n) q)
    ∙ (ap (λ i. take i b ++ take n (X.pack m e (take n (drop i b))) ++ drop n b) z
    ∙ ap (λ i. take (0 * n) b ++ take n (X.pack m e (take n (drop (0 * n) b))) ++ drop i b) k)

module _ (X : Kind) (m : Machine) (s : List ℕ) (most every : ℕ) (e : X.State) (b : List ℕ) where
  abbrev size : ℕ
  size = X.slot_size m e

  pub begin_refused : (why : Refusal) → Err why ≡ sized size (X.check m s e) → (refused why, b) ≡ new_with X m s most every e b
  begin_refused why z = new_refused X m s size most every e b refl _ refl why
      (sym (new_check_lem X m s size most every e b _ refl why (refused_by size why _ z)))

  module _ (n : ℕ) (z : Ok n ≡ sized size (X.check m s e)) where
    checked : (c x : Result ⊤ Refusal) → x ≡ first_check most every (length b / n) → x ≡ c → new_check (ops_for X m s e) most every e b ≡ c
    checked c x q k = sym (new_first X m s size most every e b _ refl n x (size_is n size _ z) (passed n size _ z) q) ∙ k

    pub then_refused : (why : Refusal) (x : Result ⊤ Refusal) → x ≡ first_check most every (length b / n) → x ≡ Err why → (refused why, b) ≡ new_with X m s most every e b
    then_refused why x q k = new_refused X m s size most every e b refl _ refl why (checked (Err why) x q k)

    module _ (x : Result ⊤ Refusal) (q : x ≡ first_check most every (length b / n)) (k : x ≡ Ok tt) where
      pub begin_inside : n ≤ length b
      begin_inside = omega (arith, new_room X m s most every e b _ refl n (size_is n size _ z) (checked (Ok tt) x q k))

      pub begin_saves : Saves X m (length (take n b)) e
      begin_saves = record {
        table = s;
        fits = record { accepted = passed n size _ z; sized = sym (length-take-le n b begin_inside ∙ size_is n size _ z) };
      }

      pub begin_made : (t : List ℕ) → t ≡ put_slot n 0 (X.pack m e (slot_of n 0 b)) b
          → (answered (timeline_of X e t (record { most = most; first = X.now e; count = 1; every = every })), t) ≡ new_with X m s most every e b
      begin_made t p = new_made X m s most every e b _ refl n (size_is n size _ z) (checked (Ok tt) x q k) t p
