-- Refusals 14, 15 and 13 in their order, and the bounds on the numbers of a value that passes 14. Assumes nothing.
use Rattle.std.specs.Prelude.{◌≡◌, Bool, true, false, ℕ, ◌≤◌, ◌<◌, Err, Ok}
use Rattle.std.proofs.Common.{sym, ◌∙◌, arith, le-leb, lt-ltb, le-ltb}
use Rattle.std.proofs.lemmas.Bool.{lt-leb}
use Rattle.notation.proofs.Facts.Tests.{both_split, pick_true, pick_false}
use Rattle.notation.specs.Limits.{steps_most, interval_most}
use Rattle.outcome.specs.declared.Refusal.TheVariants as Why
use Rattle.machine.proofs.Facts.Check.{within_says}
use Rattle.timeline_rule.specs.declared.Times.{Times}
use Rattle.timeline_rule.specs.Model.Timeline.{due, new_ok, times_ok, first_check, later_check}
use Rattle.timeline_rule.specs.Invariants.{Shape}

pub times_shape : (v : Times) (p : ℕ) → times_ok v p ≡ true → p ≤ steps_most → Shape v
unfolding times_ok
times_shape v p q h =
    let a = both_split q in
    let b = both_split a.1 in
    let c = both_split b.1 in
    record {
      most_in = (within_says 1 512 v.most a.0).1;
      first_in = omega (arith, (within_says v.first (due v) p c.1).0);
      count_low = (within_says 1 v.most v.count c.0).0;
      count_in = (within_says 1 v.most v.count c.0).1;
      every_in = (within_says 1 interval_most v.every b.0).0;
    }

-- ---- 14, 15 and 13, in their order

module _ (v : Times) (p n t : ℕ) (k : Bool) (ranged : k ≡ times_ok v p) where
  pub later_settings_holds : k ≡ false → Err Why.Settings ≡ later_check v p n t
  later_settings_holds z = sym (pick_false _ _ _ (sym ranged ∙ z))

  module _ (inside : k ≡ true) where
    pub later_store : n ≤ v.most → Err Why.StoreSize ≡ later_check v p n t
    later_store h = sym (pick_true _ _ _ (sym ranged ∙ inside) ∙ pick_false _ _ _ (le-ltb _ _ h))

    pub later_limit : v.most < n → steps_most < t → Err Why.StepLimit ≡ later_check v p n t
    later_limit h l = sym (pick_true _ _ _ (sym ranged ∙ inside) ∙ (pick_true _ _ _ (lt-ltb _ _ h) ∙ pick_false _ _ _ (lt-leb _ _ l)))

    pub later_passed : v.most < n → t ≤ steps_most → (Ok tt) ≡ later_check v p n t
    later_passed h l = sym (pick_true _ _ _ (sym ranged ∙ inside) ∙ (pick_true _ _ _ (lt-ltb _ _ h) ∙ pick_true _ _ _ (le-leb _ _ l)))

module _ (most every n : ℕ) (k : Bool) (ranged : k ≡ new_ok most every) where
  pub first_settings : k ≡ false → Err Why.Settings ≡ first_check most every n
  first_settings z = sym (pick_false _ _ _ (sym ranged ∙ z))

  pub first_store : k ≡ true → n ≤ most → Err Why.StoreSize ≡ first_check most every n
  first_store z h = sym (pick_true _ _ _ (sym ranged ∙ z) ∙ pick_false _ _ _ (le-ltb _ _ h))

  pub first_passed : k ≡ true → most < n → (Ok tt) ≡ first_check most every n
  first_passed z h = sym (pick_true _ _ _ (sym ranged ∙ z) ∙ pick_true _ _ _ (lt-ltb _ _ h))
