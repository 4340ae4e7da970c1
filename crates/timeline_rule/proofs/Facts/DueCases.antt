-- The timeline's own numbers, one lemma for each way through the code: the step that is due, refusal 14, thinning. Assumes nothing.
use Rattle.std.specs.Prelude.{ℕ, ◌+◌, ◌-◌, ◌*◌, ◌/◌, ◌≤◌, ◌<◌, min, max, ◌≡◌, Bool, false, not, List, ◌⊎◌, leb, eqb}
use Rattle.std.proofs.Math.Path.{sym}
use Rattle.std.proofs.Common.{◌∙◌, ap, inl, inr, mul-le-mul_right, div-mul-le_self, div-lt_iff_lt-mul, arith, leb-true, leb-false, le-leb, lt-ltb, le-ltb, ne_eqb}
use Rattle.std.proofs.lemmas.Bool.{lt-leb}
use Rattle.notation.proofs.Facts.Tests.{by_test, pick_true, pick_false}
use Rattle.notation.specs.Limits.{steps_most, interval_most}
use Rattle.machine.specs.Model.Check.{within}
use Rattle.machine.proofs.Facts.Check.{within-passed}
use Rattle.store_bytes.specs.Model.{move_slot, thin_by}
use Rattle.timeline_rule.specs.declared.Times.{Times}
use Rattle.timeline_rule.specs.Model.Timeline.{due, halved}
use Rattle.timeline_rule.specs.Model.Due.{due_of, safe_due, thin_times, thin_store, Thinned, TimesFit}

pub safe_due_lem : (v : Times) → v.first ≤ steps_most → 1 ≤ v.every → (safe_due v ≡ due v) ⊎ ((steps_most < due v) × (safe_due v ≡ steps_most + 1))
unfolding due_of
safe_due_lem v f l = by_test (leb v.count ((steps_most - v.first) / v.every))
    (λ q. inl (pick_true (leb v.count ((steps_most - v.first) / v.every)) (v.first + v.count * v.every) (steps_most + 1) q))
    (λ q. inr (
      omega (arith, (div-lt_iff_lt-mul {k = v.every} l).0 (leb-false v.count ((steps_most - v.first) / v.every) q)),
      pick_false (leb v.count ((steps_most - v.first) / v.every)) (v.first + v.count * v.every) (steps_most + 1) q,
    ))

-- `safe_due` gives what `due` gives, in both its uses in the loop and in the test of refusal 14
pub safe_min : (v : Times) (t : ℕ) → v.first ≤ steps_most → 1 ≤ v.every → t ≤ steps_most → min t (safe_due v) ≡ min t (due v)
safe_min v t f l h = go (safe_due_lem v f l)
  where
    go : (safe_due v ≡ due v) ⊎ ((steps_most < due v) × (safe_due v ≡ steps_most + 1)) → min t (safe_due v) ≡ min t (due v)
    go (inl q) = ap (min t) q
    go (inr q) = ap (min t) q.1 ∙ omega arith

pub safe_eq : (v : Times) (p : ℕ) → v.first ≤ steps_most → 1 ≤ v.every → p ≤ steps_most → eqb p (safe_due v) ≡ eqb p (due v)
safe_eq v p f l h = go (safe_due_lem v f l)
  where
    go : (safe_due v ≡ due v) ⊎ ((steps_most < due v) × (safe_due v ≡ steps_most + 1)) → eqb p (safe_due v) ≡ eqb p (due v)
    go (inl q) = ap (eqb p) q
    go (inr q) = ap (eqb p) q.1 ∙ (ne_eqb p (steps_most + 1) (omega arith) ∙ sym (ne_eqb p (due v) (omega arith)))

pub safe_leb : (v : Times) (p : ℕ) → v.first ≤ steps_most → 1 ≤ v.every → p ≤ steps_most → leb p (safe_due v) ≡ leb p (due v)
safe_leb v p f l h = go (safe_due_lem v f l)
  where
    go : (safe_due v ≡ due v) ⊎ ((steps_most < due v) × (safe_due v ≡ steps_most + 1)) → leb p (safe_due v) ≡ leb p (due v)
    go (inl q) = ap (leb p) q
    go (inr q) = ap (leb p) q.1 ∙ (le-leb p (steps_most + 1) (omega arith) ∙ sym (le-leb p (due v) (omega arith)))

-- the sum that the code computes fits in 64 bits
pub due_small : (first count every : ℕ) → first ≤ steps_most → count ≤ (steps_most - first) / every → first + count * every ≤ steps_most
due_small first count every f l = omega (arith, mul-le-mul_right every l, div-mul-le_self (steps_most - first) every)

pub due_yes : (first count every : ℕ) → count ≤ (steps_most - first) / every → first + count * every ≡ due_of first count every
unfolding due_of
due_yes first count every l = sym (pick_true _ _ _ (le-leb count ((steps_most - first) / every) l))

pub due_no : (first count every : ℕ) → (steps_most - first) / every < count → steps_most + 1 ≡ due_of first count every
unfolding due_of
due_no first count every l = sym (pick_false _ _ _ (lt-leb count ((steps_most - first) / every) l))

pub due-near : (first count every d : ℕ) → first ≤ steps_most → 1 ≤ every → d ≡ min (first + count * every) (steps_most + 1) → d ≡ due_of first count every
unfolding due_of
due-near first count every d f l e = by_test (leb count ((steps_most - first) / every))
    (λ q. omega (arith, e, due_small first count every f (leb-true count ((steps_most - first) / every) q)) ∙ sym (pick_true _ _ _ q))
    (λ q. omega (arith, e, (div-lt_iff_lt-mul {k = every} l).0 (leb-false count ((steps_most - first) / every) q)) ∙ sym (pick_false _ _ _ q))

-- doubling fits: where a slot is due, the interval is at most 2^62
pub double_fits : (v : Times) (p : ℕ) → 1 ≤ v.count → p ≤ steps_most → p ≡ due v → 2 * v.every ≤ interval_most
double_fits v p c l q = omega (arith, mul-le-mul_right v.every c)

-- ---- the results of the tests

-- the lower bound, from a test `within` that passed
pub within_low : (r : Bool) (low high x : ℕ) → r ≡ within low high x → not r ≡ false → low ≤ x
within_low r low high x e h = (within-passed r low high x e h).0

pub ok_last : (v : Times) (p d : ℕ) (r : Bool) → d ≡ due_of v.first v.count v.every → r ≡ leb p d → v.first ≤ p → p ≤ steps_most → 1 ≤ v.every → r ≡ leb p (due v)
ok_last v p d r e q f h l = q ∙ (ap (leb p) e ∙ safe_leb v p (omega arith) l h)

pub due_tells : (v : Times) (p d : ℕ) → TimesFit v → p ≤ steps_most → d ≡ due_of v.first v.count v.every → eqb p d ≡ eqb p (due v)
due_tells v p d f h e = ap (eqb p) e ∙ safe_eq v p f.first_in f.every_in h

pub stop_target : (v : Times) (t p d r : ℕ) → TimesFit v → t ≤ steps_most → d ≡ due_of v.first v.count v.every → t < d → r ≡ max t p → r ≡ max (min t (due v)) p
stop_target v t p d r f h e l q =
    let m : min t (safe_due v) ≡ min t (due v) = safe_min v t f.first_in f.every_in h in
    let n : min t (safe_due v) ≡ t = ap (min t) (sym e) ∙ omega arith in
    q ∙ ap (λ x. max x p) (sym n ∙ m)

pub stop_due : (v : Times) (t p d r : ℕ) → TimesFit v → t ≤ steps_most → d ≡ due_of v.first v.count v.every → d ≤ t → r ≡ max d p → r ≡ max (min t (due v)) p
stop_due v t p d r f h e l q =
    let m : min t (safe_due v) ≡ min t (due v) = safe_min v t f.first_in f.every_in h in
    let n : min t (safe_due v) ≡ d = ap (min t) (sym e) ∙ omega arith in
    q ∙ ap (λ x. max x p) (sym n ∙ m)

-- ---- thinning

module _ (v : Times) (size : ℕ) (t : List ℕ) where
  pub thin_keep : v.count ≤ v.most → Thinned v v size t t
  unfolding thin_times thin_store
  thin_keep h = record { value = sym (pick_false _ _ _ (le-ltb _ _ h)); store = sym (pick_false _ _ _ (le-ltb _ _ h)) }

  pub thin_half : (t₁ : List ℕ) → v.most < v.count → t₁ ≡ thin_by (move_slot size) ((v.count - 1) / 2) t → Thinned v (halved v) size t t₁
  unfolding thin_times thin_store
  thin_half t₁ h e = record { value = sym (pick_true _ _ _ (lt-ltb _ _ h)); store = e ∙ sym (pick_true _ _ _ (lt-ltb _ _ h)) }
