-- A check's answer with the size of a slot, and the answer of reading a slot, taken apart. Assumes nothing.
use Rattle.std.specs.Prelude.{◌≡◌, refl, Bool, true, false, ℕ, Option, None, Some, Result, Ok, Err, ⊤}
use Rattle.std.proofs.Common.{sym, ap}
use Rattle.notation.proofs.Facts.Tests.{clash}
use Rattle.outcome.specs.declared.Refusal.{Refusal}
use Rattle.outcome.specs.declared.Refusal.TheVariants as Why
use Rattle.timeline_engine.specs.Engine.{sized, read_or}

abbrev number_or : Result ℕ Refusal → ℕ
number_or (Ok n) = n
number_or (Err why) = 0

abbrev why_or : Result ℕ Refusal → Refusal
why_or (Ok n) = Why.Slot
why_or (Err why) = why

abbrev is_size : Result ℕ Refusal → Bool
is_size (Ok n) = true
is_size (Err why) = false

module _ (n k : ℕ) where
  pub passed : (r : Result ⊤ Refusal) → Ok n ≡ sized k r → r ≡ Ok tt
  passed (Ok tt) e = refl
  passed (Err why) e = absurd (clash refl (ap is_size e))

  pub size_is : (r : Result ⊤ Refusal) → Ok n ≡ sized k r → n ≡ k
  size_is (Ok tt) e = ap number_or e
  size_is (Err why) e = absurd (clash refl (ap is_size e))

pub refused_by : (k : ℕ) (why : Refusal) (r : Result ⊤ Refusal) → Err why ≡ sized k r → r ≡ Err why
refused_by k why (Ok tt) e = absurd (clash (ap is_size e) refl)
refused_by k why (Err w) e = ap (λ z. Err (why_or z)) (sym e)

module _ {A : Type 0} (e r : A) where
  pub none_read : (x : Option A) → (false, r) ≡ read_or e x → None ≡ x
  none_read None q = refl
  none_read (Some y) q = absurd (clash (ap (λ p. p.0) q) refl)

  pub none_kept : (x : Option A) → (false, r) ≡ read_or e x → r ≡ e
  none_kept None q = ap (λ p. p.1) q
  none_kept (Some y) q = absurd (clash (ap (λ p. p.0) q) refl)

  pub one_read : (x : Option A) → (true, r) ≡ read_or e x → Some r ≡ x
  one_read None q = absurd (clash refl (ap (λ p. p.0) q))
  one_read (Some y) q = ap (λ p. Some p.1) q
