-- The refusals of the listing, and its answers. Assumes nothing.
use Rattle.outcome.specs.declared.Refusal.{Refusal}
use Rattle.std.specs.Prelude.{◌≡◌, ℕ, ◌≤◌, ◌<◌, ltb, length, drop, Err, Ok, Result, ⊤}
use Rattle.std.proofs.Math.Path.{refl, subst}
use Rattle.std.proofs.Common.{sym, ap, ◌∙◌, arith, ltb-true, ltb-false, lt-ltb, le-ltb, le-leb}
use mathlib.Core.List.{List, [], ◌∷◌, ◌++◌}
use Rattle.std.proofs.lemmas.Bool.{lt-leb}
use Rattle.notation.specs.Choice.{pick}
use Rattle.notation.proofs.Facts.Tests.{by_test}
use Rattle.outcome.specs.declared.Refusal.TheVariants as Why
use Rattle.listing.specs.Output.{answer_to, list_of}
use Rattle.demands_first.specs.FirstClaims.{first_of, numbers_of, TurnsAway, refusal_of}
use Rattle.demands_first.specs.FirstTests.{list_tests}
use Rattle.demands_first.proofs.Facts.First.{turns}

module _ (input out : List ℕ) where
  -- the result of the listing where its check gives this
  abbrev does : Result ⊤ Refusal → Result ℕ Refusal × List ℕ
  does (Ok tt) = (Ok (length (answer_to input)), answer_to input ++ drop (length (answer_to input)) out)
  does (Err why) = (Err why, out)

  pub is_long : 8743 ≤ length out → list_of input out ≡ does (Ok tt)
  unfolding list_of pick
  is_long h = rw (le-ltb (length out) 8743 h)

  pub is_short : length out < 8743 → list_of input out ≡ does (Err Why.OutputSize)
  unfolding list_of pick
  is_short h = rw (lt-ltb (length out) 8743 h)

  as_checked : does (first_of (list_tests (length out))) ≡ list_of input out
  unfolding first_of pick
  as_checked =
      by_test (ltb (length out) 8743)
      (λ t. rw (lt-leb 8743 (length out) (ltb-true (length out) 8743 t)) (sym (is_short (ltb-true (length out) 8743 t))))
      (λ t. rw (le-leb 8743 (length out) (ltb-false (length out) 8743 t)) (sym (is_long (ltb-false (length out) 8743 t))))

  pub list_turns : TurnsAway (18 ∷ []) (list_tests (length out)) (λ (x : Result ℕ Refusal × List ℕ). refusal_of x.0) (λ why. (Err why, out)) (list_of input out)
  unfolding numbers_of
  list_turns =
      subst (TurnsAway (18 ∷ []) (list_tests (length out)) (λ (x : Result ℕ Refusal × List ℕ). refusal_of x.0) (λ why. (Err why, out))) as_checked
      (turns _ (list_tests (length out)) (λ (x : Result ℕ Refusal × List ℕ). refusal_of x.0) (λ why. (Err why, out)) does (first_of (list_tests (length out))) refl refl refl (λ why. refl) (λ why. refl))

  pub short_only : list_of input out ≡ (Err Why.OutputSize, out) → length out < 8743
  short_only e =
      by_test (ltb (length out) 8743) (ltb-true (length out) 8743)
      (λ t.
      let p : does (Ok tt) ≡ (Err Why.OutputSize, out) = sym (is_long (ltb-false (length out) 8743 t)) ∙ e in
      let q : (Ok tt) ≡ Err Why.OutputSize = ap (λ (x : Result ℕ Refusal × List ℕ). refusal_of x.0) p in
      let z : ◌≡◌ {A = ℕ} 0 1 = cc in
      absurd (omega arith))
