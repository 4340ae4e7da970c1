-- The code of an advance: what its run requires, and one fact for each return. Assumes nothing.
use Rattle.std.specs.Prelude.{◌≡◌, refl, Bool, true, false, List, ℕ, ◌≤◌, None, Ok}
use Rattle.std.proofs.Common.{sym, ◌∙◌, ap}
use Rattle.outcome.specs.declared.Outcome.{Outcome}
use Rattle.machine.specs.declared.Machine.{Machine}
use Rattle.machine.specs.Layout.{stride_of}
use Rattle.run_rules.specs.Model.Task.{task}
use Rattle.rle.specs.Model.Engine.{Conf, End, end, run_of}
use Rattle.rle.specs.Invariants.{RunOk, Judged}
use Rattle.rle.specs.Fits.{run_check}
use Rattle.rle.proofs.Facts.OperationCases.{stride_ok, run_ok}
use Rattle.timeline_rule.specs.Model.Kind.{verdict_or, spent}
use Rattle.timeline_rule.proofs.Facts.Verdict.{spent_verdict, other_verdict}
use Rattle.rle_slots.specs.Model.Advance.{ran_from, tested, advance_of}

-- ---- the run

pub advance_stride : (m : Machine) (s : List ℕ) (fuel : ℕ) (σ : Conf) → run_check m s fuel σ ≡ Ok tt → (1 ≤ m.tapes) × (m.tapes ≤ 3) × (m.symbols ≤ 256)
advance_stride m s fuel σ e = stride_ok m s fuel σ (Ok tt) (sym e) refl

pub advance_ok : (m : Machine) (s : List ℕ) (fuel : ℕ) (σ : Conf) (stride : ℕ) → run_check m s fuel σ ≡ Ok tt → (stride ≡ stride_of m) × (stride ≤ 16777216) → RunOk m stride σ fuel
advance_ok m s fuel σ stride e k = run_ok m s fuel σ (Ok tt) stride (sym e) refl k.0 k.1

-- ---- the returns

module _ (m : Machine) (s : List ℕ) (fuel : ℕ) (σ τ : Conf) (o : Outcome) (ran : end τ o ≡ run_of (task m s false None) fuel σ) (b : Bool) (asked : b ≡ spent o) where
  advance_is : (verdict_or o (run_of (task m s true None) 0 τ).outcome, τ) ≡ advance_of m s fuel σ
  unfolding advance_of ran_from
  advance_is i = tested m s (ran i)

  pub advance_ends : b ≡ false → (o, τ) ≡ advance_of m s fuel σ
  advance_ends e = (λ i. (sym (other_verdict o (run_of (task m s true None) 0 τ).outcome (sym asked ∙ e)) i, τ)) ∙ advance_is

  pub advance_verdict : (v : Outcome) → b ≡ true → Judged m s τ.sim v → (v, τ) ≡ advance_of m s fuel σ
  advance_verdict v e j =
      (λ i. (ap (λ (x : End). x.outcome) (j.same τ.ls τ.ll τ.rs τ.rl) i, τ))
      ∙ (λ i. (sym (spent_verdict o (run_of (task m s true None) 0 τ).outcome (sym asked ∙ e)) i, τ)) ∙ advance_is
