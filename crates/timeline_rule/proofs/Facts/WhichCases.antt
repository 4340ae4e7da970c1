-- The call given by two numbers: its target, and the call as a seek to that target. Assumes nothing.
use Rattle.std.specs.Prelude.{◌≡◌, refl, List}
use Rattle.std.proofs.Common.{◌∙◌}
use Rattle.std.proofs.Math.Path.{ap}
use Prim.Native.Nat.{ℕ, zero, suc, ◌-◌}
use Rattle.outcome.specs.declared.Outcome.{Outcome}
use Rattle.machine.specs.declared.Machine.{Machine}
use Rattle.timeline_rule.specs.declared.Call.TheVariants.{Seek}
use Rattle.timeline_rule.specs.Model.Timeline.{Reply, call_for}
use Rattle.timeline_rule.specs.Model.Kind.{Kind, TimelineOf, call_on}
use Rattle.timeline_rule.specs.Model.Due.{forward_to, target_to}
use Rattle.timeline_rule.proofs.Facts.CallCases.{forward_on, back_on}

pub target_seek : (k p n : ℕ) → k ≡ 0 → n ≡ target_to k p n
unfolding target_to
target_seek k p n z = rw z

pub target_forward : (k p n g : ℕ) → k ≡ 1 → g ≡ forward_to p n → g ≡ target_to k p n
unfolding target_to
target_forward k p n g z e = rw z e

pub target_back : (k p n g : ℕ) → (k ≡ 0 → ⊥) → (k ≡ 1 → ⊥) → g ≡ p - n → g ≡ target_to k p n
unfolding target_to
target_back zero p n g a b e = absurd (a refl)
target_back (suc zero) p n g a b e = absurd (b refl)
target_back (suc (suc k)) p n g a b e = e

module _ (X : Kind) (m : Machine) (s : List ℕ) (w : TimelineOf X) (y : Reply Outcome × TimelineOf X) where
  pub which_on : (k n g : ℕ) → y ≡ call_on X m s w (Seek g) → g ≡ target_to k (X.now w.engine) n → y ≡ call_on X m s w (call_for k n)
  unfolding target_to
  which_on zero n g p q = p ∙ ap (λ t. call_on X m s w (Seek t)) q
  which_on (suc zero) n g p q = forward_on X m s w y n g p q
  which_on (suc (suc k)) n g p q = back_on X m s w y n g p q
