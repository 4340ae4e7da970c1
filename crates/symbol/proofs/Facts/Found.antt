-- The result of a scan as an index: one fact for each way in which the scan's loop ends. Assumes nothing.
use Rattle.std.specs.Prelude.{◌≡◌, Bool, false, ℕ, ◌-◌, ◌≤◌, ◌<◌, None, Option, Some}
use Rattle.std.proofs.Common.{sym}
use Rattle.notation.specs.Scan.{first_fail}
use Rattle.notation.proofs.Facts.Scan.{first_hit, first-end}

-- a scan upward, where the numbers from i up to `to` are not yet tested
module _ (p : ℕ → Bool) (to i : ℕ) (x : Option ℕ) (left : first_fail p (to - i) i ≡ x) where
  pub first_found : i < to → p i ≡ false → Some i ≡ x
  first_found h z = sym (first_hit p to i x left h z)

  pub first_nowhere : to ≤ i → None ≡ x
  first_nowhere h = sym (first-end p to i x left h)
