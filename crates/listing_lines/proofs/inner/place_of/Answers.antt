use mathlib.Core.Path.{refl}
use native.Mathlib.Omega.{arith}
use Rattle.listing_lines.specs.Forms.{place}
use Rattle.listing_lines.proofs.Facts.Forms.{number_ok}
use Rattle.listing_lines.proofs.inner.place_of.Goals as goal

pub returns : goal.returns
unfolding place
returns c = (refl, omega (arith, number_ok _ _ c.requires.0 c.requires.1))
