-- A window's places past i64 are blank, for both engines. Assumes nothing.
use Rattle.std.specs.Prelude.{◌≡◌, List, ℕ, suc, ◌+◌, ◌≤◌, ◌<◌, ◌^◌, ℤ, pos, negsuc, ◌+ℤ◌, length, get_or, ◌≤ℤ◌, Ok}
use Rattle.std.proofs.Common.{◌∙◌, arith, le-ltb}
use Rattle.notation.proofs.Facts.Fill.{fill_in}
use Rattle.notation.specs.Position.{◌⊖◌, up, dn}
use Rattle.notation.proofs.Facts.Position.{ints, diff-⊖}
use Rattle.notation.proofs.Facts.Tests.{pick_false}
use Rattle.symbol.specs.Model.{raised_of}
use Rattle.machine.specs.declared.Machine.{Machine}
use Rattle.tape.proofs.Facts.Answers.{window_past}
use Rattle.sim.specs.Model.Engine as Plain
use Rattle.sim.specs.Model.Questions as Ask
use Rattle.rle.specs.Model.Engine as Chain
use Rattle.rle.specs.Fits.{engine_check}
use Rattle.rle.specs.Model.Questions.{window_cell, window_from, window_on, window_all, window_into}

-- the position j places to the right
places_on : (z : ℤ) (j : ℕ) → up (z +ℤ pos j) + dn z ≡ up z + j + dn (z +ℤ pos j)
unfolding ◌⊖◌
places_on (pos a) j = omega arith
places_on (negsuc a) j = omega (arith, diff-⊖ j (suc a))

far : (z : ℤ) (j : ℕ) → pos (2 ^ 63) ≤ℤ (z +ℤ pos j) → 2 ^ 63 + dn z ≤ up z + j
far z j h = omega (ints, h, places_on z j)

pub plain_window_past : (m : Machine) (s : List ℕ) (i : ℕ) (σ : Plain.Conf) → Ask.question_check m s i σ ≡ Ok tt → (z : ℤ) → dn z ≤ 2 ^ 63 → (out : List ℕ) (j : ℕ) → j < length out
    → pos (2 ^ 63) ≤ℤ (z +ℤ pos j) → get_or (Ask.window_into m s i z σ out) j 0 ≡ 0
unfolding Ask.window_into
plain_window_past m s i σ c z low out j there h = rw c (window_past (Ask.held_at i σ) z low out j there (far z j h))

pub chain_window_past : (m : Machine) (s : List ℕ) (σ : Chain.Conf) → engine_check m s σ ≡ Ok tt → (z : ℤ) → dn z ≤ 2 ^ 63 → (out : List ℕ) (j : ℕ) → j < length out
    → pos (2 ^ 63) ≤ℤ (z +ℤ pos j) → get_or (window_into m s z σ out) j 0 ≡ 0
unfolding window_into window_from window_all window_cell window_on
chain_window_past m s σ c z low out j there h =
    let b : 2 ^ 64 ≤ raised_of z + j = omega (arith, far z j h) in
    rw c (fill_in (window_cell σ (raised_of z)) (length out) 0 out j 0 (omega arith) (omega arith) there ∙ pick_false _ _ _ (le-ltb _ _ b))
