-- Positions of a two-way tape, which are integers: the test for equality, the smaller and the larger of two, and the position of an index. Definitions only.
use Rattle.std.specs.Prelude.{Bool, false, ℕ, zero, suc, eqb, ℤ, pos, negsuc}
use Rattle.std.proofs.Math.IntN.{sub_ℕ}
use Rattle.std.specs.Int.Signed.{le_z}
use Rattle.notation.specs.Choice.{pick}

abbrev pub eq_z : ℤ → ℤ → Bool
eq_z (pos a) (pos b) = eqb a b
eq_z (pos a) (negsuc b) = false
eq_z (negsuc a) (pos b) = false
eq_z (negsuc a) (negsuc b) = eqb a b

abbrev pub min_ℤ : ℤ → ℤ → ℤ
min_ℤ x y = pick (le_z x y) x y

abbrev pub max_ℤ : ℤ → ℤ → ℤ
max_ℤ x y = pick (le_z x y) y x

infixl 6 ◌⊖◌
-- i − o: the position of index i where index o is position 0
unfoldable pub ◌⊖◌ : ℕ → ℕ → ℤ
i ⊖ o = sub_ℕ i o

-- an integer is up z − dn z, and one of the two is 0
abbrev pub up : ℤ → ℕ
up (pos n) = n
up (negsuc n) = zero

abbrev pub dn : ℤ → ℕ
dn (pos n) = zero
dn (negsuc n) = suc n
