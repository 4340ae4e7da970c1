-- What the answers to the questions say about a tape's cells, independent of how the code finds them. Definitions only.
use Rattle.std.specs.Prelude.{◌≡◌, ℕ, ℤ, ◌≤ℤ◌, ◌<ℤ◌, None, Option, Some}
use Rattle.symbol.specs.declared.Dir.{Dir}
use Rattle.symbol.specs.declared.Dir.TheVariants.{L, R, N}
use Rattle.tape.specs.declared.Span.{Span}
use Rattle.tape.specs.Model.Questions.{span}

-- y is z or lies beyond z in that direction; for N it is z
abbrev pub Toward : Dir → (z y : ℤ) → Type 0
Toward L z y = y ≤ℤ z
Toward R z y = z ≤ℤ y
Toward N z y = y ≡ z

-- a search in that direction reaches x before y
abbrev pub Before : Dir → (x y : ℤ) → Type 0
Before L x y = y <ℤ x
Before R x y = x <ℤ y
Before N x y = ⊥

-- "`find_non_blank` answers none exactly where there is no such cell": none, or the nearest
pub data Finds (cell : ℤ → ℕ) (z : ℤ) (d : Dir) : Option ℤ → Type 0 where
  no_cell : ((y : ℤ) → Toward d z y → cell y ≡ 0) → Finds cell z d None
  nearest : (y : ℤ) → Toward d z y → (cell y ≡ 0 → ⊥) → ((x : ℤ) → Toward d z x → Before d x y → cell x ≡ 0) → Finds cell z d (Some y)

-- `non_blank`: the smallest range that contains every non-blank cell, if there is one
pub data Spans (cell : ℤ → ℕ) : Option Span → Type 0 where
  no_cells : ((y : ℤ) → cell y ≡ 0) → Spans cell None
  range : (a b : ℤ) → (cell a ≡ 0 → ⊥) → (cell b ≡ 0 → ⊥) → ((y : ℤ) → y <ℤ a → cell y ≡ 0) → ((y : ℤ) → b <ℤ y → cell y ≡ 0)
      → Spans cell (Some (span a b))
