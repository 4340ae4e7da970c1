-- The laws of growth. Only these, the function that computes `extra`, and computed examples unfold it. Assumes nothing.
use Rattle.std.specs.Prelude.{ℕ, ◌+◌, ◌≤◌, ◌<◌, ◌≡◌, refl, false, leb}
use Rattle.std.proofs.Math.Decide.{dec_lt}
use Rattle.std.proofs.Common.{arith, leb-true, leb-false}
use Rattle.std.proofs.lemmas.Bool.{lt-leb}
use Rattle.notation.proofs.Facts.Tests.{pick_cases}
use Rattle.tape_cells.specs.Growth.{extra}

-- the buffer has space for the cells that a growth adds
pub extra_room : (len cap : ℕ) → 1 ≤ extra len cap → len + extra len cap ≤ cap
unfolding extra
extra_room len cap = pick_cases (leb (len + len) cap) len 0 (λ n. 1 ≤ n → len + n ≤ cap)
    (λ t h. leb-true (len + len) cap t)
    (λ t h. absurd (omega arith))

-- a growth adds at most as many cells as there are
pub extra_most : (len cap : ℕ) → extra len cap ≤ len
unfolding extra
extra_most len cap = pick_cases (leb (len + len) cap) len 0 (λ n. n ≤ len) (λ t. omega arith) (λ t. omega arith)

-- a growth doubles the length, where it adds a cell
pub extra_doubles : (len cap : ℕ) → 1 ≤ extra len cap → extra len cap ≡ len
unfolding extra
extra_doubles len cap = pick_cases (leb (len + len) cap) len 0 (λ n. 1 ≤ n → n ≡ len) (λ t h. refl) (λ t h. absurd (omega arith))

-- it adds no cell exactly where twice the length passes the buffer
pub extra-none : (len cap : ℕ) → 1 ≤ len → leb 1 (extra len cap) ≡ false → cap < len + len
unfolding extra
extra-none len cap some = pick_cases (leb (len + len) cap) len 0 (λ n. leb 1 n ≡ false → cap < len + len)
    (λ t e. absurd (omega (arith, leb-false 1 len e)))
    (λ t e. leb-false (len + len) cap t)

pub none-extra : (len cap : ℕ) → cap < len + len → leb 1 (extra len cap) ≡ false
unfolding extra
none-extra len cap l = pick_cases (leb (len + len) cap) len 0 (λ n. leb 1 n ≡ false)
    (λ t. absurd (omega (arith, leb-true (len + len) cap t)))
    (λ t. lt-leb 1 0 (omega arith))

-- ---- what follows

pub extra-within : (len cap : ℕ) → len ≤ cap → len + extra len cap ≤ cap
extra-within len cap h = by (dec_lt 0 (extra len cap))
  where
    by : Dec (0 < extra len cap) → len + extra len cap ≤ cap
    by (yes g) = extra_room len cap (omega arith)
    by (no g) = omega arith
