-- Little-endian numbers in bytes. Definitions only.
use Rattle.std.specs.Prelude.{◌≡◌, List, ℕ, ◌+◌, ◌*◌, ◌/◌, ◌%◌, ◌≤◌, ◌<◌, get_or, set}

unfoldable pub get16 : List ℕ → ℕ → ℕ
get16 s at = get_or s at 0 + 256 * get_or s (at + 1) 0

unfoldable pub get32 : List ℕ → ℕ → ℕ
get32 s at = get16 s at + 65536 * get16 s (at + 2)

unfoldable pub get64 : List ℕ → ℕ → ℕ
get64 s at = get32 s at + 4294967296 * get32 s (at + 4)

unfoldable pub put16 : List ℕ → ℕ → ℕ → List ℕ
put16 s at x = set (set s at (x % 256)) (at + 1) (x / 256)

unfoldable pub put32 : List ℕ → ℕ → ℕ → List ℕ
put32 s at x = put16 (put16 s at (x % 65536)) (at + 2) (x / 65536)

unfoldable pub put64 : List ℕ → ℕ → ℕ → List ℕ
put64 s at x = put32 (put32 s at (x % 4294967296)) (at + 4) (x / 4294967296)

-- the two lists have the same bytes at indices from lo to hi - 1
abbrev pub Agree : List ℕ → List ℕ → ℕ → ℕ → Type 0
Agree s t lo hi = (j : ℕ) → lo ≤ j → j < hi → get_or s j 0 ≡ get_or t j 0

-- none of the n indices from `at` on lies from lo to hi - 1
abbrev pub Apart : ℕ → ℕ → ℕ → ℕ → Type 0
Apart at n lo hi = (j : ℕ) → lo ≤ j → j < hi → at ≤ j → at + n ≤ j
