-- What the contracts of counts of bytes cite. Definitions only.
use Rattle.std.specs.Prelude.{◌≡◌, ℕ, ◌≤◌, List, length, take, Ok, Err, Result}
use Rattle.program_input.specs.declared.Unread.{Unread}

-- `&xs[..n]` is in bounds, and has n bytes
abbrev pub IsPrefixLen : ℕ → List ℕ → Type 0
IsPrefixLen n xs = (n ≤ length xs) × (n ≡ length (take n xs))

-- how many bytes were read, whether a read failed after them or not
abbrev pub size_of : Result ℕ Unread → ℕ
size_of (Ok n) = n
size_of (Err unread) = unread.size
