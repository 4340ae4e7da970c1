-- The bytes of entry i of a table s (document 01, machine.rs): the entry's number, and the table check of its bytes. Definitions only.
use Rattle.std.specs.Prelude.{Bool, List, [], ◌∷◌, ℕ, ◌+◌, ◌*◌, ◌/◌, ◌%◌, eqb, ltb, leb, get_or}
use Rattle.notation.specs.Choice.{pick, both}
use Rattle.notation.specs.Scan.{all_in}

-- "The entry for state q and symbols a0, a1, a2 is number q × stride + a0 + k × a1 + k² × a2."
abbrev pub entry_number : (k stride q a0 a1 a2 : ℕ) → ℕ
entry_number k stride q a0 a1 a2 = q * stride + a0 + k * a1 + k * k * a2

-- byte 0 of entry i: "1 for a defined entry"
abbrev pub flag_at : List ℕ → ℕ → ℕ
flag_at s i = get_or s (8 * i) 0

-- byte j of entry i
abbrev pub byte_at : List ℕ → ℕ → ℕ → ℕ
byte_at s i j = get_or s (8 * i + j) 0

abbrev pub within : ℕ → ℕ → ℕ → Bool
within low high x = both (leb low x) (leb x high)

-- "Eight bytes each: byte 0 is 1 for a defined entry; bytes 1 and 2 the next state, low byte first; 3 to 5 the writes; 6 is d0 + 3 × d1 + 9 × d2 ..; 7 is 0."
abbrev pub defined_bytes : (next w0 w1 w2 moves : ℕ) → List ℕ
defined_bytes next w0 w1 w2 moves = 1 ∷ (next % 256) ∷ (next / 256) ∷ w0 ∷ w1 ∷ w2 ∷ moves ∷ 0 ∷ []

-- ---- one entry, for n states, t tapes and k symbols

abbrev pub zero_at : List ℕ → ℕ → ℕ → Bool
zero_at s i j = eqb (byte_at s i j) 0

-- the check of a defined entry apart from its writes
abbrev pub head_ok : (n b0 next moves b7 : ℕ) → Bool
head_ok n b0 next moves b7 = both (eqb b0 1) (both (ltb next n) (both (ltb moves 27) (eqb b7 0)))

-- a tape's write is a symbol; for a tape that the machine lacks, the write is blank and the move is N
abbrev pub tape_ok : (has : Bool) (k write move : ℕ) → Bool
tape_ok has k write move = pick has (ltb write k) (both (eqb write 0) (eqb move 2))

abbrev pub writes_ok : (t k w0 w1 w2 moves : ℕ) → Bool
writes_ok t k w0 w1 w2 moves =
    both (ltb w0 k)
    (both (tape_ok (ltb 1 t) k w1 (moves / 3 % 3)) (tape_ok (ltb 2 t) k w2 (moves / 9 % 3)))

abbrev pub defined_for : (n t k : ℕ) → List ℕ → ℕ → Bool
defined_for n t k s i =
    both
    (head_ok n (flag_at s i) (byte_at s i 1 + 256 * byte_at s i 2) (byte_at s i 6) (byte_at s i 7))
    (writes_ok t k (byte_at s i 3) (byte_at s i 4) (byte_at s i 5) (byte_at s i 6))

-- an undefined entry is eight zeros
abbrev pub entry_for : (n t k : ℕ) → List ℕ → ℕ → Bool
entry_for n t k s i = pick (eqb (flag_at s i) 0) (all_in (zero_at s i) 8 0) (defined_for n t k s i)
