-- Lines of a text, fields of a line: the pieces of a list of bytes between separators (document 01, "Listing"). Definitions only.
use Rattle.std.specs.Prelude.{ℕ, Bool, true, false, List, [], ◌∷◌, get_or, eqb}
use Rattle.notation.specs.Choice.{pick, both}

-- one more byte at the front of the first piece
unfoldable pub onto : ℕ → List (List ℕ) → List (List ℕ)
onto b [] = (b ∷ []) ∷ []
onto b (p ∷ ps) = (b ∷ p) ∷ ps

-- the pieces between separators; `last` is the result for no bytes
unfoldable pub pieces : (sep : ℕ) (last : List (List ℕ)) → List ℕ → List (List ℕ)
pieces sep last [] = last
pieces sep last (b ∷ s) = pick (eqb b sep) ([] ∷ pieces sep last s) (onto b (pieces sep last s))

-- "the last newline may be missing, and bytes after the last newline are a line only if there are any"
abbrev pub lines : List ℕ → List (List ℕ)
lines s = pieces 10 [] s

-- "Single spaces part fields": n spaces make n + 1 fields, and two spaces together have an empty field between them
abbrev pub fields : List ℕ → List (List ℕ)
fields l = pieces 32 ([] ∷ []) l

-- field i of a line, counted from 0; empty where there is none
abbrev pub field : List ℕ → ℕ → List ℕ
field l i = get_or (fields l) i []

-- whether two lists hold the same bytes
unfoldable pub same_list : List ℕ → List ℕ → Bool
same_list [] [] = true
same_list [] (y ∷ ys) = false
same_list (x ∷ xs) [] = false
same_list (x ∷ xs) (y ∷ ys) = both (eqb x y) (same_list xs ys)
