-- Facts on `pieces` for the code that cuts lines and fields, one for each path through it. Assumes nothing.
use Prim.Native.Nat.{ℕ, suc, ◌≤◌, ◌<◌}
use Rattle.std.specs.Prelude.{◌≡◌, refl, Bool, true, false, length, drop, eqb}
use Rattle.std.proofs.Common.{ap}
use mathlib.Core.List.{List, [], ◌∷◌}
use native.Mathlib.Omega.{arith}
use Rattle.std.proofs.Math.ListN.{take}
use Rattle.notation.specs.Choice.{pick}
use Rattle.notation.proofs.Facts.Tests.{pick_cases}
use Rattle.listing_text.specs.Pieces.{onto, pieces, lines}
use Rattle.listing_text.specs.Model.{up_to}

pub up_to_le : (sep : ℕ) (s : List ℕ) → up_to sep s ≤ length s
unfolding up_to
up_to_le sep [] = omega arith
up_to_le sep (b ∷ s) =
    let h : up_to sep s ≤ length s = up_to_le sep s in
    pick_cases (eqb b sep) 0 (suc (up_to sep s)) (λ n. n ≤ suc (length s)) (λ _. omega arith) (λ _. omega arith)

-- a separator within: the first piece, and the pieces after it
pub pieces_cut : (sep : ℕ) (last : List (List ℕ)) (s : List ℕ) → up_to sep s < length s
    → pieces sep last s ≡ take (up_to sep s) s ∷ pieces sep last (drop (suc (up_to sep s)) s)
unfolding up_to pieces pick onto
pieces_cut sep last [] h = absurd (let z : 0 < 0 = h in omega arith)
pieces_cut sep last (b ∷ s) h = go (eqb b sep) (pieces_cut sep last s) h
  where
    go : (t : Bool) → (up_to sep s < length s → pieces sep last s ≡ take (up_to sep s) s ∷ pieces sep last (drop (suc (up_to sep s)) s))
        → pick t 0 (suc (up_to sep s)) < suc (length s)
        → pick t ([] ∷ pieces sep last s) (onto b (pieces sep last s))
        ≡ take (pick t 0 (suc (up_to sep s))) (b ∷ s) ∷ pieces sep last (drop (suc (pick t 0 (suc (up_to sep s)))) (b ∷ s))
    go true f h = refl
    go false f h = rw (f (omega arith))

-- no separator: all that is left is one piece, if anything is left
tail-one : (sep b : ℕ) (last : List (List ℕ)) (s : List ℕ) (t : Bool) → onto b (pieces sep last s) ≡ (b ∷ s) ∷ []
    → pick t 0 (suc (up_to sep s)) ≡ suc (length s) → pick t ([] ∷ pieces sep last s) (onto b (pieces sep last s)) ≡ (b ∷ s) ∷ []
unfolding pick
tail-one sep b last s true k e = absurd (let z : 0 ≡ suc (length s) = e in omega arith)
tail-one sep b last s false k e = k

left_out : (sep : ℕ) (s : List ℕ) (t : Bool) → pick t 0 (suc (up_to sep s)) ≡ suc (length s) → up_to sep s ≡ length s
unfolding pick
left_out sep s true e = absurd (let z : 0 ≡ suc (length s) = e in omega arith)
left_out sep s false e = omega arith

pieces_last : (sep : ℕ) (last : List (List ℕ)) (s : List ℕ) → ((b : ℕ) → onto b last ≡ (b ∷ []) ∷ []) → up_to sep s ≡ length s → (length s ≡ 0 → ⊥)
    → pieces sep last s ≡ s ∷ []
unfolding up_to pieces onto
pieces_last sep last [] k e h = absurd (h refl)
pieces_last sep last (b ∷ []) k e h = tail-one sep b last [] (eqb b sep) (k b) e
pieces_last sep last (b ∷ c ∷ s) k e h =
    let q : pieces sep last (c ∷ s) ≡ (c ∷ s) ∷ [] = pieces_last sep last (c ∷ s) k (left_out sep (c ∷ s) (eqb b sep) e) (λ z. omega arith) in
    tail-one sep b last (c ∷ s) (eqb b sep) (ap (onto b) q) e

-- the last line where its newline is missing
pub lines_last : (s : List ℕ) → up_to 10 s ≡ length s → (length s ≡ 0 → ⊥) → lines s ≡ s ∷ []
unfolding onto
lines_last s e h = pieces_last 10 [] s (λ b. refl) e h

pub some_field : (sep : ℕ) (s : List ℕ) → length (pieces sep ([] ∷ []) s) ≡ 0 → ⊥
unfolding pieces pick onto
some_field sep [] e = omega arith
some_field sep (b ∷ s) e = go (eqb b sep) (pieces sep ([] ∷ []) s) (some_field sep s) e
  where
    go : (t : Bool) (ps : List (List ℕ)) → (length ps ≡ 0 → ⊥) → length (pick t ([] ∷ ps) (onto b ps)) ≡ 0 → ⊥
    go true ps n e = omega arith
    go false [] n e = n refl
    go false (p ∷ ps) n e = omega arith
