-- The symbols of a good word line: each is below k, and a line of 80 bytes has at most 40. Assumes nothing.
use Rattle.std.specs.Prelude.{ℕ, suc, ◌+◌, ◌*◌, ◌≤◌, ◌<◌, ◌≡◌, refl, List, [], ◌∷◌, ◌++◌, eqb, length, get_or, Some}
use Rattle.std.proofs.Common.{sym, ◌∙◌, arith, length-append}
use Rattle.std.proofs.Math.Decide.{dec_lt}
use Rattle.std.proofs.Math.ListN.{get_or-append}
use Rattle.std.proofs.Math.Seq.{get_or-append_seam}
use Rattle.notation.proofs.Facts.Tests.{by_test, pick_true, pick_false, pick_cases}
use Rattle.listing_text.specs.Pieces.{onto, pieces, fields}
use Rattle.listing_text.specs.Numbers.{number, on_num, below}
use Rattle.listing_text.proofs.Facts.PieceCases.{some_field}
use Rattle.listing_text.proofs.Facts.Chain.{no_value, num_inv}
use Rattle.listing_lines.specs.Forms.{symbols_of, word_of, symbols_before, word_before}
use Rattle.listing_lines.proofs.Facts.Forms.{no_some, below_lt}

-- ---- a line's bytes are those of its fields, and one space fewer than there are fields

unfoldable sizes : List (List ℕ) → ℕ
sizes [] = 0
sizes (p ∷ ps) = suc (length p) + sizes ps

sizes-onto : (b : ℕ) (ps : List (List ℕ)) → (length ps ≡ 0 → ⊥) → sizes (onto b ps) ≡ suc (sizes ps)
unfolding sizes onto
sizes-onto b [] h = absurd (h refl)
sizes-onto b (p ∷ ps) h = omega arith

sizes-fields : (sep : ℕ) (s : List ℕ) → sizes (pieces sep ([] ∷ []) s) ≡ suc (length s)
unfolding sizes pieces
sizes-fields sep [] = refl
sizes-fields sep (b ∷ s) =
    let ps : List (List ℕ) = pieces sep ([] ∷ []) s in
    let h : sizes ps ≡ suc (length s) = sizes-fields sep s in
    pick_cases (eqb b sep) ([] ∷ ps) (onto b ps) (λ l. sizes l ≡ suc (suc (length s))) (λ _. omega arith)
    (λ _. omega (arith, sizes-onto b ps (some_field sep s)))

-- ---- the symbols

abbrev pub AllBelow : ℕ → List ℕ → Type 0
AllBelow k w = (i : ℕ) → i < length w → get_or w i 0 < k

below_more : (k : ℕ) (w : List ℕ) (a : ℕ) → AllBelow k w → a < k → AllBelow k (w ++ (a ∷ []))
below_more k w a h g i l = by (dec_lt i (length w))
  where
    by : Dec (i < length w) → get_or (w ++ (a ∷ [])) i 0 < k
    by (yes q) = rw (get_or-append w (a ∷ []) 0 i q) (h i q)
    by (no q) =
        let e : i ≡ length w = omega (arith, length-append w (a ∷ []), q) in
        rw (e, get_or-append_seam w a [] 0) g

-- a number has at least one digit
digit_there : (k : ℕ) (f : List ℕ) (a : ℕ) → below k f ≡ Some a → 1 ≤ length f
unfolding below number on_num
digit_there k [] a p = absurd (no_value p)
digit_there k (b ∷ f) a p = omega arith

record Spelled (k : ℕ) (w : List ℕ) (fs : List (List ℕ)) (v : List ℕ) : Type 0 where
  in_range : AllBelow k v
  each : length v ≡ length w + length fs
  room : 2 * length fs ≤ sizes fs

spelled : (k : ℕ) (w : List ℕ) (fs : List (List ℕ)) (v : List ℕ) → AllBelow k w → symbols_of k w fs ≡ Some v → Spelled k w fs v
unfolding symbols_of sizes
spelled k w [] v h p =
    let e : w ≡ v = cc in
    record { in_range = rw e at h; each = rw e (omega arith); room = omega arith }
spelled k w (f ∷ fs) v h p =
    let i = num_inv (below k f) _ no_some p in
    let a : ℕ = i.0 in
    let r : Spelled k (w ++ (a ∷ [])) fs v = spelled k (w ++ (a ∷ [])) fs v (below_more k w a h (below_lt k f a i.1)) i.2 in
    record {
      in_range = r.in_range;
      each = omega (arith, r.each, length-append w (a ∷ []));
      room = omega (arith, r.room, digit_there k f a i.1);
    }

pub word_good : (k : ℕ) (l w : List ℕ) → length l ≤ 80 → word_of k l ≡ Some w → AllBelow k w × (length w ≤ 40)
unfolding word_of
word_good k l w h p =
    by_test (eqb (length l) 0)
    (λ t. let e : [] ≡ w = cc (pick_true (eqb (length l) 0) (Some []) (symbols_of k [] (fields l)) t) in rw (← e) ((λ i q. absurd (omega arith)), omega arith))
    (λ t.
    let q : symbols_of k [] (fields l) ≡ Some w = sym (pick_false (eqb (length l) 0) (Some []) (symbols_of k [] (fields l)) t) ∙ p in
    let r : Spelled k [] (fields l) w = spelled k [] (fields l) w (λ i z. absurd (omega arith)) q in
    (r.in_range, omega (arith, r.each, r.room, sizes-fields 32 l)))

-- ---- a word line without a bad field is read whole

symbols_whole : (k : ℕ) (w : List ℕ) (fs : List (List ℕ)) (v : List ℕ) → symbols_of k w fs ≡ Some v → symbols_before k w fs ≡ v
unfolding symbols_of symbols_before on_num
symbols_whole k w [] v p = cc
symbols_whole k w (f ∷ fs) v p =
    let i = num_inv (below k f) _ no_some p in
    rw i.1 (symbols_whole k (w ++ (i.0 ∷ [])) fs v i.2)

pub word-whole : (k : ℕ) (l v : List ℕ) → word_of k l ≡ Some v → word_before k l ≡ v
unfolding word_of word_before
word-whole k l v p =
    by_test (eqb (length l) 0)
    (λ t. pick_true (eqb (length l) 0) [] (symbols_before k [] (fields l)) t ∙ cc (pick_true (eqb (length l) 0) (Some []) (symbols_of k [] (fields l)) t))
    (λ t.
    pick_false (eqb (length l) 0) [] (symbols_before k [] (fields l)) t
    ∙ symbols_whole k [] (fields l) v (sym (pick_false (eqb (length l) 0) (Some []) (symbols_of k [] (fields l)) t) ∙ p))
