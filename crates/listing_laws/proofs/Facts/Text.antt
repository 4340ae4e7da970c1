-- Text read and text printed: each number, letter and line has exactly one text. Assumes nothing.
use Rattle.std.specs.Prelude.{ℕ, zero, suc, ◌+◌, ◌*◌, ◌-◌, ◌/◌, ◌%◌, ◌^◌, ◌≤◌, ◌<◌, ◌≡◌, refl, Bool, true, false, List, [], ◌∷◌, ◌++◌, eqb, ltb, length, None, Some}
use Rattle.std.proofs.Common.{sym, ap, ◌∙◌, append-nil, arith, pow-suc, ltb-true, ltb-false, leb-true, eqb-true, lt-ltb, le-ltb, ne_eqb}
use Rattle.std.proofs.Math.Nat.{pow-zero}
use Rattle.std.proofs.lemmas.Bool.{eqb-false}
use Rattle.notation.specs.Choice.{pick}
use Rattle.notation.proofs.Facts.Tests.{clash, both_split, by_test, pick_true, pick_false, pick_cases}
use Rattle.symbol.specs.declared.Dir.{Dir}
use Rattle.symbol.specs.declared.Dir.TheVariants.{L, R, N}
use Rattle.listing_text.specs.Text.{bytes}
use Rattle.listing_text.specs.Pieces.{onto, pieces, fields, same_list}
use Rattle.listing_text.specs.Numbers.{is_digit, digits, number}
use Rattle.listing_text.specs.Show.{show, show_on}
use Rattle.listing_text.proofs.Facts.PieceCases.{some_field}
use Rattle.listing_text.proofs.Facts.Chain.{no_value, pick_inv}
use Rattle.listing_lines.specs.Forms.{move}
use Rattle.listing_lines.proofs.Facts.Forms.{no_some}
use Rattle.listing_laws.specs.EntryLines.{joined, letter_of}

-- ---- numbers

digit_is : (u b : ℕ) (s : List ℕ) (v : ℕ) → digits u (b ∷ s) ≡ Some v → (48 ≤ b) × (b ≤ 57) × (digits (u * 10 + (b - 48)) s ≡ Some v)
unfolding digits
digit_is u b s v p =
    let q = pick_inv (is_digit b) _ no_value p in
    let r = both_split q.0 in
    (leb-true 48 b r.0, leb-true b 57 r.1, q.1)

last_is : (u v : ℕ) → digits u [] ≡ Some v → (u ≡ v) × (v < 2 ^ 64)
unfolding digits
last_is u v p =
    let q = pick_inv (ltb u (2 ^ 64)) (Some u) no_value p in
    let e : u ≡ v = cc in
    (e, rw (← e) (ltb-true u (2 ^ 64) q.0))

value_ok : (s : List ℕ) (u v : ℕ) → digits u s ≡ Some v → (u ≤ v) × (v < 2 ^ 64)
value_ok [] u v p = let q = last_is u v p in (omega (arith, q.0), q.1)
value_ok (b ∷ s) u v p =
    let q = digit_is u b s v p in
    let r = value_ok s (u * 10 + (b - 48)) v q.2 in
    (omega (arith, r.0), r.1)

-- the last digit split off
digit_off : (f u b : ℕ) (after : List ℕ) → 48 ≤ b → b ≤ 57 → 0 < u → show_on (suc f) (u * 10 + (b - 48)) after ≡ show_on f u (b ∷ after)
unfolding show_on
digit_off f u b after h g k =
    let w : ℕ = u * 10 + (b - 48) in
    let x : w / 10 ≡ u = omega arith in
    let y : 48 + w % 10 ≡ b = omega arith in
    pick_false (ltb w 10) ((48 + w % 10) ∷ after) (show_on f (w / 10) ((48 + w % 10) ∷ after)) (le-ltb w 10 (omega arith))
    ∙ (λ i. show_on f (x i) (y i ∷ after))

-- the digits after u, split off one by one
spelled : (s : List ℕ) (u v f : ℕ) (after : List ℕ) → 0 < u → digits u s ≡ Some v → show_on (f + length s) v after ≡ show_on f u (s ++ after)
spelled [] u v f after h p =
    let q = last_is u v p in
    let z : f + 0 ≡ f = omega arith in
    λ i. show_on (z i) (sym q.0 i) after
spelled (b ∷ s) u v f after h p =
    let q = digit_is u b s v p in
    let z : f + suc (length s) ≡ suc f + length s = omega arith in
    ap (λ (n : ℕ). show_on n v after) z
    ∙ spelled s (u * 10 + (b - 48)) v (suc f) after (omega arith) q.2
    ∙ digit_off f u b (s ++ after) q.0 q.1 h

-- a larger bound on the digits shows no more digits
enough_turn : (f g v : ℕ) (after : List ℕ) → (10 ≤ v → show_on g (v / 10) ((48 + v % 10) ∷ after) ≡ show_on f (v / 10) ((48 + v % 10) ∷ after))
    → show_on (suc g) v after ≡ show_on (suc f) v after
unfolding show_on
enough_turn f g v after rest =
    by_test (ltb v 10)
    (λ t. pick_true (ltb v 10) _ _ t ∙ sym (pick_true (ltb v 10) _ _ t))
    (λ t. pick_false (ltb v 10) _ _ t ∙ rest (ltb-false v 10 t) ∙ sym (pick_false (ltb v 10) _ _ t))

enough : (f g v : ℕ) (after : List ℕ) → 0 < v → v < 10 ^ f → f ≤ g → show_on g v after ≡ show_on f v after
enough zero g v after h l k = absurd (omega (arith, pow-zero 10))
enough (suc f) zero v after h l k = absurd (omega arith)
enough (suc f) (suc g) v after h l k =
    enough_turn f g v after (λ r. enough f g (v / 10) ((48 + v % 10) ∷ after) (omega arith) (omega (arith, pow-suc 10 f)) (omega arith))

show_digit : (v : ℕ) (after : List ℕ) → v < 10 → show_on 20 v after ≡ (48 + v) ∷ after
unfolding show_on
show_digit v after h =
    let z : 48 + v % 10 ≡ 48 + v = omega arith in
    pick_true (ltb v 10) ((48 + v % 10) ∷ after) (show_on 19 (v / 10) ((48 + v % 10) ∷ after)) (lt-ltb v 10 h) ∙ ap (λ (b : ℕ). b ∷ after) z

-- a number has one text
pub show_of : (f : List ℕ) (v : ℕ) → number f ≡ Some v → f ≡ show v
unfolding number show
show_of [] v p = absurd (no_value p)
show_of (b ∷ []) v p =
    let q = digit_is 0 b [] v p in
    let e = last_is (0 * 10 + (b - 48)) v q.2 in
    let z : b ≡ 48 + v = omega (arith, q.0, q.1, e.0) in
    ap (λ n. n ∷ []) z ∙ sym (show_digit v [] (omega (arith, q.0, q.1, e.0)))
show_of (b ∷ c ∷ s) v p =
    let t : eqb b 48 ≡ false = by_test (eqb b 48) (λ t. absurd (no_value (sym (pick_true (eqb b 48) None _ t) ∙ p))) (λ t. t) in
    let n : b ≡ 48 → ⊥ = eqb-false b 48 t in
    let q = digit_is 0 b (c ∷ s) v (sym (pick_false (eqb b 48) None (digits 0 (b ∷ c ∷ s)) t) ∙ p) in
    let u : ℕ = 0 * 10 + (b - 48) in
    let h : 0 < u = omega (arith, q.0, n) in
    let o = value_ok (c ∷ s) u v q.2 in
    let z : 48 + u ≡ b = omega (arith, q.0) in
    sym (
    sym (enough 20 (20 + length (c ∷ s)) v [] (omega (arith, o.0)) (omega (arith, o.1)) (omega arith))
    ∙ spelled (c ∷ s) u v 20 [] h q.2
    ∙ show_digit u ((c ∷ s) ++ []) (omega (arith, q.1))
    ∙ (λ i. z i ∷ append-nil (c ∷ s) i)
    )

-- ---- letters, and lines that are fixed

pub same_is : (a b : List ℕ) → same_list a b ≡ true → a ≡ b
unfolding same_list
same_is [] [] p = refl
same_is [] (y ∷ ys) p = absurd (clash p refl)
same_is (x ∷ xs) [] p = absurd (clash p refl)
same_is (x ∷ xs) (y ∷ ys) p =
    let q = both_split p in
    let e : x ≡ y = eqb-true x y q.0 in
    let r : xs ≡ ys = same_is xs ys q.1 in
    λ i. e i ∷ r i

pub letter_of_lem : (f : List ℕ) (v : Dir) → move f ≡ Some v → f ≡ letter_of v
unfolding move pick
letter_of_lem f v p = go (same_list f (bytes "L")) refl (same_list f (bytes "R")) refl (same_list f (bytes "N")) refl p
  where
    go : (a : Bool) → same_list f (bytes "L") ≡ a → (b : Bool) → same_list f (bytes "R") ≡ b → (c : Bool) → same_list f (bytes "N") ≡ c
        → pick a (Some L) (pick b (Some R) (pick c (Some N) None)) ≡ Some v → f ≡ letter_of v
    go true x b y c z p = let k : L ≡ v = cc in rw (← k) (same_is f (bytes "L") x)
    go false x true y c z p = let k : R ≡ v = cc in rw (← k) (same_is f (bytes "R") y)
    go false x false y true z p = let k : N ≡ v = cc in rw (← k) (same_is f (bytes "N") z)
    go false x false y false z p = absurd (no_some p)

-- ---- a line is its fields, with a space between them

joined-onto : (b : ℕ) (ps : List (List ℕ)) → (length ps ≡ 0 → ⊥) → joined (onto b ps) ≡ b ∷ joined ps
unfolding joined onto
joined-onto b [] h = absurd (h refl)
joined-onto b (p ∷ []) h = refl
joined-onto b (p ∷ q ∷ ps) h = refl

joined_blank : (ps : List (List ℕ)) → (length ps ≡ 0 → ⊥) → joined ([] ∷ ps) ≡ 32 ∷ joined ps
unfolding joined
joined_blank [] h = absurd (h refl)
joined_blank (p ∷ ps) h = refl

pub joined-fields : (l : List ℕ) → joined (fields l) ≡ l
unfolding pieces joined
joined-fields [] = refl
joined-fields (b ∷ s) = turn (joined-fields s)
  where
    turn : joined (fields s) ≡ s → joined (pick (eqb b 32) ([] ∷ fields s) (onto b (fields s))) ≡ b ∷ s
    turn e =
        by_test (eqb b 32)
        (λ t. ap joined (pick_true (eqb b 32) ([] ∷ fields s) (onto b (fields s)) t) ∙ joined_blank (fields s) (some_field 32 s) ∙ (λ i. sym (eqb-true b 32 t) i ∷ e i))
        (λ t. ap joined (pick_false (eqb b 32) ([] ∷ fields s) (onto b (fields s)) t) ∙ joined-onto b (fields s) (some_field 32 s) ∙ ap (λ u. b ∷ u) e)

-- a text without a space
abbrev pub Plain : List ℕ → Type 0
Plain [] = Unit {0}
Plain (b ∷ s) = (32 < b) × Plain s

abbrev pub AllPlain : List (List ℕ) → Type 0
AllPlain [] = Unit {0}
AllPlain (f ∷ fs) = Plain f × AllPlain fs

fields-one : (f : List ℕ) → Plain f → fields f ≡ f ∷ []
unfolding pieces onto pick
fields-one [] p = refl
fields-one (b ∷ f) p = rw (ne_eqb b 32 (λ z. omega (arith, p.0)), fields-one f p.1)

fields-more : (f s : List ℕ) → Plain f → fields (f ++ 32 ∷ s) ≡ f ∷ fields s
unfolding pieces onto pick
fields-more [] s p = refl
fields-more (b ∷ f) s p = rw (ne_eqb b 32 (λ z. omega (arith, p.0)), fields-more f s p.1)

pub fields-joined : (f : List ℕ) (fs : List (List ℕ)) → AllPlain (f ∷ fs) → fields (joined (f ∷ fs)) ≡ f ∷ fs
unfolding joined
fields-joined f [] p = fields-one f p.0
fields-joined f (g ∷ fs) p = fields-more f (joined (g ∷ fs)) p.0 ∙ ap (λ u. f ∷ u) (fields-joined g fs p.1)

plain_on : (f n : ℕ) (after : List ℕ) → Plain after → Plain (show_on f n after)
unfolding show_on
plain_on zero n after p = p
plain_on (suc f) n after p =
    let r : Plain (show_on f (n / 10) ((48 + n % 10) ∷ after)) = plain_on f (n / 10) ((48 + n % 10) ∷ after) (omega arith, p) in
    pick_cases (ltb n 10) ((48 + n % 10) ∷ after) (show_on f (n / 10) ((48 + n % 10) ∷ after)) Plain (λ _. (omega arith, p)) (λ _. r)

pub plain-show : (n : ℕ) → Plain (show n)
unfolding show
plain-show n = plain_on 20 n [] tt

pub plain_letter : (d : Dir) → Plain (letter_of d)
plain_letter L = (omega arith, tt)
plain_letter R = (omega arith, tt)
plain_letter N = (omega arith, tt)
