-- The library's words for comparing, cutting and printing, as the definitions of this crate. Assumes nothing.
use Rattle.std.specs.Prelude.{◌≡◌, refl, Bool, true, false, cond, not, ◌&&◌, List, [], ◌∷◌, ℕ, suc, ◌+◌, ◌-◌, ◌%◌, ◌<◌, ◌≤◌, ◌^◌, eqb, ltb, length, get_or, take, drop, slice_get, Option, Some, None, unwrap_or}
use Rattle.std.proofs.Common.{sym, ap, ◌∙◌, arith, append-nil, lt-ltb, le-ltb, ltb-true, ltb-false, length-drop, take_all}
use denote.Bor.{Bor}
use lib.Pointwise.{pointwise}
use Rattle.std.specs.List.{slice_split, onto_first, position_or_len, position, count_by}
use Rattle.std.specs.Option.{option_map}
use Rattle.std.proofs.lemmas.Option.{unwrap_or-slice_get}
use Rattle.std.proofs.lemmas.List.Sums.{count_by-le-length}
use Rattle.std.proofs.lemmas.List.Splits.{length-slice_split}
use Rattle.std.specs.Fmt.{decimal}
use Rattle.std.proofs.lemmas.Fmt.{PrependsLastDigit, decimal_from_prepends, length-decimal-le}
use Rattle.notation.specs.Choice.{pick, both}
use Rattle.listing_text.specs.Pieces.{onto, pieces, same_list, fields, field}
use Rattle.listing_text.specs.Show.{show, show_on}
use Rattle.listing_text.specs.Model.{up_to}
use Rattle.listing_text.proofs.Facts.PieceCases.{up_to_le}

pub slice_split-fields : (s : List ℕ) → slice_split (λ b. eqb b 32) s ≡ fields s
unfolding pieces pick onto
slice_split-fields [] = refl
slice_split-fields (b ∷ s) = rw (slice_split-fields s) (by (eqb b 32) (fields s))
  where
    by : (t : Bool) (ps : List (List ℕ)) → cond t ([] ∷ ps) (onto_first b ps) ≡ pick t ([] ∷ ps) (onto b ps)
    by true ps = refl
    by false [] = refl
    by false (p ∷ ps) = refl

-- one field more than spaces
pub count_by-fields : (s : List ℕ) → (count_by (λ b. eqb b 32) s + 1 ≡ length (fields s)) × (count_by (λ b. eqb b 32) s + 1 ≤ length s + 1)
count_by-fields s =
    (sym (length-slice_split (λ b. eqb b 32) s) ∙ ap length (slice_split-fields s), omega (arith, count_by-le-length (λ b. eqb b 32) s))

-- field k, or no bytes
pub nth-field : (s : List ℕ) (k : ℕ) (r : Option (Bor (List ℕ))) (d : Bor (List ℕ)) → d.now ≡ [] → option_map (λ x. x.now) r ≡ slice_get (slice_split (λ b. eqb b 32) s) k
    → (unwrap_or r d).now ≡ field s k
nth-field s k r d z e =
    by r ∙ rw z (ap (λ o. unwrap_or o []) e ∙ unwrap_or-slice_get (slice_split (λ b. eqb b 32) s) k [] ∙ ap (λ ps. get_or ps k []) (slice_split-fields s))
  where
    by : (o : Option (Bor (List ℕ))) → (unwrap_or o d).now ≡ unwrap_or (option_map (λ x. x.now) o) d.now
    by None = refl
    by (Some x) = refl

position_or_len-up_to : (sep : ℕ) (s : List ℕ) → position_or_len (λ b. eqb b sep) s ≡ up_to sep s
unfolding up_to pick
position_or_len-up_to sep [] = refl
position_or_len-up_to sep (b ∷ s) = by (eqb b sep) _ (up_to sep s) (position_or_len-up_to sep s)
  where
    by : (t : Bool) (m n : ℕ) → m ≡ n → cond (not t) (1 + m) 0 ≡ pick t 0 (suc n)
    by true m n e = refl
    by false m n e = omega arith

-- the place of the first separator from `at` on
module _ (s : List ℕ) (at sep : ℕ) (inside : at ≤ length s) where
  -- the part that is searched, as the code cuts it
  part : List ℕ
  part = take (length s - at) (drop at s)

  part_is : part ≡ drop at s
  unfolding part
  part_is = take_all (length s - at) (drop at s) (omega (arith, length-drop at s))

  pub position-found : (i : ℕ) → position (λ b. eqb b sep) (take (length s - at) (drop at s)) ≡ Some i → (at ≤ at + i) × (at + i ≤ length s) × (at + i ≡ at + up_to sep (drop at s))
  unfolding part
  position-found i e =
      let f = by _ (length (drop at s)) _ refl (rw part_is at e) in
      (omega arith, omega (arith, f.0, length-drop at s), omega (arith, f.1, position_or_len-up_to sep (drop at s)))
    where
      by : (n l : ℕ) (t : Bool) → ltb n l ≡ t → cond t (Some n) None ≡ Some i → (n < l) × (n ≡ i)
      by n l true h e = (ltb-true n l h, cc)
      by n l false h e = let z : ◌≡◌ {A = ℕ} 0 1 = cc in absurd (omega arith)

  pub position-missing : position (λ b. eqb b sep) (take (length s - at) (drop at s)) ≡ None → (at ≤ length s) × (length s ≤ length s) × (length s ≡ at + up_to sep (drop at s))
  unfolding part
  position-missing e =
      let f = by _ (length (drop at s)) _ refl (rw part_is at e) in
      (inside, omega arith, omega (arith, f, length-drop at s, position_or_len-up_to sep (drop at s), up_to_le sep (drop at s)))
    where
      by : (n l : ℕ) (t : Bool) → ltb n l ≡ t → cond t (Some n) None ≡ None → l ≤ n
      by n l true h e = let z : ◌≡◌ {A = ℕ} 0 1 = cc in absurd (omega arith)
      by n l false h e = ltb-false n l h

prepends : PrependsLastDigit show_on
unfolding show_on pick
prepends = record {
  one = λ k n acc h. let e : n % 10 ≡ n = omega arith in rw (lt-ltb n 10 h, e) refl;
  more = λ k n acc h. rw (le-ltb n 10 h) refl;
}

pub decimal-show : (n : ℕ) → n < 2 ^ 64 → decimal n ≡ show n
unfolding show
decimal-show n h = sym (decimal_from_prepends show_on prepends 20 n [] h (length-decimal-le 20 n (omega arith) (omega arith) h) ∙ append-nil (decimal n))

pub pointwise-same_list : (a b : List ℕ) → pointwise eqb a b ≡ same_list a b
unfolding same_list both
pointwise-same_list [] [] = refl
pointwise-same_list [] (y ∷ ys) = refl
pointwise-same_list (x ∷ xs) [] = refl
pointwise-same_list (x ∷ xs) (y ∷ ys) = by (eqb x y) _ _ (pointwise-same_list xs ys)
  where
    by : (t r s : Bool) → r ≡ s → (t && r) ≡ both t s
    by true r s e = e
    by false r s e = refl
