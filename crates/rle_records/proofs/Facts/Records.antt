-- What a slice of records holds after `fill`, place by place, and the lemmas that the proofs of the code need. Assumes nothing.
use Rattle.std.specs.Prelude.{◌≡◌, List, eqb, get_or, Err, Ok}
use Rattle.std.proofs.Math.Path.{refl, ap}
use Rattle.std.proofs.Common.{sym, ◌∙◌, add-one, get_or-set_same}
use Prim.Native.Nat.{ℕ, zero, suc, ◌+◌, ◌<◌, ◌≤◌}
use native.Mathlib.Omega.{arith}
use Rattle.std.proofs.Math.ListN.{set, length, length-set}
use Rattle.std.proofs.Math.Seq.{get_or-set_other}
use borrow.Author.Tests.{eqb-true, eqb-false, le-leb, lt-leb}
use Rattle.notation.specs.Choice.{pick}
use Rattle.notation.proofs.Facts.Tests.{by_test}
use Rattle.outcome.specs.declared.Refusal.TheVariants as Why
use Rattle.rle_stack.specs.Model.{Side, side}
use Rattle.rle_records.specs.declared.Run.{Run}
use Rattle.rle_records.specs.Model.{run_at, lay, records_of, room_for}

module _ (ss ls : List ℕ) where
  pub lay_zero : (out : List Run) → out ≡ lay ss ls 0 out
  unfolding lay
  lay_zero out = refl

  pub lay_next : (n : ℕ) (out : List Run) (r : Run) → r ≡ run_at ss ls n → set (lay ss ls n out) n r ≡ lay ss ls (n + 1) out
  unfolding lay
  lay_next n out r e = ap (λ (y : Run). set (lay ss ls n out) n y) e ∙ ap (λ (m : ℕ). lay ss ls m out) (sym (add-one n))

  pub length_lay : (n : ℕ) (out : List Run) → length (lay ss ls n out) ≡ length out
  unfolding lay
  length_lay zero out = refl
  length_lay (suc n) out = length-set (lay ss ls n out) n (run_at ss ls n) ∙ length_lay n out

  lay_rest : (n i : ℕ) (out : List Run) (d : Run) → n ≤ i → get_or (lay ss ls n out) i d ≡ get_or out i d
  unfolding lay
  lay_rest zero i out d h = refl
  lay_rest (suc n) i out d h = get_or-set_other (lay ss ls n out) n i _ d (λ e. omega arith) ∙ lay_rest n i out d (omega arith)

  lay_live : (n i : ℕ) (out : List Run) (d : Run) → n ≤ length out → i < n → get_or (lay ss ls n out) i d ≡ run_at ss ls i
  unfolding lay
  lay_live zero i out d h g = absurd (let z : ⊥ = omega arith in z)
  lay_live (suc n) i out d h g =
      let l : length (lay ss ls n out) ≡ length out = length_lay n out in
      by_test (eqb i n)
      (λ t. rw (eqb-true i n t) (get_or-set_same (lay ss ls n out) n (run_at ss ls n) d (omega arith)))
      (λ f.
      let e : i ≡ n → ⊥ = eqb-false i n f in
      get_or-set_other (lay ss ls n out) n i _ d e ∙ lay_live n i out d (omega arith) (omega (arith, e)))

-- ---- place by place, of a slice with room for the side's runs

module _ (x : Side) (out : List Run) where
  pub laid : lay x.symbols x.lengths x.count out ≡ records_of x out
  unfolding records_of
  laid = refl

  pub records_live : (i : ℕ) (d : Run) → x.count ≤ length out → i < x.count → get_or (records_of x out) i d ≡ run_at x.symbols x.lengths i
  unfolding records_of
  records_live i d h g = lay_live x.symbols x.lengths x.count i out d h g

  pub records_rest : (i : ℕ) (d : Run) → x.count ≤ i → get_or (records_of x out) i d ≡ get_or out i d
  unfolding records_of
  records_rest i d h = lay_rest x.symbols x.lengths x.count i out d h

  pub length_records : length (records_of x out) ≡ length out
  unfolding records_of
  length_records = length_lay x.symbols x.lengths x.count out

pub records_none : (ss ls : List ℕ) (out : List Run) → records_of (side ss ls 0) out ≡ out
unfolding records_of lay
records_none ss ls out = refl

-- ---- the answer

pub room_short : (count room : ℕ) → room < count → Err Why.OutputSize ≡ room_for count room
unfolding room_for pick
room_short count room h = rw (lt-leb count room h)

pub room_enough : (count room : ℕ) → count ≤ room → Ok count ≡ room_for count room
unfolding room_for pick
room_enough count room h = rw (le-leb count room h)
