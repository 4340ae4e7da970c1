-- The runs of a side as records: the lent slice after `left` and `right`. Assumes nothing.
use Rattle.outcome.specs.declared.Refusal.{Refusal}
use Rattle.std.specs.Prelude.{◌≡◌, leb, length, get_or, Err, Ok, Result, ⊤}
use Rattle.std.proofs.Math.Path.{refl, sym, ap}
use Rattle.std.proofs.Common.{◌∙◌, arith, le-leb, leb-true, length-append, drop-cons}
use mathlib.Core.List.{List, [], ◌∷◌, ◌++◌, append_assoc}
use Prim.Native.Nat.{ℕ, zero, suc, ◌≤◌}
use Rattle.std.proofs.Math.ListN.{drop, set}
use Rattle.std.proofs.Math.Seq.{set-append_seam}
use Rattle.notation.proofs.Facts.Tests.{by_test, pick_true, pick_false}
use Rattle.outcome.specs.declared.Refusal.TheVariants as Why
use Rattle.machine.specs.declared.Machine.{Machine}
use Rattle.rle_stack.specs.Model.{Side}
use Rattle.rle_records.specs.declared.Run.{Run}
use Rattle.rle_records.specs.Model.{run_at, lay, records_of, room_for}
use Rattle.rle.specs.Model.Engine.{Conf, left_of, right_of}
use Rattle.rle.specs.Fits.{engine_check}
use Rattle.rle.specs.Model.Records.{listed_on, side_answer, side_into, left_answer, left_into, right_answer, right_into}
use Rattle.rle_refines.specs.Meaning.{stack_upto, stack_of}
use Rattle.rle_refines.specs.Full.{height}
use Rattle.demands_second.specs.ChainClaims.{topmost_last, Lists}

module _ (ss ls : List ℕ) where
  height_upto : (n : ℕ) → height (stack_upto ss ls n) ≡ n
  height_upto zero = refl
  height_upto (suc n) = ap suc (height_upto n)

  length_runs : (n : ℕ) → length (topmost_last (stack_upto ss ls n)) ≡ n
  length_runs zero = refl
  length_runs (suc n) = omega (arith, length-append (topmost_last (stack_upto ss ls n)) (run_at ss ls n ∷ []), length_runs n)

  -- the first n places hold the first n runs
  laid_is : (n : ℕ) (out : List Run) → n ≤ length out → lay ss ls n out ≡ topmost_last (stack_upto ss ls n) ++ drop n out
  unfolding lay
  laid_is zero out h = refl
  laid_is (suc n) out h =
      let r : Run = run_at ss ls n in
      let before : List Run = topmost_last (stack_upto ss ls n) in
      ap (λ (l : List Run). set l n r) (laid_is n out (omega arith) ∙ ap (λ (l : List Run). before ++ l) (drop-cons out n r (omega arith)))
      ∙ ap (λ (i : ℕ). set (before ++ (get_or out n r ∷ drop (suc n) out)) i r) (sym (length_runs n))
      ∙ set-append_seam before (get_or out n r) (drop (suc n) out) r
      ∙ sym (append_assoc before (r ∷ []) (drop (suc n) out))

-- ---- the answer

room_says : (count room n : ℕ) → room_for count room ≡ Ok n → (count ≡ n) × (count ≤ room)
unfolding room_for
room_says count room n e = by_test (leb count room)
    (λ t. let q = sym (pick_true (leb count room) (Ok count) (Err Why.OutputSize) t) ∙ e in (cc, leb-true count room t))
    (λ t. let q = sym (pick_false (leb count room) (Ok count) (Err Why.OutputSize) t) ∙ e in let z : ◌≡◌ {A = ℕ} 0 1 = cc in absurd (omega arith))

listed_says : (c : Result ⊤ Refusal) (x : Result ℕ Refusal) (n : ℕ) → listed_on c x ≡ Ok n → (c ≡ Ok tt) × (x ≡ Ok n)
listed_says (Err why) x n e = let z : ◌≡◌ {A = ℕ} 0 1 = cc in absurd (omega arith)
listed_says (Ok tt) x n e = (refl, e)

module _ (m : Machine) (s : List ℕ) (σ : Conf) (x : Side) (out : List Run) where
  side_lists : (n : ℕ) → side_answer m s x.count (length out) σ ≡ Ok n
      → Lists (stack_of x) n out (side_into (side_answer m s x.count (length out) σ) x out)
  unfolding side_answer records_of
  side_lists n e =
      let p = room_says x.count (length out) n (listed_says (engine_check m s σ) _ n e).1 in
      rw e (record {
        number = sym p.0 ∙ sym (height_upto x.symbols x.lengths x.count);
        places = laid_is x.symbols x.lengths x.count out p.1 ∙ ap (λ i. topmost_last (stack_of x) ++ drop i out) p.0;
      })

  side_answers : engine_check m s σ ≡ Ok tt → height (stack_of x) ≤ length out → side_answer m s x.count (length out) σ ≡ Ok (height (stack_of x))
  unfolding side_answer room_for
  side_answers c h =
      let q : height (stack_of x) ≡ x.count = height_upto x.symbols x.lengths x.count in
      ap (λ y. listed_on y (room_for x.count (length out))) c ∙ pick_true _ _ _ (le-leb x.count (length out) (omega (arith, q))) ∙ ap Ok (sym q)

module _ (m : Machine) (s : List ℕ) (σ : Conf) (out : List Run) where
  pub left_lists : (n : ℕ) → left_answer m s (length out) σ ≡ Ok n → Lists (stack_of (left_of σ)) n out (left_into m s σ out)
  left_lists n e = side_lists m s σ (left_of σ) out n e

  pub right_lists : (n : ℕ) → right_answer m s (length out) σ ≡ Ok n → Lists (stack_of (right_of σ)) n out (right_into m s σ out)
  right_lists n e = side_lists m s σ (right_of σ) out n e

  pub left_answers : engine_check m s σ ≡ Ok tt → height (stack_of (left_of σ)) ≤ length out → left_answer m s (length out) σ ≡ Ok (height (stack_of (left_of σ)))
  left_answers c h = side_answers m s σ (left_of σ) out c h

  pub right_answers : engine_check m s σ ≡ Ok tt → height (stack_of (right_of σ)) ≤ length out → right_answer m s (length out) σ ≡ Ok (height (stack_of (right_of σ)))
  right_answers c h = side_answers m s σ (right_of σ) out c h
