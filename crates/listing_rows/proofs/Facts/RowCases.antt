-- Facts for the code that prints rows: one row, and the rows of calls one after another. Assumes nothing.
use Rattle.std.specs.Prelude.{ℕ, ◌+◌, ◌*◌, ◌≤◌, ◌<◌, ◌≡◌, refl, length, get_or, Err, Ok, Result}
use Rattle.std.proofs.Math.Path.{sym, ap}
use Rattle.std.proofs.Common.{◌∙◌, arith, add-one, drop-cons, get_or-take, length-take-le}
use mathlib.Core.List.{List, [], ◌∷◌, ◌++◌, append_assoc, append-nil}
use Rattle.std.proofs.Math.ListN.{take, drop, drop_of_length-le}
use Rattle.std.proofs.Math.Seq.{paste, paste-zero}
use Rattle.notation.specs.Position.{◌⊖◌}
use Rattle.outcome.specs.declared.Outcome.{Outcome}
use Rattle.outcome.specs.declared.Refusal.{Refusal}
use Rattle.outcome.specs.Numbers.{refusal_number}
use Rattle.machine.specs.declared.Machine.{Machine}
use Rattle.tape.specs.Model.Moves.{held}
use Rattle.tape.specs.Model.Questions.{count_of}
use Rattle.tape.specs.Fits.{TapeOk}
use Rattle.sim.specs.declared.Simulator.{Simulator}
use Rattle.sim.specs.Model.Operations.{engine_check}
use Rattle.timeline_rule.specs.declared.Call.{Call}
use Rattle.timeline_rule.specs.declared.Call.TheVariants.{Seek}
use Rattle.timeline_rule.specs.Model.Timeline.{Reply, answered}
use Rattle.timeline_rule.specs.Model.Kind.{TimelineOf, call_on}
use Rattle.sim_slots.specs.Model.Kind.{plain_kind}
use Rattle.sim_timeline.specs.Model.{replied}
use Rattle.listing_text.specs.Text.{bytes}
use Rattle.listing_text.specs.Show.{show, show_ℤ}
use Rattle.listing_text.specs.Model.{Wrote}
use Rattle.listing_text.proofs.Facts.PrintCases.{wrote_long, wrote_then, wrote-put}
use Rattle.listing_rows.specs.Rows.{Row, row_of, rows_of, rows_on, lent_in, said, refused_line, row_line, row_lines, reply_of, row_most}
use Rattle.listing_rows.proofs.Facts.Call.{call_kept, tape_ok_holds}

-- ---- the calls from call i on

calls_next : (n i : ℕ) (c : List Call) → i < n → n ≤ length c → drop i (take n c) ≡ get_or c i (Seek 0) ∷ drop (i + 1) (take n c)
calls_next n i c h g = rw (add-one i, ← get_or-take n c i (Seek 0) h) (drop-cons (take n c) i (Seek 0) (omega (arith, length-take-le n c g)))

-- ---- a row

pub said-done : (o : List ℕ) (at : ℕ) (s o' : List ℕ) (r : ℕ) (a d : Outcome) → a ≡ d → (r ≡ at + length s) × (o' ≡ paste o at s (length s)) → s ≡ said d → length s ≤ 6 → at + 6 ≤ length o
    → Wrote o at (said a) o' r × (r ≤ at + 6)
said-done o at s o' r a d e p q l h = rw e (wrote-put o at s o' r (said d) q p (omega arith), omega (arith, p.0))

wrote-same : {o : List ℕ} {at : ℕ} {bs o' : List ℕ} {r : ℕ} (cs : List ℕ) → Wrote o at bs o' r → bs ≡ cs → Wrote o at cs o' r
wrote-same cs w e = rw e at w

regroup : (a b c h l u d e : List ℕ) → a ++ b ++ c ++ (h ++ l ++ u) ++ d ++ e ≡ a ++ b ++ c ++ h ++ l ++ u ++ d ++ e
regroup a b c h l u d e = simp append_assoc

-- the row of an answer, with score c
pub row_done : (o : List ℕ) (at : ℕ) (a : Outcome) (v : Simulator) (cells : List ℕ) (c : ℕ) (o₁ o₂ o₃ o₄ o₅ o₆ : List ℕ) (r₁ r₂ r₃ r₄ r₅ r₆ : ℕ)
    → c ≡ count_of (held v.t0 cells)
    → Wrote o at (said a) o₁ r₁ × (r₁ ≤ at + 6) → Wrote o₁ r₁ (32 ∷ show v.steps) o₂ r₂ × (r₂ ≤ r₁ + 21) → Wrote o₂ r₂ (32 ∷ show v.state.0) o₃ r₃ × (r₃ ≤ r₂ + 21)
    → Wrote o₃ r₃ ((32 ∷ show_ℤ (v.t0.head ⊖ v.t0.origin)) ++ (32 ∷ show_ℤ (v.t0.lowest ⊖ v.t0.origin)) ++ (32 ∷ show_ℤ (v.t0.highest ⊖ v.t0.origin))) o₄ r₄ × (r₄ ≤ r₃ + 66)
    → Wrote o₄ r₄ (32 ∷ show c) o₅ r₅ × (r₅ ≤ r₄ + 21) → (r₆ ≡ r₅ + 1) × (o₆ ≡ paste o₅ r₅ (10 ∷ []) 1) → at + row_most ≤ length o
    → Wrote o at (row_line (row_of (answered a) v cells)) o₆ r₆ × (r₆ ≤ at + row_most)
unfolding row_line row_of
row_done o at a v cells c o₁ o₂ o₃ o₄ o₅ o₆ r₁ r₂ r₃ r₄ r₅ r₆ count p1 p2 p3 p4 p5 p6 f =
    let w = wrote_then (wrote_then (wrote_then (wrote_then p1.0 p2.0) p3.0) p4.0) p5.0 in
    let k : r₅ + 1 ≤ length o₅ = omega (arith, wrote_long w, p1.1, p2.1, p3.1, p4.1, p5.1) in (
      wrote-same (row_line (row_of (answered a) v cells))
          (wrote_then w (wrote-put o₅ r₅ (10 ∷ []) o₆ r₆ (10 ∷ []) refl p6 k))
          (rw (← count) (regroup (said a) (32 ∷ show v.steps) (32 ∷ show v.state.0) (32 ∷ show_ℤ (v.t0.head ⊖ v.t0.origin)) (32 ∷ show_ℤ (v.t0.lowest ⊖ v.t0.origin))
          (32 ∷ show_ℤ (v.t0.highest ⊖ v.t0.origin)) (32 ∷ show c) (10 ∷ []))),
      omega (arith, p1.1, p2.1, p3.1, p4.1, p5.1, p6.0),
    )

pub refused_done : (o : List ℕ) (at n : ℕ) (o₁ o₂ o₃ : List ℕ) (r₁ r₂ r₃ : ℕ) → (r₁ ≡ at + 8) × (o₁ ≡ paste o at (bytes "refused ") 8) → Wrote o₁ r₁ (show n) o₂ r₂ × (r₂ ≤ r₁ + 20)
    → (r₃ ≡ r₂ + 1) × (o₃ ≡ paste o₂ r₂ (10 ∷ []) 1) → at + 8 ≤ length o → r₂ + 1 ≤ length o₂ → Wrote o at (refused_line n) o₃ r₃ × (r₃ ≤ at + 29)
unfolding refused_line
refused_done o at n o₁ o₂ o₃ r₁ r₂ r₃ p1 p2 p3 h k = (
  wrote_then (wrote_then (wrote-put o at (bytes "refused ") o₁ r₁ (bytes "refused ") refl p1 h) p2.0) (wrote-put o₂ r₂ (10 ∷ []) o₃ r₃ (10 ∷ []) refl p3 k),
  omega (arith, p1.0, p2.1, p3.0),
)

module _ (o : List ℕ) (at : ℕ) (o' : List ℕ) (r : ℕ) (a : Result Outcome Refusal) (v : Simulator) (cells : List ℕ) where
  pub row_turned : (why : Refusal) (n : ℕ) → a ≡ Err why → n ≡ refusal_number why → Wrote o at (refused_line n) o' r × (r ≤ at + 29)
      → Wrote o at (row_line (row_of (reply_of a) v cells)) o' r × (r ≤ at + row_most)
  unfolding row_line row_of
  row_turned why n e q w = rw (e, ← q) (w.0, omega (arith, w.1))

  pub row_answered : (d : Outcome) → a ≡ Ok d → Wrote o at (row_line (row_of (answered d) v cells)) o' r × (r ≤ at + row_most)
      → Wrote o at (row_line (row_of (reply_of a) v cells)) o' r × (r ≤ at + row_most)
  row_answered d e w = rw e w

-- ---- rows one after another

-- `all` must be printed into o from `at` on; so far, r is the index after the printed part, and `rest` is left
pub record Printing (o : List ℕ) (at : ℕ) (all rest o' : List ℕ) (r : ℕ) : Type 0 where
  pub done : List ℕ
  pub wrote : Wrote o at done o' r
  pub whole : done ++ rest ≡ all

pub printing_start : (o : List ℕ) (at : ℕ) (all : List ℕ) → at ≤ length o → Printing o at all all o at
printing_start o at all h = record {
  done = [];
  wrote = record { ends = omega arith; fits = omega arith; text = paste-zero o at [] };
  whole = refl;
}

pub printing_next : {o : List ℕ} {at : ℕ} {all o₁ : List ℕ} {r₁ : ℕ} {bs rest o₂ : List ℕ} {r₂ : ℕ} → Printing o at all (bs ++ rest) o₁ r₁ → Wrote o₁ r₁ bs o₂ r₂
    → Printing o at all rest o₂ r₂
printing_next {bs = bs} {rest} p w = record {
  done = p.done ++ bs;
  wrote = wrote_then p.wrote w;
  whole = append_assoc p.done bs rest ∙ p.whole;
}

pub printing_end : {o : List ℕ} {at : ℕ} {all o₁ : List ℕ} {r₁ : ℕ} → Printing o at all [] o₁ r₁ → Wrote o at all o₁ r₁
printing_end {all = all} p = wrote-same all p.wrote (sym (append-nil p.done) ∙ p.whole)

-- ---- the loop over the calls: i of n are made, from w₀ on, and the timeline is at w

-- the calls from call i on: their rows, and the timeline after the last
abbrev rows_from : Machine → (s : List ℕ) (calls : List Call) (n i : ℕ) → TimelineOf plain_kind → List Row × TimelineOf plain_kind
rows_from m s calls n i w = rows_on m s w (drop i (take n calls))

pub record RowsInv (m : Machine) (s : List ℕ) (calls : List Call) (n : ℕ) (o : List ℕ) (at : ℕ) (w₀ w : TimelineOf plain_kind) (o' : List ℕ) (r i : ℕ) : Type 0 where
  pub inside : i ≤ n
  pub given : n ≤ length calls
  pub room : r ≤ at + row_most * i
  pub long : length o' ≡ length o
  pub fits : engine_check m s w.engine ≡ Ok tt
  pub printing : Printing o at (row_lines (rows_of m s w₀ (take n calls))) (row_lines (rows_from m s calls n i w).0) o' r
  pub last : (rows_from m s calls n i w).1 ≡ (rows_on m s w₀ (take n calls)).1

replied_is : (a : Result Outcome Refusal) (w : TimelineOf plain_kind) (g : Reply Outcome × TimelineOf plain_kind) → replied a w ≡ g → (reply_of a ≡ g.0) × (w ≡ g.1)
replied_is (Ok o) w g e = (ap (λ y. y.0) e, ap (λ y. y.1) e)
replied_is (Err why) w g e = (ap (λ y. y.0) e, ap (λ y. y.1) e)

module _ (m : Machine) (s : List ℕ) (calls : List Call) (n : ℕ) (o : List ℕ) (at : ℕ) (w₀ : TimelineOf plain_kind) where
  pub rows_start : at + row_most * n ≤ length o → n ≤ length calls → engine_check m s w₀.engine ≡ Ok tt → RowsInv m s calls n o at w₀ w₀ o at 0
  rows_start h g a = record { inside = omega arith; given = g; room = omega arith; long = refl; fits = a; printing = printing_start o at _ (omega arith); last = refl }

  module _ (w v : TimelineOf plain_kind) (i : ℕ) (a : Result Outcome Refusal) (made : replied a v ≡ call_on plain_kind m s w (get_or calls i (Seek 0))) where
    rows_step : i < n → n ≤ length calls
        → rows_from m s calls n i w ≡ (row_of (reply_of a) v.engine.sim v.engine.c0 ∷ (rows_from m s calls n (i + 1) v).0, (rows_from m s calls n (i + 1) v).1)
    unfolding rows_on
    rows_step h g =
        let p = replied_is a v _ made in
        ap (rows_on m s w) (calls_next n i calls h g)
        ∙ sym (λ j. (row_of (p.0 j) (p.1 j).engine.sim (p.1 j).engine.c0 ∷ (rows_from m s calls n (i + 1) (p.1 j)).0, (rows_from m s calls n (i + 1) (p.1 j)).1))

    lines_next : i < n → n ≤ length calls
        → row_lines (rows_from m s calls n i w).0 ≡ row_line (row_of (reply_of a) v.engine.sim v.engine.c0) ++ row_lines (rows_from m s calls n (i + 1) v).0
    unfolding row_lines
    lines_next h g = ap (λ (r : List Row × TimelineOf plain_kind). row_lines r.0) (rows_step h g)

    kept : engine_check m s w.engine ≡ Ok tt → engine_check m s v.engine ≡ Ok tt
    kept f = rw (replied_is a v _ made).1 (call_kept m s w (get_or calls i (Seek 0)) f)

    module _ (o₁ : List ℕ) (r₁ : ℕ) (inv : RowsInv m s calls n o at w₀ w o₁ r₁ i) (h : i < n) where
      pub row_ready : at + row_most * n ≤ length o → (r₁ + row_most ≤ length o₁) × TapeOk v.engine.sim.t0 v.engine.c0
      row_ready l = (omega (arith, inv.room, inv.long), tape_ok_holds m s v.engine (kept inv.fits))

      pub rows_next : (o₂ : List ℕ) (r₂ : ℕ) → Wrote o₁ r₁ (row_line (row_of (reply_of a) v.engine.sim v.engine.c0)) o₂ r₂ × (r₂ ≤ r₁ + row_most)
          → RowsInv m s calls n o at w₀ v o₂ r₂ (i + 1)
      rows_next o₂ r₂ p = record {
        inside = omega arith;
        given = inv.given;
        room = omega (arith, inv.room, p.1);
        long = wrote_long p.0 ∙ inv.long;
        fits = kept inv.fits;
        printing = printing_next (rw (lines_next h inv.given) at inv.printing) p.0;
        last = sym (ap (λ (r : List Row × TimelineOf plain_kind). r.1) (rows_step h inv.given)) ∙ inv.last;
      }

  pub rows_end : (w : TimelineOf plain_kind) (o₁ : List ℕ) (r i : ℕ) → RowsInv m s calls n o at w₀ w o₁ r i → n ≤ i
      → Wrote o at (row_lines (rows_of m s w₀ (take n calls))) o₁ r × (r ≤ at + row_most * n) × (lent_in w ≡ lent_in (rows_on m s w₀ (take n calls)).1)
  unfolding rows_on row_lines
  rows_end w o₁ r i inv h =
      let k : drop i (take n calls) ≡ [] = drop_of_length-le (take n calls) {i = i} (omega (arith, length-take-le n calls inv.given)) in
      (printing_end (rw k at inv.printing), omega (arith, inv.room, inv.inside), ap lent_in (rw k at inv.last))
