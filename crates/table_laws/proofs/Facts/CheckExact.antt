-- THE TABLE CHECK: it accepts exactly the well-formed tables, and a refusal is the first that applies; 6 gives the lowest bad entry. Assumes nothing.
use Rattle.std.specs.Prelude.{◌≡◌, Bool, true, false, List, ℕ, zero, suc, ◌*◌, ◌≤◌, ◌<◌, eqb, ltb, length, Err, Ok, Option, Result, Some, ⊤}
use Rattle.std.proofs.Common.{sym, ◌∙◌, subst, arith, ltb-true, eqb-true, le-leb, lt-ltb, eq-eqb}
use Rattle.std.proofs.Math.Path.{ap}
use Rattle.std.proofs.Math.Decide.{ℕ_discrete}
use Rattle.std.proofs.lemmas.Bool.{eqb-false}
use Rattle.notation.proofs.Facts.Tests.{both_true, by_test, clash, pick_true, pick_false}
use Rattle.notation.proofs.Facts.Scan.{Scanned, clean, failed, scanned, clean_none}
use Rattle.outcome.specs.declared.Refusal.{Refusal}
use Rattle.outcome.specs.declared.Refusal.TheVariants as Why
use Rattle.outcome.specs.Numbers.{refusal_number, place_of}
use Rattle.machine.specs.declared.Machine.{Machine}
use Rattle.machine.specs.Layout.{entry_count}
use Rattle.machine.specs.Model.Check.{within, demand, answer_at, entry_ok, entries_check, size_check, table_check}
use Rattle.machine.proofs.Facts.Check.{within_says, Ranges, ranges, entry_passed}
use Rattle.table_laws.specs.WellFormed.{Bytes, LaidOut, Asked, WellFormed, Lowest, FirstRefusal}
use Rattle.table_laws.proofs.Facts.Entries.{entry_laid, laid_entry}

-- ---- tests in order

demand-passes : (b : Bool) (why : Refusal) (rest x : Result ⊤ Refusal) → demand b why rest ≡ x → b ≡ true → rest ≡ x
demand-passes b why rest x h e = sym (pick_true b rest (Err why) e) ∙ h

demand_fails : (b : Bool) (why r : Refusal) (rest : Result ⊤ Refusal) → demand b why rest ≡ Err r → b ≡ false → why ≡ r
demand_fails b why r rest h e = let k : Err why ≡ Err r = sym (pick_false b rest (Err why) e) ∙ h in cc

within_holds : (low high x : ℕ) → (low ≤ x) × (x ≤ high) → within low high x ≡ true
within_holds low high x h = both_true (le-leb low x h.0) (le-leb x high h.1)

within_fails : (low high x : ℕ) → within low high x ≡ false → ¬ ((low ≤ x) × (x ≤ high))
within_fails low high x e h = clash (within_holds low high x h) e

module _ (m : Machine) (s : List ℕ) where
  -- the conditions below n and condition n give the conditions below n + 1
  more : (n : ℕ) → ((j : ℕ) → j < n → Asked m s j) → Asked m s n → (j : ℕ) → j < suc n → Asked m s j
  more n f a j h = by (ℕ_discrete j n)
    where
      by : Dec (j ≡ n) → Asked m s j
      by (yes e) = subst (Asked m s) (sym e) a
      by (no g) = f j (omega arith)

  refused : (why : Refusal) → ¬ (Asked m s (refusal_number why)) → ((j : ℕ) → j < refusal_number why → Asked m s j) → Lowest m s (place_of why)
      → (r : Refusal) → why ≡ r → FirstRefusal m s r
  refused why a f l r e = subst (FirstRefusal m s) e (record { applies = a; first = f; lowest = l })

  module _ (bytes : Bytes s) where
    -- ---- 6: the scan over the entries

    module _ (Some : 1 ≤ m.symbols) where
      scan_refused : ((j : ℕ) → j < 6 → Asked m s j) → (x : Option ℕ) → Scanned (entry_ok m s) (entry_count m) 0 x
          → (r : Refusal) → answer_at Why.Entry x ≡ Err r → FirstRefusal m s r
      scan_refused before x (clean f) r e = let z : ◌≡◌ {A = ℕ} 0 1 = cc in absurd (omega arith)
      scan_refused before x (failed i a b z f) r e =
          let bad : ¬ (LaidOut m s i) = λ l. clash (laid_entry m s i l) z in
          let low : (j : ℕ) → j < i → LaidOut m s j = λ j h. entry_laid m s j bytes Some (f j (omega arith) h) in
          let h : i < entry_count m = omega arith in
          refused (Why.Entry i) (λ all. bad (all i h)) before (h, bad, low) r (cc)

    -- ---- "the table check, first in every operation that takes one": a refusal is the first that applies
    pub table_check_refuses_first : (r : Refusal) → table_check m s ≡ Err r → FirstRefusal m s r
    unfolding table_check size_check entries_check
    table_check_refuses_first r h0 =
        let u0 : (j : ℕ) → j < 1 → Asked m s j = more 0 (λ j l. absurd (omega arith)) tt in
        by_test (within 1 3 m.tapes) (λ e1.
        let h1 = demand-passes _ _ _ _ h0 e1 in
        let u1 : (j : ℕ) → j < 2 → Asked m s j = more 1 u0 (within_says _ _ _ e1) in
        by_test (within 1 256 m.symbols) (λ e2.
        let h2 = demand-passes _ _ _ _ h1 e2 in
        let k = within_says 1 256 m.symbols e2 in
        let u2 : (j : ℕ) → j < 3 → Asked m s j = more 2 u1 k in
        by_test (within 1 65536 m.states) (λ e3.
        let h3 = demand-passes _ _ _ _ h2 e3 in
        let u3 : (j : ℕ) → j < 4 → Asked m s j = more 3 u2 (within_says _ _ _ e3) in
        by_test (ltb m.start m.states) (λ e4.
        let h4 = demand-passes _ _ _ _ h3 e4 in
        let u4 : (j : ℕ) → j < 5 → Asked m s j = more 4 u3 (ltb-true _ _ e4) in
        by_test (eqb (length s) (8 * entry_count m)) (λ e5.
        let h5 = demand-passes _ _ _ _ h4 e5 in
        let u5 : (j : ℕ) → j < 6 → Asked m s j = more 5 u4 (eqb-true _ _ e5) in
        scan_refused k.0 u5 _ (scanned (entry_ok m s) (entry_count m) 0) r h5)
        (λ f. refused Why.TableSize (eqb-false _ _ f) u4 tt r (demand_fails _ _ _ _ h4 f)))
        (λ f. refused Why.Start (λ l. clash (lt-ltb _ _ l) f) u3 tt r (demand_fails _ _ _ _ h3 f)))
        (λ f. refused Why.States (within_fails _ _ _ f) u2 tt r (demand_fails _ _ _ _ h2 f)))
        (λ f. refused Why.Symbols (within_fails _ _ _ f) u1 tt r (demand_fails _ _ _ _ h1 f)))
        (λ f. refused Why.Tapes (within_fails _ _ _ f) u0 tt r (demand_fails _ _ _ _ h0 f))

    -- ---- it accepts exactly the well-formed tables
    pub table_check_accepted : table_check m s ≡ Ok tt → WellFormed m s
    table_check_accepted h = all
      where
        g : Ranges m s
        g = ranges m s h

        all : WellFormed m s
        all zero = tt
        all (suc zero) = (g.tapes_low, g.tapes_high)
        all (suc (suc zero)) = (g.symbols_low, g.symbols_high)
        all (suc (suc (suc zero))) = (g.states_low, g.states_high)
        all (suc (suc (suc (suc zero)))) = g.start_in
        all (suc (suc (suc (suc (suc zero))))) = g.size
        all (suc (suc (suc (suc (suc (suc zero)))))) =
            λ i l. entry_laid m s i bytes g.symbols_low (entry_passed m s i h l)
        all (suc (suc (suc (suc (suc (suc (suc n))))))) = tt

  pub table_check_accepts : WellFormed m s → table_check m s ≡ Ok tt
  unfolding table_check size_check entries_check
  table_check_accepts w =
      pick_true _ _ _ (within_holds 1 3 m.tapes (w 1))
      ∙ pick_true _ _ _ (within_holds 1 256 m.symbols (w 2))
      ∙ pick_true _ _ _ (within_holds 1 65536 m.states (w 3))
      ∙ pick_true _ _ _ (lt-ltb m.start m.states (w 4))
      ∙ pick_true _ _ _ (eq-eqb (length s) (8 * entry_count m) (w 5))
      ∙ ap (answer_at Why.Entry) (clean_none (entry_ok m s) (entry_count m) 0 (λ i a b. laid_entry m s i (w 6 i (omega arith))))
