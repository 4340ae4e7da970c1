-- The table check and the lookup, one fact for each way through the code. Assumes nothing.
use Rattle.std.specs.Prelude.{◌≡◌, refl, List, ℕ, ◌*◌, ◌/◌, ◌^◌, ◌≤◌, ◌<◌, length, get_or, Err, None, Ok, Option, Result, Some, ⊤}
use Rattle.std.proofs.Common.{ap, arith}
use borrow.Author.Tests.{lt-ltb, le-ltb, eq-eqb, ne_eqb}
use Rattle.notation.specs.Choice.{pick, both}
use Rattle.symbol.specs.declared.Symbol.{Symbol}
use Rattle.symbol.specs.declared.State.{State}
use Rattle.outcome.specs.declared.Refusal.{Refusal}
use Rattle.machine.specs.declared.Machine.{Machine}
use Rattle.machine.specs.declared.Action.{Action}
use Rattle.machine.specs.Layout.{stride_of, entry_number, action_at, entry_at}
use Rattle.machine.specs.Model.Check.{answer_at, size_check, table_check, lookup_of}
pub use Rattle.table_bytes.proofs.Facts.EntryCases.{count_fits, count_small, stride_one}

-- ---- the entry with a given number

module _ (s : List ℕ) (i : ℕ) where
  pub entry_past : length s / 8 ≤ i → None ≡ entry_at s i
  unfolding entry_at pick both
  entry_past h = simp (le-ltb _ _ h)

  pub entry_none : i < length s / 8 → (get_or s (8 * i) 0 ≡ 1 → ⊥) → None ≡ entry_at s i
  unfolding entry_at pick both
  entry_none h z = simp (lt-ltb _ _ h, ne_eqb _ _ z)

  pub entry_some : (a : Action) → i < length s / 8 → get_or s (8 * i) 0 ≡ 1 → a ≡ action_at s i → Some a ≡ entry_at s i
  unfolding entry_at pick both
  entry_some a h z p = simp (lt-ltb _ _ h, eq-eqb _ _ z, p)

-- ---- the answer to a scan

module _ (why : ℕ → Refusal) (f : Option ℕ) where
  pub scan_bad : (x : Option ℕ) (i : ℕ) → f ≡ x → f ≡ Some i → Err (why i) ≡ answer_at why x
  scan_bad None i p e = let z : ◌≡◌ {A = ℕ} 0 1 = cc in absurd (omega arith)
  scan_bad (Some j) i p e = let q : i ≡ j = cc in ap (λ (n : ℕ). Err (why n)) q

  pub scan_end : (x : Option ℕ) → f ≡ x → f ≡ None → (Ok tt) ≡ answer_at why x
  scan_end None p e = refl
  scan_end (Some j) p e = let z : ◌≡◌ {A = ℕ} 0 1 = cc in absurd (omega arith)

-- ---- the whole check and the lookup

pub size_via : (m : Machine) (s : List ℕ) (x : Result ⊤ Refusal) (r t k : ℕ) → r ≡ k ^ t → x ≡ size_check m s (m.states * r) → x ≡ size_check m s (m.states * k ^ t)
size_via m s x r t k p q = rw (← p) q

module _ (m : Machine) (s : List ℕ) (q : State) (a0 a1 a2 : Symbol) (r : Result ⊤ Refusal) (checked : r ≡ table_check m s) where
  pub looked_refused : (why : Refusal) → r ≡ Err why → Err why ≡ lookup_of m s q a0 a1 a2
  unfolding lookup_of
  looked_refused why e = rw (← checked, e)

  pub looked_found : (e : Option Action) (number stride : ℕ) → r ≡ Ok tt → e ≡ entry_at s number
      → number ≡ entry_number m.symbols stride q.0 a0.0 a1.0 a2.0 → stride ≡ stride_of m → Ok e ≡ lookup_of m s q a0 a1 a2
  unfolding lookup_of
  looked_found e number stride z h k g = rw (← checked, z, h, k, g)
