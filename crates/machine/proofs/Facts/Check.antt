-- What follows from an accepted check for the machine's numbers, the table and its entries. Assumes nothing.
use Rattle.std.specs.Prelude.{◌≡◌, refl, Bool, true, false, not, List, ℕ, ◌+◌, ◌*◌, ◌/◌, ◌%◌, ◌≤◌, ◌<◌, ltb, length, Err, Ok, Option, Result, ⊤}
use Rattle.std.proofs.Common.{sym, ◌∙◌, arith}
use borrow.Author.Tests.{ltb-true, eqb-true, ne_eqb, not-false}
use Rattle.notation.specs.Choice.{pick}
use Rattle.notation.specs.Scan.{first_fail}
use Rattle.notation.proofs.Facts.Scan.{Holds, Scanned, clean, failed, scanned}
use Rattle.notation.proofs.Facts.Tests.{both_split, pick_false}
use Rattle.symbol.specs.declared.Dir.TheVariants.{N}
use Rattle.outcome.specs.declared.Refusal.{Refusal}
use Rattle.outcome.specs.declared.Refusal.TheVariants as Why
use Rattle.machine.specs.declared.Machine.{Machine}
use Rattle.machine.specs.Layout.{entry_count, flag_at, byte_at, dir_of}
use Rattle.machine.specs.Model.Check.{within, demand, checked_on, answer_at, tape_ok, entry_ok, entries_check, size_check, table_check}
use Rattle.table_bytes.specs.Model.Entries.{defined_for}
pub use Rattle.table_bytes.proofs.Facts.EntryCases.{within_says}

-- ---- a test, and a scan

pub demand_says : (b : Bool) (why : Refusal) (rest : Result ⊤ Refusal) → demand b why rest ≡ Ok tt → (b ≡ true) × (rest ≡ Ok tt)
unfolding pick
demand_says true why rest h = (refl, h)
demand_says false why rest h = let z : ◌≡◌ {A = ℕ} 0 1 = cc in absurd (omega arith)

pub on_says : (c rest : Result ⊤ Refusal) → checked_on c rest ≡ Ok tt → (c ≡ Ok tt) × (rest ≡ Ok tt)
on_says (Ok tt) rest h = (refl, h)
on_says (Err why) rest h = let z : ◌≡◌ {A = ℕ} 0 1 = cc in absurd (omega arith)

-- the same for a Bool that a callee returned and the code has tested
pub within-passed : (r : Bool) (low high x : ℕ) → r ≡ within low high x → not r ≡ false → (low ≤ x) × (x ≤ high)
within-passed r low high x e h = within_says low high x (sym e ∙ not-false r h)

pub scan_says : (why : ℕ → Refusal) (p : ℕ → Bool) (n : ℕ) → answer_at why (first_fail p n 0) ≡ Ok tt → Holds p n 0
scan_says why p n = by _ (scanned p n 0)
  where
    by : (x : Option ℕ) → Scanned p n 0 x → answer_at why x ≡ Ok tt → Holds p n 0
    by x (clean f) e = f
    by x (failed j a b z f) e = let y : ◌≡◌ {A = ℕ} 0 1 = cc in absurd (omega arith)

-- ---- the table

pub record Ranges (m : Machine) (s : List ℕ) : Type 0 where
  pub tapes_low : 1 ≤ m.tapes
  pub tapes_high : m.tapes ≤ 3
  pub symbols_low : 1 ≤ m.symbols
  pub symbols_high : m.symbols ≤ 256
  pub states_low : 1 ≤ m.states
  pub states_high : m.states ≤ 65536
  pub start_in : m.start < m.states
  pub size : length s ≡ 8 * entry_count m
  pub entries : entries_check m s (entry_count m) ≡ Ok tt

pub ranges : (m : Machine) (s : List ℕ) → table_check m s ≡ Ok tt → Ranges m s
unfolding table_check size_check
ranges m s h =
    let t = demand_says _ _ _ h in
    let k = demand_says _ _ _ t.1 in
    let n = demand_says _ _ _ k.1 in
    let q = demand_says _ _ _ n.1 in
    let z = demand_says _ _ _ q.1 in
    record {
      tapes_low = (within_says _ _ _ t.0).0;
      tapes_high = (within_says _ _ _ t.0).1;
      symbols_low = (within_says _ _ _ k.0).0;
      symbols_high = (within_says _ _ _ k.0).1;
      states_low = (within_says _ _ _ n.0).0;
      states_high = (within_says _ _ _ n.0).1;
      start_in = ltb-true _ _ q.0;
      size = eqb-true _ _ z.0;
      entries = z.1;
    }

-- ---- its entries

-- a defined entry that passed the check: its bytes apart from the flag
pub record PassedEntry (m : Machine) (s : List ℕ) (i : ℕ) : Type 0 where
  pub next_in : byte_at s i 1 + 256 * byte_at s i 2 < m.states
  pub moves_in : byte_at s i 6 < 27
  pub last : byte_at s i 7 ≡ 0
  pub write0_in : byte_at s i 3 < m.symbols
  pub write1_in : ltb 1 m.tapes ≡ true → byte_at s i 4 < m.symbols
  pub write2_in : ltb 2 m.tapes ≡ true → byte_at s i 5 < m.symbols
  pub lacks1 : ltb 1 m.tapes ≡ false → (byte_at s i 4 ≡ 0) × (dir_of (byte_at s i 6 / 3 % 3) ≡ N)
  pub lacks2 : ltb 2 m.tapes ≡ false → (byte_at s i 5 ≡ 0) × (dir_of (byte_at s i 6 / 9 % 3) ≡ N)

module _ (has : Bool) (k w d : ℕ) (ok : tape_ok has k w d ≡ true) where
  tape_writes : has ≡ true → w < k
  unfolding pick
  tape_writes e = ltb-true w k (rw e at ok)

  tape_lacks : has ≡ false → (w ≡ 0) × (dir_of d ≡ N)
  unfolding pick
  tape_lacks e =
      let p = both_split (rw e at ok) in
      let z : d ≡ 2 = eqb-true d 2 p.1 in
      (eqb-true w 0 p.0, rw z)

module _ (m : Machine) (s : List ℕ) (i : ℕ) where
  pub defined_says : defined_for m.states m.tapes m.symbols s i ≡ true → (flag_at s i ≡ 1) × PassedEntry m s i
  defined_says h =
      let p = both_split h in
      let a = both_split p.0 in
      let b = both_split a.1 in
      let c = both_split b.1 in
      let w = both_split p.1 in
      let x = both_split w.1 in (
        eqb-true _ _ a.0,
        record {
          next_in = ltb-true _ _ b.0;
          moves_in = ltb-true _ _ c.0;
          last = eqb-true _ _ c.1;
          write0_in = ltb-true _ _ w.0;
          write1_in = tape_writes (ltb 1 m.tapes) m.symbols (byte_at s i 4) (byte_at s i 6 / 3 % 3) x.0;
          write2_in = tape_writes (ltb 2 m.tapes) m.symbols (byte_at s i 5) (byte_at s i 6 / 9 % 3) x.1;
          lacks1 = tape_lacks (ltb 1 m.tapes) m.symbols (byte_at s i 4) (byte_at s i 6 / 3 % 3) x.0;
          lacks2 = tape_lacks (ltb 2 m.tapes) m.symbols (byte_at s i 5) (byte_at s i 6 / 9 % 3) x.1;
        },
      )

  module _ (accepted : table_check m s ≡ Ok tt) (inside : i < entry_count m) where
    pub entry_passed : entry_ok m s i ≡ true
    unfolding entries_check
    entry_passed = scan_says Why.Entry (entry_ok m s) (entry_count m) (ranges m s accepted).entries i (omega arith) (omega arith)

    pub defined_passed : flag_at s i ≡ 1 → PassedEntry m s i
    unfolding entry_ok
    defined_passed f = (defined_says (sym (pick_false _ _ _ (ne_eqb (flag_at s i) 0 (λ (z : flag_at s i ≡ 0). omega arith))) ∙ entry_passed)).1
