-- The table that entry lines fill contains only bytes. Assumes nothing.
use Rattle.machine.specs.declared.Action.{Action}
use Rattle.std.specs.Prelude.{ℕ, zero, suc, ◌+◌, ◌*◌, ◌/◌, ◌%◌, ◌≤◌, ◌<◌, ◌≡◌, ltb, get_or, None, Option, Some}
use Rattle.std.proofs.Common.{sym, ap, ◌∙◌, subst, arith, length-take, get_or-take, ltb-true, ltb-false}
use Rattle.std.proofs.Math.ListN.{get_or-eq_default}
use Rattle.notation.proofs.Facts.Tests.{by_test}
use Rattle.symbol.specs.declared.Dir.{Dir}
use Rattle.symbol.specs.declared.Dir.TheVariants.{L, R, N}
use Rattle.symbol.specs.Kinds.{dir_number}
use Rattle.machine.specs.declared.Machine.{Machine}
use Rattle.table_laws.specs.WellFormed.{Bytes, entry_bytes, EntryOf, LaidOut}
use Rattle.listing_reader.specs.Listing.{Sofar, table_in}
use Rattle.listing_reader.proofs.Facts.Accepted.{Kept}

small_dir : (d : Dir) → dir_number d ≤ 2
small_dir L = omega arith
small_dir R = omega arith
small_dir N = omega arith

-- the eight numbers of an entry of the machine are bytes
entry_small : (m : Machine) → m.symbols ≤ 256 → m.states ≤ 65536 → (e : Option Action) → EntryOf m e → (j : ℕ) → j < 8 → get_or (entry_bytes e) j 0 < 256
entry_small m k n None o zero h = omega arith
entry_small m k n None o (suc zero) h = omega arith
entry_small m k n None o (suc (suc zero)) h = omega arith
entry_small m k n None o (suc (suc (suc zero))) h = omega arith
entry_small m k n None o (suc (suc (suc (suc zero)))) h = omega arith
entry_small m k n None o (suc (suc (suc (suc (suc zero))))) h = omega arith
entry_small m k n None o (suc (suc (suc (suc (suc (suc zero)))))) h = omega arith
entry_small m k n None o (suc (suc (suc (suc (suc (suc (suc zero))))))) h = omega arith
entry_small m k n None o (suc (suc (suc (suc (suc (suc (suc (suc j)))))))) h = absurd (omega arith)
entry_small m k n (Some a) o zero h = omega arith
entry_small m k n (Some a) o (suc zero) h = omega arith
entry_small m k n (Some a) o (suc (suc zero)) h = omega (arith, o.next_in)
entry_small m k n (Some a) o (suc (suc (suc zero))) h = omega (arith, o.write0_in)
entry_small m k n (Some a) o (suc (suc (suc (suc zero)))) h = omega (arith, o.write1_in)
entry_small m k n (Some a) o (suc (suc (suc (suc (suc zero))))) h = omega (arith, o.write2_in)
entry_small m k n (Some a) o (suc (suc (suc (suc (suc (suc zero)))))) h = omega (arith, small_dir a.dir0, small_dir a.dir1, small_dir a.dir2)
entry_small m k n (Some a) o (suc (suc (suc (suc (suc (suc (suc zero))))))) h = omega arith
entry_small m k n (Some a) o (suc (suc (suc (suc (suc (suc (suc (suc j)))))))) h = absurd (omega arith)

module _ (x : Sofar) (k : Kept x) (j : ℕ) where
  abbrev n : ℕ
  n = 8 * (x.machine.states * x.machine.symbols)

  inside : j < n → get_or (table_in x) j 0 < 256
  inside h =
      let o : LaidOut x.machine x.table (j / 8) = k.laid (j / 8) (omega arith) in
      let p : 8 * (j / 8) + j % 8 ≡ j = omega arith in
      let r : j % 8 < 8 = omega arith in
      let q : get_or (table_in x) j 0 ≡ get_or (entry_bytes o.entry) (j % 8) 0 = get_or-take n x.table j 0 h ∙ ap (λ i. get_or x.table i 0) (sym p) ∙ o.written (j % 8) r in
      subst (λ y. y < 256) (sym q) (entry_small x.machine k.good.few_symbols k.good.few_states o.entry o.of_machine (j % 8) r)

  outside : n ≤ j → get_or (table_in x) j 0 < 256
  outside h =
      let q : get_or (table_in x) j 0 ≡ 0 = get_or-eq_default (table_in x) 0 (omega (arith, h, length-take n x.table)) in
      omega (arith, q)

pub kept_bytes : (x : Sofar) → Kept x → Bytes (table_in x)
kept_bytes x k j = by_test (ltb j (n x k j)) (λ t. inside x k j (ltb-true j (n x k j) t)) (λ f. outside x k j (ltb-false j (n x k j) f))
