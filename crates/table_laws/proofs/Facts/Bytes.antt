-- THE BYTES of a well-formed table are those of its entries, so its entries determine it. Assumes nothing.
use Rattle.machine.specs.declared.Action.{Action}
use Rattle.std.specs.Prelude.{◌≡◌, List, ℕ, zero, suc, ◌+◌, ◌*◌, ◌/◌, ◌%◌, ◌≤◌, ◌<◌, ltb, length, get_or, None, Option, Some}
use Rattle.std.proofs.Common.{sym, ap, ◌∙◌, arith, ltb-true, ltb-false, ext_get_or}
use Rattle.std.proofs.Math.Nat.{div-add-mod}
use Rattle.std.proofs.Math.ListN.{get_or-eq_default}
use Rattle.notation.proofs.Facts.Tests.{by_test}
use Rattle.machine.specs.declared.Machine.{Machine}
use Rattle.machine.proofs.Facts.Packed.{number_small}
use Rattle.machine.specs.Layout.{entry_count, byte_at, entry_at}
use Rattle.table_laws.specs.WellFormed.{Bytes, entry_bytes, EntryOf, LaidOut, WellFormed}
use Rattle.table_laws.proofs.Facts.Entries.{eight-zeros}
use Rattle.table_laws.proofs.Facts.Reading.{entry_read}

-- byte j of entry i
pub entry_bytes_lem : (m : Machine) (s : List ℕ) → WellFormed m s → (i j : ℕ) → i < entry_count m → j < 8 → byte_at s i j ≡ get_or (entry_bytes (entry_at s i)) j 0
entry_bytes_lem m s w i j h b =
    let n : length s ≡ 8 * entry_count m = w 5 in
    let l : LaidOut m s i = w 6 i h in
    l.written j b ∙ ap (λ (e : Option Action). get_or (entry_bytes e) j 0) (sym (entry_read s i l.entry (omega arith) l.written))

-- two well-formed tables with the same entries are the same bytes
pub same_bytes : (m p : Machine) (s t : List ℕ) → WellFormed m s → WellFormed p t → entry_count m ≡ entry_count p
    → ((i : ℕ) → i < entry_count m → entry_at s i ≡ entry_at t i) → s ≡ t
same_bytes m p s t w v count same =
    let a : length s ≡ 8 * entry_count m = w 5 in
    let b : length t ≡ 8 * entry_count p = v 5 in
    ext_get_or 0 s t (omega arith) (λ x l.
    let e : 8 * (x / 8) + x % 8 ≡ x = div-add-mod x 8 in
    let h : x / 8 < entry_count m = omega arith in
    let k = entry_bytes_lem m s w (x / 8) (x % 8) h (omega arith) ∙ ap (λ (y : Option Action). get_or (entry_bytes y) (x % 8) 0) (same (x / 8) h)
    ∙ sym (entry_bytes_lem p t v (x / 8) (x % 8) (omega arith) (omega arith)) in
    rw e at k)

-- ---- they are bytes

entry_small : (m : Machine) (e : Option Action) → EntryOf m e → m.symbols ≤ 256 → m.states ≤ 65536 → (j : ℕ) → j < 8 → get_or (entry_bytes e) j 0 < 256
entry_small m None o k n j h = omega (arith, eight-zeros j h)
entry_small m (Some a) o k n zero h = omega arith
entry_small m (Some a) o k n (suc zero) h = omega arith
entry_small m (Some a) o k n (suc (suc zero)) h = omega (arith, o.next_in)
entry_small m (Some a) o k n (suc (suc (suc zero))) h = omega (arith, o.write0_in)
entry_small m (Some a) o k n (suc (suc (suc (suc zero)))) h = omega (arith, o.write1_in)
entry_small m (Some a) o k n (suc (suc (suc (suc (suc zero))))) h = omega (arith, o.write2_in)
entry_small m (Some a) o k n (suc (suc (suc (suc (suc (suc zero)))))) h = omega (arith, number_small a.dir0, number_small a.dir1, number_small a.dir2)
entry_small m (Some a) o k n (suc (suc (suc (suc (suc (suc (suc zero))))))) h = omega arith
entry_small m (Some a) o k n (suc (suc (suc (suc (suc (suc (suc (suc j)))))))) h = absurd (omega arith)

pub well_formed_bytes : (m : Machine) (s : List ℕ) → WellFormed m s → Bytes s
well_formed_bytes m s w x = by_test (ltb x (length s)) (λ t. inside (ltb-true _ _ t)) (λ t. rw (get_or-eq_default s 0 (ltb-false _ _ t)) (omega arith))
  where
    inside : x < length s → get_or s x 0 < 256
    inside h =
        let n : length s ≡ 8 * entry_count m = w 5 in
        let e : 8 * (x / 8) + x % 8 ≡ x = div-add-mod x 8 in
        let l : LaidOut m s (x / 8) = w 6 (x / 8) (omega arith) in
        let b : byte_at s (x / 8) (x % 8) < 256 = rw (l.written (x % 8) (omega arith)) (entry_small m l.entry l.of_machine (w 2).1 (w 3).1 (x % 8) (omega arith)) in
        rw e at b
