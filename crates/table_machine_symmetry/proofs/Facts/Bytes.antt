-- THE BYTES of a mirrored and of a renamed table: a well-formed table, in which each entry is read again. Assumes nothing.
use Rattle.machine.specs.declared.Action.{Action}
use Rattle.std.specs.Prelude.{◌≡◌, refl, List, ℕ, zero, suc, ◌+◌, ◌*◌, ◌/◌, ◌%◌, ◌≤◌, ◌<◌, ◌^◌, ltb, length, get_or, None, Option, Some}
use Rattle.std.proofs.Common.{sym, ap, ◌∙◌, mul-le-mul_left, mod-lt, arith, ltb-true, ltb-false, length-append, get_or-append-add}
use Rattle.std.proofs.Math.Nat.{one-le-pow}
use Rattle.std.proofs.Math.ListN.{get_or-append}
use Rattle.notation.proofs.Facts.Rows.{row_of_lem, rest_of, row_in, number_is, row_below}
use Rattle.notation.proofs.Facts.Tests.{by_test}
use Rattle.symbol.specs.Kinds.{state_of, reversed_of}
use Rattle.table_bytes.proofs.Facts.EntryCases.{stride_one, stride_two, stride_three}
use Rattle.machine.specs.declared.Machine.{Machine}
use Rattle.machine.proofs.Facts.CheckCases.{entry_past}
use Rattle.machine.specs.Layout.{stride_of, entry_count, entry_number, entry_at, byte_at}
use Rattle.table_laws.specs.WellFormed.{entry_bytes, EntryOf, WellFormed}
use Rattle.table_laws.proofs.Facts.Reading.{entry_read, entry_of_machine}
use Rattle.table_laws.proofs.Facts.Bytes.{same_bytes}
use Rattle.table_machine_symmetry.specs.Mirror.{mirrored_entry}
use Rattle.table_machine_symmetry.specs.Renaming.{Permutes, renamed_entry, renamed_machine}
use Rattle.table_machine_symmetry.specs.Bytes.{table_bytes, mirrored_bytes, old_place, renamed_bytes}
use Rattle.table_machine_symmetry.specs.Claims.{Reads}
use Rattle.table_machine_symmetry.proofs.Facts.Mirror.{mirrored_entry_twice}

-- ---- the bytes of a list of entries

eight : (e : Option Action) → length (entry_bytes e) ≡ 8
eight None = refl
eight (Some a) = refl

pub table_length : (f : ℕ → Option Action) (n : ℕ) → length (table_bytes f n) ≡ 8 * n
unfolding table_bytes
table_length f zero = refl
table_length f (suc n) =
    length-append (entry_bytes (f zero)) (table_bytes (λ i. f (suc i)) n) ∙ omega (arith, eight (f zero), table_length (λ i. f (suc i)) n)

pub table_byte_lem : (f : ℕ → Option Action) (n i j : ℕ) → i < n → j < 8 → byte_at (table_bytes f n) i j ≡ get_or (entry_bytes (f i)) j 0
unfolding table_bytes
table_byte_lem f zero i j a b = absurd (omega arith)
table_byte_lem f (suc n) zero j a b =
    let e : 8 * 0 + j ≡ j = omega arith in
    ap (λ k. get_or (table_bytes f (suc n)) k 0) e
    ∙ get_or-append (entry_bytes (f zero)) (table_bytes (λ i. f (suc i)) n) 0 j (omega (arith, eight (f zero)))
table_byte_lem f (suc n) (suc i) j a b =
    let e : 8 * suc i + j ≡ length (entry_bytes (f zero)) + (8 * i + j) = omega (arith, eight (f zero)) in
    ap (λ k. get_or (table_bytes f (suc n)) k 0) e
    ∙ get_or-append-add (entry_bytes (f zero)) (table_bytes (λ i. f (suc i)) n) (8 * i + j) 0
    ∙ table_byte_lem (λ i. f (suc i)) n i j (omega arith) b

-- each entry is read again
table_entry : (f : ℕ → Option Action) (n i : ℕ) → i < n → entry_at (table_bytes f n) i ≡ f i
table_entry f n i h = entry_read (table_bytes f n) i (f i) (omega (arith, table_length f n)) (λ j b. table_byte_lem f n i j h b)

table_past : (f : ℕ → Option Action) (n i : ℕ) → n ≤ i → entry_at (table_bytes f n) i ≡ None
table_past f n i h = sym (entry_past (table_bytes f n) i (omega (arith, table_length f n)))

-- machine p has machine m's numbers, apart from its start
well_formed : (m p : Machine) (s : List ℕ) (f : ℕ → Option Action) → WellFormed m s → p.tapes ≡ m.tapes → p.symbols ≡ m.symbols → p.states ≡ m.states
    → p.start < p.states → ((i : ℕ) → i < entry_count p → EntryOf p (f i)) → WellFormed p (table_bytes f (entry_count p))
well_formed m p s f w t k n q of = all
  where
    all : WellFormed p (table_bytes f (entry_count p))
    all zero = tt
    all (suc zero) = (omega (arith, (w 1).0), omega (arith, (w 1).1))
    all (suc (suc zero)) = (omega (arith, (w 2).0), omega (arith, (w 2).1))
    all (suc (suc (suc zero))) = (omega (arith, (w 3).0), omega (arith, (w 3).1))
    all (suc (suc (suc (suc zero)))) = q
    all (suc (suc (suc (suc (suc zero))))) = table_length f (entry_count p)
    all (suc (suc (suc (suc (suc (suc zero)))))) =
        λ i l. record { entry = f i; of_machine = of i l; written = λ j b. table_byte_lem f (entry_count p) i j l b }
    all (suc (suc (suc (suc (suc (suc (suc i))))))) = tt

-- ---- the mirror

mirrored_of : (m : Machine) (e : Option Action) → EntryOf m e → EntryOf m (mirrored_entry e)
mirrored_of m None o = tt
mirrored_of m (Some a) o = record {
  next_in = o.next_in;
  write0_in = o.write0_in;
  write1_in = o.write1_in;
  write2_in = o.write2_in;
  lacks1 = λ l. ((o.lacks1 l).0, ap reversed_of (o.lacks1 l).1);
  lacks2 = λ l. ((o.lacks2 l).0, ap reversed_of (o.lacks2 l).1);
}

module _ (m : Machine) (s : List ℕ) (w : WellFormed m s) where
  pub mirror_formed : WellFormed m (mirrored_bytes m s)
  mirror_formed = well_formed m m s (λ i. mirrored_entry (entry_at s i)) w refl refl refl (w 4) (λ i l. mirrored_of m (entry_at s i) (entry_of_machine m s w i))

  -- in the table and past its end
  pub mirror_at : (i : ℕ) → entry_at (mirrored_bytes m s) i ≡ mirrored_entry (entry_at s i)
  mirror_at i = by_test (ltb i (entry_count m))
      (λ t. table_entry (λ j. mirrored_entry (entry_at s j)) (entry_count m) i (ltb-true _ _ t))
      (λ t. table_past (λ j. mirrored_entry (entry_at s j)) (entry_count m) i (ltb-false _ _ t)
      ∙ ap mirrored_entry (entry_past s i (let n : length s ≡ 8 * entry_count m = w 5 in let l : entry_count m ≤ i = ltb-false _ _ t in omega arith)))

pub mirror_twice : (m : Machine) (s : List ℕ) → WellFormed m s → mirrored_bytes m (mirrored_bytes m s) ≡ s
mirror_twice m s w =
    let t : List ℕ = mirrored_bytes m s in
    same_bytes m m (mirrored_bytes m t) s (mirror_formed m t (mirror_formed m s w)) w refl
    (λ i l. mirror_at m t (mirror_formed m s w) i ∙ ap mirrored_entry (mirror_at m s w i) ∙ mirrored_entry_twice (entry_at s i))

-- ---- a renaming

-- the place in a state's row of the entry for three symbols read
column_in : (k t x y z : ℕ) → 1 ≤ t → t ≤ 3 → x < k → y < k → z < k → (t < 2 → y ≡ 0) → (t < 3 → z ≡ 0) → x + k * y + k * k * z < k ^ t
column_in k zero x y z a b hx hy hz fy fz = absurd (omega arith)
column_in k (suc zero) x y z a b hx hy hz fy fz =
    let e : y ≡ 0 = fy (omega arith) in
    let f : z ≡ 0 = fz (omega arith) in
    rw (e, f) (omega (arith, stride_one 1 k refl))
column_in k (suc (suc zero)) x y z a b hx hy hz fy fz =
    let f : z ≡ 0 = fz (omega arith) in
    let g : k * suc y ≤ k * k = mul-le-mul_left k hy in
    rw f (omega (arith, stride_two 2 k refl))
column_in k (suc (suc (suc zero))) x y z a b hx hy hz fy fz =
    let g : k * suc y ≤ k * k = mul-le-mul_left k hy in
    let h : k * k * suc z ≤ k * k * k = mul-le-mul_left (k * k) hz in
    omega (arith, stride_three 3 k a b (λ e. omega arith) (λ e. omega arith))
column_in k (suc (suc (suc (suc t)))) x y z a b hx hy hz fy fz = absurd (omega arith)

renamed_of : (to : ℕ → ℕ) (m : Machine) → ((q : ℕ) → q < m.states → to q < m.states) → (e : Option Action) → EntryOf m e → EntryOf (renamed_machine to m) (renamed_entry to e)
renamed_of to m f None o = tt
renamed_of to m f (Some a) o = record {
  next_in = f a.next.0 o.next_in;
  write0_in = o.write0_in;
  write1_in = o.write1_in;
  write2_in = o.write2_in;
  lacks1 = o.lacks1;
  lacks2 = o.lacks2;
}

module _ (to from : ℕ → ℕ) (m : Machine) (s : List ℕ) (w : WellFormed m s) (permutes : Permutes m.states to from) where
  pub rename_formed : WellFormed (renamed_machine to m) (renamed_bytes to from m s)
  rename_formed =
      well_formed m (renamed_machine to m) s (λ i. renamed_entry to (entry_at s (old_place from m i))) w refl refl refl (permutes.to_in m.start (w 4))
      (λ i l. renamed_of to m permutes.to_in (entry_at s (old_place from m i)) (entry_of_machine m s w (old_place from m i)))

  -- entry r of the row of state `to q` was entry r of the row of q
  module _ (q r : ℕ) (state : q < m.states) (inside : r < stride_of m) where
    old_place_holds : old_place from m (to q * stride_of m + r) ≡ q * stride_of m + r
    old_place_holds =
        let n : ℕ = stride_of m in
        let row = row_of_lem n (to q) r inside in
        let rest = rest_of n (to q) r inside in
        (λ t. from (row t) * n + rest t) ∙ ap (λ j. j * n + r) (permutes.from_to q state)

    new_place : to q * stride_of m + r < entry_count m
    new_place = row_in (stride_of m) m.states (to q) r (permutes.to_in q state) inside

    pub rename_byte : (j : ℕ) → j < 8 → byte_at (renamed_bytes to from m s) (to q * stride_of m + r) j ≡ get_or (entry_bytes (renamed_entry to (entry_at s (q * stride_of m + r)))) j 0
    rename_byte j b =
        table_byte_lem (λ i. renamed_entry to (entry_at s (old_place from m i))) (entry_count m) (to q * stride_of m + r) j new_place b
        ∙ ap (λ i. get_or (entry_bytes (renamed_entry to (entry_at s i))) j 0) old_place_holds

    pub rename_at : entry_at (renamed_bytes to from m s) (to q * stride_of m + r) ≡ renamed_entry to (entry_at s (q * stride_of m + r))
    rename_at =
        table_entry (λ i. renamed_entry to (entry_at s (old_place from m i))) (entry_count m) (to q * stride_of m + r) new_place
        ∙ ap (λ i. renamed_entry to (entry_at s i)) old_place_holds

  -- the same by the symbols read
  pub rename_entry : (q x y z : ℕ) → q < m.states → Reads m x y z
      → entry_at (renamed_bytes to from m s) (entry_number m.symbols (stride_of m) (to q) x y z) ≡ renamed_entry to (entry_at s (entry_number m.symbols (stride_of m) q x y z))
  rename_entry q x y z h e =
      let k : ℕ = m.symbols in
      let n : ℕ = stride_of m in
      let r : ℕ = x + k * y + k * k * z in
      let small : r < n = column_in k m.tapes x y z (w 1).0 (w 1).1 e.first e.second e.third e.lacks1 e.lacks2 in
      let new : entry_number k n (to q) x y z ≡ to q * n + r = omega arith in
      let old : q * n + r ≡ entry_number k n q x y z = omega arith in
      ap (entry_at (renamed_bytes to from m s)) new ∙ rename_at q r h small ∙ ap (λ i. renamed_entry to (entry_at s i)) old

-- ---- renamed back

inverse : (n : ℕ) (to from : ℕ → ℕ) → Permutes n to from → Permutes n from to
inverse n to from p = record { to_in = p.from_in; from_in = p.to_in; to_from = p.from_to; from_to = p.to_from }

module _ (to from : ℕ → ℕ) (m : Machine) (permutes : Permutes m.states to from) where
  entry_back : (e : Option Action) → EntryOf m e → renamed_entry from (renamed_entry to e) ≡ e
  entry_back None o = refl
  entry_back (Some a) o = λ i. Some (record {
    next = state_of (permutes.from_to a.next.0 o.next_in i);
    write0 = a.write0;
    write1 = a.write1;
    write2 = a.write2;
    dir0 = a.dir0;
    dir1 = a.dir1;
    dir2 = a.dir2;
  })

  module _ (s : List ℕ) (w : WellFormed m s) where
    abbrev t : List ℕ
    t = renamed_bytes to from m s

    abbrev u : List ℕ
    u = renamed_bytes from to (renamed_machine to m) t

    t_formed : WellFormed (renamed_machine to m) t
    t_formed = rename_formed to from m s w permutes

    -- entry r of the row of q
    at_back : (q r : ℕ) → q < m.states → r < stride_of m → entry_at u (q * stride_of m + r) ≡ entry_at s (q * stride_of m + r)
    at_back q r h l =
        let n : ℕ = stride_of m in
        ap (λ x. entry_at u (x * n + r)) (sym (permutes.from_to q h))
        ∙ rename_at from to (renamed_machine to m) t t_formed (inverse m.states to from permutes) (to q) r (permutes.to_in q h) l
        ∙ ap (renamed_entry from) (rename_at to from m s w permutes q r h l)
        ∙ entry_back (entry_at s (q * n + r)) (entry_of_machine m s w (q * n + r))

    some : 0 < stride_of m
    some = one-le-pow m.tapes m.symbols (w 2).0

    pub rename_back : u ≡ s
    rename_back =
        let n : ℕ = stride_of m in
        same_bytes (renamed_machine from (renamed_machine to m)) m u s (rename_formed from to (renamed_machine to m) t t_formed (inverse m.states to from permutes)) w refl (λ i l.
        let k = at_back (i / n) (i % n) (row_below n m.states i some l) (mod-lt i some) in
        rw (number_is n i some) at k)
