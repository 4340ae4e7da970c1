-- The bytes of an engine in a slot, and what is read out of them. Assumes nothing.
use Rattle.std.specs.Prelude.{◌≡◌, true, List, ℕ, ◌+◌, ◌≤◌, length, take}
use Rattle.std.proofs.Math.Path.{refl, sym, subst⁻¹}
use Rattle.std.proofs.Common.{ap, ◌∙◌, arith}
use Rattle.notation.proofs.Facts.Tests.{pick_true}
use Rattle.machine.specs.declared.Machine.{Machine}
use Rattle.tape.proofs.Facts.Fits.{fits_says}
use Rattle.store_bytes.specs.Bytes.{get16, get64, put16, put64, Agree, Apart}
use Rattle.store_bytes.proofs.Facts.Bytes.{agree_then, length-put16, length-put64, put64_agree, get16_agree, get64_agree, get_put16, get_put64}
use Rattle.sim.specs.Model.Engine.{Conf, tape0, tape1, tape2}
use Rattle.sim.specs.Model.Operations.{has1, has2, sim_fits}
use Rattle.sim_slots.specs.Model.Slots.{size_if, place1, place2, slot_size, put_sim, put_held, put_if, pack_of, tape_at, part_of}
use Rattle.sim_slots.proofs.Facts.SlotBytes.{Room, held_length, held_agree, held_numbers, held_cells, if_length, if_agree, if_numbers, if_cells, tape_agree, part_agree}
use Rattle.sim_slots.proofs.Facts.FitCases.{Fitted, fitted}

-- ---- the bytes of an engine

module _ (m : Machine) (u : Conf) (old : List ℕ) (f : Fitted m u.sim u.c0 u.c1 u.c2) (long : length old ≡ slot_size m u) where
  s1 : List ℕ
  s1 = put16 old 0 u.sim.state.0

  s2 : List ℕ
  s2 = put64 s1 8 u.sim.steps

  s3 : List ℕ
  s3 = put_held (tape0 u) 16 128 s2

  s4 : List ℕ
  s4 = put_if (has1 m) (tape1 u) 36 (place1 (length u.c0)) s3

  abbrev bytes : List ℕ
  bytes = pack_of m u old

  packed : bytes ≡ put_if (has2 m) (tape2 u) 56 (place2 m (length u.c0) (length u.c1)) s4
  unfolding pack_of put_sim s1 s2 s3 s4
  packed = refl

  size1 : has1 m ≡ true → size_if (has1 m) (length u.c1) ≡ length u.c1
  size1 e = pick_true (has1 m) (length u.c1) 0 e

  size2 : has2 m ≡ true → size_if (has2 m) (length u.c2) ≡ length u.c2
  size2 e = pick_true (has2 m) (length u.c2) 0 e

  len0 : u.sim.t0.len ≤ length u.c0
  len0 = (fits_says m.symbols u.sim.t0 u.c0 f.fits0).most

  len1 : has1 m ≡ true → u.sim.t1.len ≤ length u.c1
  len1 e = (fits_says m.symbols u.sim.t1 u.c1 (f.fits1 e)).most

  len2 : has2 m ≡ true → u.sim.t2.len ≤ length u.c2
  len2 e = (fits_says m.symbols u.sim.t2 u.c2 (f.fits2 e)).most

  long1 : length s1 ≡ length old
  unfolding s1
  long1 = length-put16 old 0 u.sim.state.0

  long2 : length s2 ≡ length old
  unfolding s2
  long2 = length-put64 s1 8 u.sim.steps ∙ long1

  room0 : Room (tape0 u) 16 128 s2
  room0 = record { head_room = omega arith; cells_room = omega (arith, long2, long, len0); len_in = len0 }

  long3 : length s3 ≡ length old
  unfolding s3
  long3 = held_length (tape0 u) 16 128 s2 room0 ∙ long2

  room1 : has1 m ≡ true → Room (tape1 u) 36 (place1 (length u.c0)) s3
  room1 e = record { head_room = omega arith; cells_room = omega (arith, long3, long, size1 e, len1 e); len_in = len1 e }

  long4 : length s4 ≡ length old
  unfolding s4
  long4 = if_length (has1 m) (tape1 u) 36 (place1 (length u.c0)) s3 room1 ∙ long3

  room2 : has2 m ≡ true → Room (tape2 u) 56 (place2 m (length u.c0) (length u.c1)) s4
  room2 e = record { head_room = omega arith; cells_room = omega (arith, long4, long, size2 e, len2 e); len_in = len2 e }

  bytes_long : length bytes ≡ length old
  bytes_long = ap length packed ∙ if_length (has2 m) (tape2 u) 56 (place2 m (length u.c0) (length u.c1)) s4 room2 ∙ long4

  pub packed_length : length bytes ≡ slot_size m u
  packed_length = bytes_long ∙ long

  -- each part leaves the bytes before its cells unchanged, except its own numbers
  keep4 : (lo hi : ℕ) → Apart 56 20 lo hi → hi ≤ place2 m (length u.c0) (length u.c1) → Agree bytes s4 lo hi
  keep4 lo hi a l =
      subst⁻¹ (λ s. Agree s s4 lo hi) packed (if_agree (has2 m) (tape2 u) 56 (place2 m (length u.c0) (length u.c1)) s4 room2 lo hi a l)

  keep3 : (lo hi : ℕ) → Apart 36 20 lo hi → hi ≤ place1 (length u.c0) → Agree s4 s3 lo hi
  unfolding s4
  keep3 = if_agree (has1 m) (tape1 u) 36 (place1 (length u.c0)) s3 room1

  keep2 : (lo hi : ℕ) → Apart 16 20 lo hi → hi ≤ 128 → Agree s3 s2 lo hi
  unfolding s3
  keep2 = held_agree (tape0 u) 16 128 s2 room0

  -- the state and the steps lie before all tapes
  front : (lo hi : ℕ) → hi ≤ 16 → Agree bytes s2 lo hi
  front lo hi l =
      agree_then bytes s4 s2 lo hi (keep4 lo hi (λ j a h k. omega arith) (omega arith))
      (agree_then s4 s3 s2 lo hi (keep3 lo hi (λ j a h k. omega arith) (omega arith)) (keep2 lo hi (λ j a h k. omega arith) (omega arith)))

  pub state_read : get16 bytes 0 ≡ u.sim.state.0
  unfolding s1 s2
  state_read =
      get16_agree bytes s2 0 (front 0 (0 + 2) (omega arith))
      ∙ get16_agree s2 s1 0 (put64_agree s1 8 u.sim.steps 0 (0 + 2) (λ j a h k. omega arith))
      ∙ get_put16 old 0 u.sim.state.0 (omega (arith, long))

  pub steps_read : get64 bytes 8 ≡ u.sim.steps
  unfolding s2
  steps_read = get64_agree bytes s2 8 (front 8 (8 + 8) (omega arith)) ∙ get_put64 s1 8 u.sim.steps (omega (arith, long, long1))

  -- the tapes
  pub tape0_read : tape_at bytes 16 ≡ u.sim.t0
  unfolding s3
  tape0_read =
      tape_agree bytes s4 16 (keep4 16 (16 + 20) (λ j a h k. omega arith) (omega arith))
      ∙ tape_agree s4 s3 16 (keep3 16 (16 + 20) (λ j a h k. omega arith) (omega arith))
      ∙ held_numbers (tape0 u) 16 128 s2 room0

  pub tape1_read : has1 m ≡ true → tape_at bytes 36 ≡ u.sim.t1
  unfolding s4
  tape1_read e =
      tape_agree bytes s4 36 (keep4 36 (36 + 20) (λ j a h k. omega arith) (omega arith))
      ∙ if_numbers (has1 m) (tape1 u) 36 (place1 (length u.c0)) s3 room1 e

  pub tape2_read : has2 m ≡ true → tape_at bytes 56 ≡ u.sim.t2
  tape2_read e = ap (λ s. tape_at s 56) packed ∙ if_numbers (has2 m) (tape2 u) 56 (place2 m (length u.c0) (length u.c1)) s4 room2 e

  -- their cells
  pub cells0_read : part_of 128 u.sim.t0.len bytes ≡ take u.sim.t0.len u.c0
  unfolding s3
  cells0_read =
      part_agree bytes s4 128 u.sim.t0.len (bytes_long ∙ sym long4)
      (keep4 128 (128 + u.sim.t0.len) (λ j a h k. omega arith) (omega (arith, len0)))
      ∙ part_agree s4 s3 128 u.sim.t0.len (long4 ∙ sym long3) (keep3 128 (128 + u.sim.t0.len) (λ j a h k. omega arith) (omega (arith, len0)))
      ∙ held_cells (tape0 u) 16 128 s2 room0

  pub cells1_read : has1 m ≡ true → part_of (place1 (length u.c0)) u.sim.t1.len bytes ≡ take u.sim.t1.len u.c1
  unfolding s4
  cells1_read e =
      part_agree bytes s4 (place1 (length u.c0)) u.sim.t1.len (bytes_long ∙ sym long4)
      (keep4 (place1 (length u.c0)) (place1 (length u.c0) + u.sim.t1.len) (λ j a h k. omega arith) (omega (arith, len1 e, size1 e)))
      ∙ if_cells (has1 m) (tape1 u) 36 (place1 (length u.c0)) s3 room1 e

  pub cells2_read : has2 m ≡ true → part_of (place2 m (length u.c0) (length u.c1)) u.sim.t2.len bytes ≡ take u.sim.t2.len u.c2
  cells2_read e =
      ap (part_of (place2 m (length u.c0) (length u.c1)) u.sim.t2.len) packed
      ∙ if_cells (has2 m) (tape2 u) 56 (place2 m (length u.c0) (length u.c1)) s4 room2 e

pub pack_length : (m : Machine) (u : Conf) (old : List ℕ) → sim_fits m u.sim u.c0 u.c1 u.c2 ≡ true → length old ≡ slot_size m u
    → length (pack_of m u old) ≡ slot_size m u
pack_length m u old h long = packed_length m u old (fitted m u.sim u.c0 u.c1 u.c2 h) long
