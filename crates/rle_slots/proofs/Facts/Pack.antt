-- A slot into which an engine was written contains that engine's value and its live runs. Assumes nothing.
use Rattle.std.specs.Prelude.{◌≡◌, List, ℕ, ◌+◌, ◌*◌, ◌≤◌, ◌<◌, length, get_or, set}
use Rattle.std.proofs.Math.Path.{refl}
use Rattle.std.proofs.Common.{sym, ◌∙◌, arith, length-set, get_or-set_same, get_or-set_other}
use Rattle.std.proofs.Math.Seq.{paste}
use Rattle.std.proofs.lemmas.List.Edits.{length-paste}
use Rattle.symbol.specs.Kinds.{state_of}
use Rattle.store_bytes.specs.Bytes.{get16, get64, put16, Agree}
use Rattle.store_bytes.proofs.Facts.Bytes.{agree_then, length-put16, get16_agree, get64_agree, get_put16, paste_agree}
use Rattle.rle.specs.Model.Engine.{Conf, conf}
use Rattle.rle_slots.specs.Model.Slots.{lefts_of, rights_of, bytes_for, right_symbols, left_lengths, right_lengths, put_numbers, counts_of, put_value, put_symbols, put_lengths, packed, part, numbers_in, value_in}
use Rattle.rle_slots.proofs.Facts.Numbers.{number_in_lem, length_part, part_byte, part-get64, paste_byte, length_put_numbers, put_numbers_agree, get_put_numbers}
use Rattle.rle_slots.proofs.Facts.LiveRuns.{SameLive}

module _ (σ : Conf) (old : List ℕ) (live_left : σ.sim.tape.left ≤ lefts_of σ) (live_right : σ.sim.tape.right ≤ rights_of σ) (long : length old ≡ bytes_for (lefts_of σ) (rights_of σ)) where
  abbrev l : ℕ
  l = lefts_of σ

  abbrev r : ℕ
  r = rights_of σ

  abbrev left : ℕ
  left = σ.sim.tape.left

  abbrev right : ℕ
  right = σ.sim.tape.right

  -- ---- the slot after each part

  abbrev b0 : List ℕ
  b0 = set (put16 old 0 σ.sim.state.0) 2 σ.sim.tape.cur

  abbrev b1 : List ℕ
  b1 = put_numbers b0 8 (counts_of σ.sim) 7

  abbrev b2 : List ℕ
  b2 = paste b1 128 σ.ls left

  abbrev b3 : List ℕ
  b3 = paste b2 (right_symbols l) σ.rs right

  abbrev b4 : List ℕ
  b4 = put_numbers b3 (left_lengths l r) σ.ll left

  abbrev b5 : List ℕ
  b5 = put_numbers b4 (right_lengths l r) σ.rl right

  pub packed_is : packed σ old ≡ b5
  unfolding packed put_value put_symbols put_lengths
  packed_is = refl

  long0 : length b0 ≡ bytes_for l r
  long0 = length-set (put16 old 0 σ.sim.state.0) 2 σ.sim.tape.cur ∙ length-put16 old 0 σ.sim.state.0 ∙ long

  long1 : length b1 ≡ bytes_for l r
  long1 = length_put_numbers b0 8 (counts_of σ.sim) 7 ∙ long0

  long2 : length b2 ≡ bytes_for l r
  long2 = length-paste b1 128 σ.ls left (omega (arith, long1)) (omega arith) ∙ long1

  long3 : length b3 ≡ bytes_for l r
  long3 = length-paste b2 (right_symbols l) σ.rs right (omega (arith, long2)) (omega arith) ∙ long2

  long4 : length b4 ≡ bytes_for l r
  long4 = length_put_numbers b3 (left_lengths l r) σ.ll left ∙ long3

  pub long5 : length b5 ≡ bytes_for l r
  long5 = length_put_numbers b4 (right_lengths l r) σ.rl right ∙ long4

  -- ---- later parts lie further on

  past5 : (lo hi : ℕ) → hi ≤ right_lengths l r → Agree b5 b4 lo hi
  past5 lo hi h = put_numbers_agree b4 (right_lengths l r) σ.rl right lo hi h

  past4 : (lo hi : ℕ) → hi ≤ left_lengths l r → Agree b5 b3 lo hi
  past4 lo hi h = agree_then b5 b4 b3 lo hi (past5 lo hi (omega arith)) (put_numbers_agree b3 (left_lengths l r) σ.ll left lo hi h)

  past3 : (lo hi : ℕ) → hi ≤ right_symbols l → Agree b5 b2 lo hi
  past3 lo hi h = agree_then b5 b3 b2 lo hi (past4 lo hi (omega arith)) (paste_agree b2 (right_symbols l) σ.rs right lo hi (omega (arith, long2)) h)

  past2 : (lo hi : ℕ) → hi ≤ 128 → Agree b5 b1 lo hi
  past2 lo hi h = agree_then b5 b2 b1 lo hi (past3 lo hi (omega arith)) (paste_agree b1 128 σ.ls left lo hi (omega (arith, long1)) h)

  past1 : (lo hi : ℕ) → hi ≤ 8 → Agree b5 b0 lo hi
  past1 lo hi h = agree_then b5 b1 b0 lo hi (past2 lo hi (omega arith)) (put_numbers_agree b0 8 (counts_of σ.sim) 7 lo hi h)

  -- ---- the value

  at_state : get16 b5 0 ≡ σ.sim.state.0
  at_state =
      get16_agree b5 b0 0 (past1 0 2 (omega arith))
      ∙ get16_agree b0 (put16 old 0 σ.sim.state.0) 0 (λ j a h. get_or-set_other (put16 old 0 σ.sim.state.0) 2 j σ.sim.tape.cur 0 (λ e. absurd (omega arith)))
      ∙ get_put16 old 0 σ.sim.state.0 (omega arith)

  at_cur : get_or b5 2 0 ≡ σ.sim.tape.cur
  at_cur =
      past1 2 3 (omega arith) 2 (omega arith) (omega arith)
      ∙ get_or-set_same (put16 old 0 σ.sim.state.0) 2 σ.sim.tape.cur 0 (omega (arith, length-put16 old 0 σ.sim.state.0))

  count : (j : ℕ) → j < 7 → get64 b5 (8 + 8 * j) ≡ get_or (counts_of σ.sim) j 0
  count j h =
      get64_agree b5 b1 (8 + 8 * j) (past2 (8 + 8 * j) (8 + 8 * j + 8) (omega arith))
      ∙ get_put_numbers b0 8 (counts_of σ.sim) 7 j (omega (arith, long0)) h

  pub value_is : value_in b5 ≡ σ.sim
  unfolding value_in
  value_is i = record {
    state = state_of (at_state i);
    steps = count 0 (omega arith) i;
    macros = count 1 (omega arith) i;
    tape = record { left = count 2 (omega arith) i; cur = at_cur i; right = count 3 (omega arith) i; head = count 4 (omega arith) i };
    lowest = count 5 (omega arith) i;
    highest = count 6 (omega arith) i;
  }

  -- ---- the live runs

  left_symbol : (j : ℕ) → j < left → get_or (part b5 128 l) j 0 ≡ get_or σ.ls j 0
  left_symbol j h =
      part_byte b5 128 l j (omega arith)
      ∙ past3 (128 + j) (128 + j + 1) (omega arith) (128 + j) (omega arith) (omega arith)
      ∙ paste_byte b1 128 σ.ls left j (omega (arith, long1)) (omega arith) h

  right_symbol : (j : ℕ) → j < right → get_or (part b5 (right_symbols l) r) j 0 ≡ get_or σ.rs j 0
  right_symbol j h =
      part_byte b5 (right_symbols l) r j (omega arith)
      ∙ past4 (128 + l + j) (128 + l + j + 1) (omega arith) (128 + l + j) (omega arith) (omega arith)
      ∙ paste_byte b2 (right_symbols l) σ.rs right j (omega (arith, long2)) (omega arith) h

  left_length : (j : ℕ) → j < left → get_or (numbers_in (part b5 (left_lengths l r) (8 * l))) j 0 ≡ get_or σ.ll j 0
  left_length j h =
      sym (number_in_lem (part b5 (left_lengths l r) (8 * l)) j (omega (arith, length_part b5 (left_lengths l r) (8 * l) (omega (arith, long5)))))
      ∙ part-get64 b5 (left_lengths l r) (8 * l) (8 * j) (omega arith)
      ∙ get64_agree b5 b4 (left_lengths l r + 8 * j) (past5 (left_lengths l r + 8 * j) (left_lengths l r + 8 * j + 8) (omega arith))
      ∙ get_put_numbers b3 (left_lengths l r) σ.ll left j (omega (arith, long3)) h

  right_length : (j : ℕ) → j < right → get_or (numbers_in (part b5 (right_lengths l r) (8 * r))) j 0 ≡ get_or σ.rl j 0
  right_length j h =
      sym (number_in_lem (part b5 (right_lengths l r) (8 * r)) j (omega (arith, length_part b5 (right_lengths l r) (8 * r) (omega (arith, long5)))))
      ∙ part-get64 b5 (right_lengths l r) (8 * r) (8 * j) (omega arith)
      ∙ get_put_numbers b4 (right_lengths l r) σ.rl right j (omega (arith, long4)) h

  -- ---- the engine in the slot is the one written

  abbrev pub shown : Conf
  shown = conf σ.sim (part b5 128 l) (numbers_in (part b5 (left_lengths l r) (8 * l))) (part b5 (right_symbols l) r) (numbers_in (part b5 (right_lengths l r) (8 * r)))

  pub shown_live : SameLive σ shown
  shown_live = record { sim = refl; ls = left_symbol; ll = left_length; rs = right_symbol; rl = right_length }
