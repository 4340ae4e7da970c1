-- A slot of the run-length engine. The engine's value lies in the first 64 of 128 bytes. Then come the symbols of the left side and of the right side, then
-- the lengths of the left side and of the right side, eight bytes each. Only live runs are written and read. Definitions only.
use Rattle.std.specs.Prelude.{Bool, List, [], ◌∷◌, ℕ, zero, suc, ◌+◌, ◌*◌, ◌/◌, eqb, length, take, drop, get_or, set, None, Option, Some}
use Rattle.std.proofs.Math.Seq.{paste}
use Rattle.notation.specs.Choice.{pick, both}
use Rattle.symbol.specs.Kinds.{state_of}
use Rattle.machine.specs.declared.Machine.{Machine}
use Rattle.store_bytes.specs.Bytes.{get16, get64, put16, put64}
use Rattle.rle_stack.specs.Model.{places_of}
use Rattle.rle.specs.declared.ChainSim.{ChainSim}
use Rattle.rle.specs.Model.Engine.{Conf, conf}
use Rattle.rle.specs.Fits.{chain_fits}

-- ---- the layout, with l places on the left side and r on the right

abbrev pub lefts_of : Conf → ℕ
lefts_of σ = places_of σ.ls σ.ll

abbrev pub rights_of : Conf → ℕ
rights_of σ = places_of σ.rs σ.rl

-- "A slot is 128 bytes more than .. 9 × the run places."
abbrev pub bytes_for : (l r : ℕ) → ℕ
bytes_for l r = 128 + 9 * (l + r)

abbrev pub slot_size : Machine → Conf → ℕ
slot_size m σ = bytes_for (lefts_of σ) (rights_of σ)

-- where the right side's symbols begin; the left side's begin at byte 128
abbrev pub right_symbols : (l : ℕ) → ℕ
right_symbols l = 128 + l

abbrev pub left_lengths : (l r : ℕ) → ℕ
left_lengths l r = 128 + l + r

abbrev pub right_lengths : (l r : ℕ) → ℕ
right_lengths l r = 128 + 9 * l + r

-- ---- writing an engine into a slot

-- writes the first n numbers of `xs`, eight bytes each, from byte `at` on
unfoldable pub put_numbers : List ℕ → (at : ℕ) → (xs : List ℕ) → (n : ℕ) → List ℕ
put_numbers b at xs zero = b
put_numbers b at xs (suc n) = put64 (put_numbers b at xs n) (at + 8 * n) (get_or xs n 0)

-- the state in 2 bytes, the symbol under the head in one, and seven numbers from byte 8 on
abbrev pub counts_of : ChainSim → List ℕ
counts_of v =
    v.steps ∷ v.macros ∷ v.tape.left ∷ v.tape.right ∷ v.tape.head ∷ v.lowest ∷ v.highest ∷ []

unfoldable pub put_value : ChainSim → List ℕ → List ℕ
put_value v b = put_numbers (set (put16 b 0 v.state.0) 2 v.tape.cur) 8 (counts_of v) 7

unfoldable pub put_symbols : Conf → List ℕ → List ℕ
put_symbols σ b =
    paste (paste b 128 σ.ls σ.sim.tape.left) (right_symbols (lefts_of σ)) σ.rs σ.sim.tape.right

unfoldable pub put_lengths : Conf → List ℕ → List ℕ
put_lengths σ b =
    put_numbers (put_numbers b (left_lengths (lefts_of σ) (rights_of σ)) σ.ll σ.sim.tape.left)
    (right_lengths (lefts_of σ) (rights_of σ)) σ.rl σ.sim.tape.right

unfoldable pub packed : Conf → List ℕ → List ℕ
packed σ b = put_lengths σ (put_symbols σ (put_value σ.sim b))

abbrev pub pack_of : Machine → Conf → List ℕ → List ℕ
pack_of m σ b = packed σ b

-- ---- reading a slot into the places of an engine

abbrev pub part : List ℕ → (at n : ℕ) → List ℕ
part b at n = take n (drop at b)

-- the n numbers from `at` on, and all numbers of a list of bytes
unfoldable pub numbers_from : List ℕ → (at n : ℕ) → List ℕ
numbers_from b at zero = []
numbers_from b at (suc n) = get64 b at ∷ numbers_from b (at + 8) n

abbrev pub numbers_in : List ℕ → List ℕ
numbers_in b = numbers_from b 0 (length b / 8)

unfoldable pub value_in : List ℕ → ChainSim
value_in b = record {
  state = state_of (get16 b 0);
  steps = get64 b 8;
  macros = get64 b 16;
  tape = record { left = get64 b 24; cur = get_or b 2 0; right = get64 b 32; head = get64 b 40 };
  lowest = get64 b 48;
  highest = get64 b 56;
}

-- the engine in the bytes of a slot, with l and r places of its own
abbrev pub held_in : (l r : ℕ) → List ℕ → Conf
held_in l r b =
    conf (value_in b) (part b 128 l) (numbers_in (part b (left_lengths l r) (8 * l))) (part b (right_symbols l) r)
    (numbers_in (part b (right_lengths l r) (8 * r)))

-- the lent places
pub record Lent : Type 0 where
  pub ls : List ℕ
  pub ll : List ℕ
  pub rs : List ℕ
  pub rl : List ℕ

abbrev pub lent : (ls ll rs rl : List ℕ) → Lent
lent ls ll rs rl = record { ls = ls; ll = ll; rs = rs; rl = rl }

-- the value of h, with its live runs in the places t of another engine
abbrev pub live_in : Conf → Lent → Conf
live_in h t =
    conf h.sim (paste t.ls 0 h.ls h.sim.tape.left) (paste t.ll 0 h.ll h.sim.tape.left)
    (paste t.rs 0 h.rs h.sim.tape.right) (paste t.rl 0 h.rl h.sim.tape.right)

-- "a fitting engine of its step"
unfoldable pub holds_one : Machine → (l r : ℕ) → List ℕ → (step : ℕ) → Bool
holds_one m l r b step = both (eqb (value_in b).steps step) (chain_fits m (held_in l r b))

unfoldable pub unpacked : Machine → List ℕ → (step : ℕ) → Lent → Option Conf
unpacked m b step t =
    let l : ℕ = places_of t.ls t.ll in
    let r : ℕ = places_of t.rs t.rl in
    pick (holds_one m l r b step) (Some (live_in (held_in l r b) t)) None

abbrev pub unpack_of : Machine → List ℕ → (step : ℕ) → Conf → Option Conf
unpack_of m b step σ = unpacked m b step (lent σ.ls σ.ll σ.rs σ.rl)
