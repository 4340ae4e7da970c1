-- The actions of a well-formed table with one tape: their rows fit 32 bits, and the two absent tapes have nothing. Assumes nothing.
use Rattle.std.specs.Prelude.{◌≡◌, List, ℕ, ◌*◌, ◌^◌, ◌≤◌, ◌<◌}
use Rattle.std.proofs.Common.{mul-le-mul}
use native.Mathlib.Omega.{arith}
use Rattle.symbol.specs.Kinds.{symbol_of}
use Rattle.machine.specs.declared.Machine.{Machine}
use Rattle.machine.specs.declared.Action.{Action}
use Rattle.machine.specs.Layout.{single_of}
use Rattle.table_laws.specs.WellFormed.{ActionOf, WellFormed}

module _ (m : Machine) (s : List ℕ) (w : WellFormed m s) where
  pub rows_fit : (a : Action) → ActionOf m a → a.next.0 * m.symbols < 2 ^ 32
  rows_fit a o =
      let n = w 3 in
      let k = w 2 in
      let l : a.next.0 * m.symbols ≤ 65535 * 256 = mul-le-mul {n₂ = 65535} {m₂ = 256} (omega (arith, o.next_in)) k.1 in
      omega arith

  module _ (one : m.tapes ≡ 1) where
    pub single : (a : Action) → ActionOf m a → a ≡ single_of a.write0 a.dir0 a.next
    single a o =
        let x = o.lacks1 (omega arith) in
        let y = o.lacks2 (omega arith) in
        λ i. record {
          next = a.next;
          write0 = a.write0;
          write1 = symbol_of (x.0 i);
          write2 = symbol_of (y.0 i);
          dir0 = a.dir0;
          dir1 = x.1 i;
          dir2 = y.1 i;
        }
