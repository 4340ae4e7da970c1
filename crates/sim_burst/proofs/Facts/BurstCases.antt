-- What an entry of a table says. Assumes nothing.
use Rattle.std.specs.Prelude.{◌≡◌, List, Some}
use Rattle.std.proofs.Math.Path.{refl}
use Prim.Native.Nat.{ℕ, zero, suc, ◌+◌, ◌*◌, ◌-◌, ◌/◌, ◌≤◌, ◌<◌}
use native.Mathlib.Omega.{arith}
use borrow.Author.Tests.{lt-ltb, eq-eqb}
use Rattle.std.proofs.Math.ListN.{length}
use Rattle.notation.specs.Choice.{pick, both}
use Rattle.symbol.specs.Kinds.{dir_number}
use Rattle.symbol.specs.declared.Dir.TheVariants.{N}
use Rattle.machine.specs.Layout.{flag_at, byte_at, action_at, entry_at}
use Rattle.sim_burst.specs.Model.Burst.{EntryOf, Is}

module _ (s : List ℕ) (i : ℕ) (there : 8 * i + 8 ≤ length s) (defined : flag_at s i ≡ 1) where
  is_defined : entry_at s i ≡ Some (action_at s i)
  unfolding entry_at pick both
  is_defined =
      let l : i < length s / 8 = omega arith in
      simp (lt-ltb _ _ l, eq-eqb _ _ defined)

  moves_of : (d : ℕ) → byte_at s i 6 ≡ 24 + d → d ≤ 2 → (dir_number (action_at s i).dir0 ≡ d) × ((action_at s i).dir1 ≡ N) × ((action_at s i).dir2 ≡ N)
  unfolding action_at pick
  moves_of zero e h = simp e (refl, refl, refl)
  moves_of (suc zero) e h = simp e (refl, refl, refl)
  moves_of (suc (suc zero)) e h = simp e (refl, refl, refl)
  moves_of (suc (suc (suc d))) e h = absurd (omega arith)

  pub table_entry : (k r1 r2 row : ℕ) → 24 ≤ byte_at s i 6 → byte_at s i 6 ≤ 26 → r1 ≡ byte_at s i 1 → r1 < 256 → r2 ≡ byte_at s i 2 → r2 < 256
      → row ≡ (r1 + 256 * r2) * k → row ≤ 16776960
      → EntryOf (Is s) k i (record { write = byte_at s i 3; dir = byte_at s i 6 - 24; next = r1 + 256 * r2; row = row })
  unfolding action_at
  table_entry k r1 r2 row a b e1 l1 e2 l2 e l =
      let m = moves_of (byte_at s i 6 - 24) (omega arith) (omega arith) in
      record {
        is = λ u z. rw z (record {
          says = record {
            act = action_at s i;
            is = is_defined;
            writes = refl;
            moves = m.0;
            goes = rw (e1, e2);
            still1 = m.1;
            still2 = m.2;
          };
          row_is = e;
        });
        small = omega arith;
        row_small = omega arith;
      }
