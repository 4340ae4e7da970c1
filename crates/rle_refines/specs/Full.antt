-- When a step is full, by the table machine's configuration and the numbers of lent places alone. Definitions only.
use Rattle.std.specs.Prelude.{◌≡◌, ℕ, suc, ◌≤◌, ℤ, Some}
use Rattle.symbol.specs.declared.Dir.{Dir}
use Rattle.symbol.specs.declared.Dir.TheVariants.{L, R, N}
use Rattle.machine.specs.declared.Machine.{Machine}
use Rattle.machine.specs.declared.Action.{Action}
use Rattle.table_machine.specs.TableMachine.{Table, Tape, Config, read_t, entry}
use Rattle.rle_refines.specs.Meaning.{Stack, empty, over, top, stream, distance, look, RunsFit}

-- the number of runs
abbrev pub height : Stack → ℕ
height empty = 0
height (over s n r) = suc (height r)

-- the two stacks of a tape with symbols below k; the stack rule allows one pair only (`one_pair` in Facts/Canonical)
pub record Stacked (k : ℕ) (t : Tape) (left right : Stack) : Type 0 where
  pub lefts : RunsFit k left
  pub rights : RunsFit k right
  pub cells : (z : ℤ) → t.cell z ≡ look (stream left) (read_t t) (stream right) (distance t.head z)

-- "Full exactly when the step's push needs a new run on a side whose live runs fill its lent places."
abbrev pub FullOn : Dir → (write lefts rights : ℕ) → (left right : Stack) → Type 0
FullOn L w lp rp l r = ¬ (w ≡ top r) × (rp ≤ height r)
FullOn R w lp rp l r = ¬ (w ≡ top l) × (lp ≤ height l)
FullOn N w lp rp l r = ⊥

pub record FullAt (m : Machine) (d : Table) (lefts rights : ℕ) (c : Config) : Type 0 where
  pub act : Action
  pub has : entry d c ≡ Some act
  pub left : Stack
  pub right : Stack
  pub stacked : Stacked m.symbols c.tape0 left right
  pub full : FullOn act.dir0 act.write0.0 lefts rights left right
