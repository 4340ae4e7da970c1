-- The model of the code for a macro step on two sides of runs. Definitions only.
use Rattle.std.specs.Prelude.{◌≡◌, Bool, false, ℕ, ◌+◌, ◌-◌, ◌≤◌, ◌<◌, min, eqb}
use Rattle.notation.specs.Choice.{pick, both}
use Rattle.notation.specs.Limits.{raised_zero}
use Rattle.symbol.specs.declared.State.{State}
use Rattle.symbol.specs.declared.Dir.{Dir}
use Rattle.symbol.specs.declared.Dir.TheVariants.{L, R, N}
use Rattle.outcome.specs.declared.NonHaltProof.{NonHaltProof}
use Rattle.outcome.specs.declared.NonHaltProof.TheVariants.{StayLoop, ChainToInfinity}
use Rattle.rle_stack.specs.Model.{Side, places_of, top_of, ahead_of, push_of, lacks, take_of, cells_of}
use Rattle.rle_macro.specs.declared.inner.macro_step.Step.{Step}

-- ---- when an entry that keeps the state is a proved loop

-- the head moves from a blank into a side without runs
abbrev pub walks_on : (cur runs : ℕ) → Bool
walks_on cur n = both (eqb cur 0) (eqb n 0)

-- or the entry stays and rewrites what it read
unfoldable pub loops_for : Dir → (write cur lefts rights : ℕ) → Bool
loops_for L w cur l r = walks_on cur l
loops_for R w cur l r = walks_on cur r
loops_for N w cur l r = eqb w cur

unfoldable pub proof_of : State → Dir → NonHaltProof
proof_of q L = ChainToInfinity q L
proof_of q R = ChainToInfinity q R
proof_of q N = StayLoop q

-- ---- how many steps, and whether there is a place

-- "it is the run ahead (a top run of the symbol read) plus one, or the fuel if less"
unfoldable pub chain_for : Dir → (cur fuel : ℕ) → (left right : Side) → ℕ
chain_for L cur fuel l r = min (ahead_of cur l + 1) fuel
chain_for R cur fuel l r = min (ahead_of cur r + 1) fuel
chain_for N cur fuel l r = 1

-- "A macro step is one step; where the entry keeps the state and moves, ..; a proved loop covers all the fuel."
abbrev pub times_for : Dir → (loops keeps : Bool) → (cur fuel : ℕ) → (left right : Side) → ℕ
times_for d loops keeps cur fuel l r = pick loops fuel (pick keeps (chain_for d cur fuel l r) 1)

-- "Full exactly when the step's push needs a new run on a side whose live runs fill its lent places."
unfoldable pub full_for : Dir → (write left_places right_places : ℕ) → (left right : Side) → Bool
full_for L w lp rp l r = lacks rp w r
full_for R w lp rp l r = lacks lp w l
full_for N w lp rp l r = false

-- the number of steps of a macro step to one side
unfoldable pub reach_of : (loops keeps : Bool) → (cur fuel : ℕ) → (ahead : Side) → ℕ
reach_of loops keeps cur fuel x = pick loops fuel (pick keeps (min (ahead_of cur x + 1) fuel) 1)

-- ---- the macro step

-- n cells are written behind the head, and n are taken from the side ahead; the last of these is then under the head
pub record Carried : Type 0 where
  pub behind : Side
  pub cur : ℕ
  pub ahead : Side

abbrev pub carried : Side → ℕ → Side → Carried
carried b c a = record { behind = b; cur = c; ahead = a }

unfoldable pub carry_of : (write n : ℕ) → (behind ahead : Side) → Carried
carry_of w n b a =
    carried (push_of w n b) (top_of (take_of (n - 1) a)) (take_of 1 (take_of (n - 1) a))

-- the same, with the number of steps
pub record Went : Type 0 where
  pub behind : Side
  pub cur : ℕ
  pub ahead : Side
  pub repeats : ℕ

abbrev pub gone : Side → ℕ → Side → ℕ → Went
gone b c a n = record { behind = b; cur = c; ahead = a; repeats = n }

abbrev pub gone_by : (write n : ℕ) → (behind ahead : Side) → Went
gone_by w n b a =
    gone (carry_of w n b a).behind (carry_of w n b a).cur (carry_of w n b a).ahead n

-- where the push has no place, nothing changes and no step is made
unfoldable pub go_of : (places : ℕ) → Step → (cur fuel : ℕ) → (behind ahead : Side) → Went
go_of p s cur fuel b a =
    pick (lacks p s.write b) (gone b cur a 0) (gone_by s.write (reach_of s.loops s.keeps cur fuel a) b a)

-- the same, by left and right
pub record Made : Type 0 where
  pub left : Side
  pub cur : ℕ
  pub right : Side
  pub repeats : ℕ

abbrev pub moved : Side → ℕ → Side → ℕ → Made
moved l c r n = record { left = l; cur = c; right = r; repeats = n }

abbrev pub left_gone : Went → Made
left_gone g = moved g.ahead g.cur g.behind g.repeats

abbrev pub right_gone : Went → Made
right_gone g = moved g.behind g.cur g.ahead g.repeats

unfoldable pub make_to : Dir → Step → (cur left_places right_places fuel : ℕ) → (left right : Side) → Made
make_to L s cur lp rp fuel l r = left_gone (go_of rp s cur fuel r l)
make_to R s cur lp rp fuel l r = right_gone (go_of lp s cur fuel l r)
make_to N s cur lp rp fuel l r = moved l s.write r (pick s.loops fuel 1)

abbrev pub make_of : Step → (cur left_places right_places fuel : ℕ) → (left right : Side) → Made
make_of s cur lp rp fuel l r = make_to s.dir s cur lp rp fuel l r

unfoldable pub head_for : Dir → (head n : ℕ) → ℕ
head_for L h n = h - n
head_for R h n = h + n
head_for N h n = h

-- what a macro step requires: the live runs have places, each side's cells and the fuel sum to less than 2^63, and there is fuel
pub record MakeOk (lp rp fuel : ℕ) (l r : Side) : Type 0 where
  pub lefts : lp ≡ places_of l.symbols l.lengths
  pub rights : rp ≡ places_of r.symbols r.lengths
  pub left_live : l.count ≤ lp
  pub right_live : r.count ≤ rp
  pub left_cells : cells_of l + fuel < raised_zero
  pub right_cells : cells_of r + fuel < raised_zero
  pub some_fuel : 1 ≤ fuel
