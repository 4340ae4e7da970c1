-- The step at which the next slot is due, as the code computes it; and what thinning makes of the value and of the store. Definitions only.
use Rattle.std.specs.Prelude.{◌≡◌, Bool, List, ℕ, zero, suc, ◌+◌, ◌-◌, ◌*◌, ◌/◌, ◌≤◌, min, max, leb, ltb, eqb, length}
use Rattle.notation.specs.Choice.{pick}
use Rattle.notation.specs.Limits.{steps_most, interval_most}
use Rattle.store_bytes.specs.Model.{move_slot, thin_by}
use Rattle.timeline_rule.specs.declared.Times.{Times}
use Rattle.timeline_rule.specs.Model.Timeline.{due, halved}

-- `due`, or 2^62 + 1 where `due` is over 2^62: a forged value (512 slots, interval 2^63) has `due` over 2^64, which the code cannot compute
unfoldable pub due_of : (first count every : ℕ) → ℕ
due_of first count every = pick (leb count ((steps_most - first) / every)) (first + count * every) (steps_most + 1)

abbrev pub safe_due : Times → ℕ
safe_due v = due_of v.first v.count v.every

abbrev pub is_due : Times → (steps : ℕ) → Bool
is_due v p = eqb p (due v)

-- the step at which an advance from step p stops: the target, or that of the next slot where it comes first
abbrev pub stop_for : (target : ℕ) → Times → (p : ℕ) → ℕ
stop_for t v p = max (min t (due v)) p

-- the target of a forward call, or 2^62 + 1 where it is over 2^62: all such targets get the same refusal
unfoldable pub forward_to : (p n : ℕ) → ℕ
forward_to p n = pick (leb p steps_most) (pick (leb n (steps_most - p)) (p + n) (steps_most + 1)) (steps_most + 1)

-- the target of a call given by two numbers: `which` is 0 for seek, 1 for forward, else back
unfoldable pub target_to : (which p n : ℕ) → ℕ
target_to zero p n = n
target_to (suc zero) p n = forward_to p n
target_to (suc (suc k)) p n = p - n

-- ---- thinning where more than m slots are recorded: the value, and the store

unfoldable pub thin_times : Times → Times
thin_times v = pick (ltb v.most v.count) (halved v) v

unfoldable pub thin_store : (size : ℕ) → Times → List ℕ → List ℕ
thin_store size v t = pick (ltb v.most v.count) (thin_by (move_slot size) ((v.count - 1) / 2) t) t

pub record Thinned (v r : Times) (size : ℕ) (t t₁ : List ℕ) : Type 0 where
  pub value : r ≡ thin_times v
  pub store : t₁ ≡ thin_store size v t

-- the requirements of the code: no sum of the numbers wraps, and the slots lie inside the store
pub record TimesFit (v : Times) : Type 0 where
  pub first_in : v.first ≤ steps_most
  pub every_in : 1 ≤ v.every

pub record ThinOk (v : Times) (t : List ℕ) (size : ℕ) : Type 0 where
  pub few : v.count ≤ 513
  pub some : 1 ≤ v.count
  pub inside : v.count * size ≤ length t
  pub doubles : 2 * v.every ≤ interval_most

pub record RecordOk (v : Times) (t : List ℕ) (size : ℕ) : Type 0 where
  pub few : v.count ≤ 512
  pub inside : (v.count + 1) * size ≤ length t
  pub doubles : 2 * v.every ≤ interval_most
