-- THE TIMELINE of document 01 (checkpoint.rs), over any engine: recording, thinning, restoring, seeking, and its refusals. Definitions only.
use Rattle.std.specs.Prelude.{ℕ, zero, suc, ◌+◌, ◌-◌, ◌*◌, ◌/◌, min, max, Bool, true, leb, ltb, eqb, Err, None, Ok, Option, Result, Some, ⊤}
use Rattle.notation.specs.Choice.{pick, both}
use Rattle.notation.specs.Limits.{steps_most, interval_most}
use Rattle.outcome.specs.declared.Refusal.{Refusal}
use Rattle.outcome.specs.declared.Refusal.TheVariants as Why
use Rattle.machine.specs.Model.Check.{within, demand, checked_on}
use Rattle.store_bytes.specs.Model.{thin_by}
use Rattle.timeline_rule.specs.declared.Call.{Call}
use Rattle.timeline_rule.specs.declared.Call.TheVariants.{Seek, Forward, Back}
use Rattle.timeline_rule.specs.declared.Times.{Times}
use Rattle.timeline_rule.specs.Model.Engine.{Ops}

-- ---- a call, and its answer

-- the call given by two numbers: `which` is 0 for seek, 1 for forward, else back
abbrev pub call_for : (which number : ℕ) → Call
call_for zero n = Seek n
call_for (suc zero) n = Forward n
call_for (suc (suc k)) n = Back n

pub data Reply (A : Type 0) : Type 0 where
  refused : Refusal → Reply A
  answered : A → Reply A

-- "The target of seek s is s, of forward n p + n, of back n p - n, or 0 if n is larger."
abbrev pub target : ℕ → Call → ℕ
target p (Seek s) = s
target p (Forward n) = p + n
target p (Back n) = p - n

-- ---- the timeline's own value: m, the starting step, slots recorded, the interval

-- "start + count × interval": the step at which the next slot is recorded
abbrev pub due : Times → ℕ
due t = t.first + t.count * t.every

-- "14 m not 1 to 512, first interval not 1 to 2^32"
unfoldable pub new_ok : (most every : ℕ) → Bool
new_ok m k = both (within 1 512 m) (within 1 4294967296 k)

-- "or a later value with interval not 1 to 2^63, count not 1 to m, or steps outside start to start + count × interval"
unfoldable pub times_ok : Times → (steps : ℕ) → Bool
times_ok t p =
    both (within 1 512 t.most)
    (both (within 1 interval_most t.every) (both (within 1 t.most t.count) (within t.first (due t) p)))

-- the refusals of a new timeline: "14 ..; 15 a store under m + 1 slots"; a call at step p has these, then "13 target over 2^62"
abbrev pub first_check : (most every slots : ℕ) → Result ⊤ Refusal
first_check m k n = demand (new_ok m k) Why.Settings (demand (ltb m n) Why.StoreSize (Ok tt))

abbrev pub later_check : Times → (steps slots target : ℕ) → Result ⊤ Refusal
later_check t p n target =
    demand (times_ok t p) Why.Settings
    (demand (ltb t.most n) Why.StoreSize (demand (leb target steps_most) Why.StepLimit (Ok tt)))

-- "Going back restores slot (target - start) / interval, the last at most."
abbrev pub slot_for : (target : ℕ) → Times → ℕ
slot_for target t = min ((target - t.first) / t.every) (t.count - 1)

abbrev pub slot_step : (target : ℕ) → Times → ℕ
slot_step target t = t.first + slot_for target t * t.every

-- the value with one slot more; and that of thinning, which "keeps those of even index and doubles the interval"
abbrev pub one_more : Times → Times
one_more t = record { most = t.most; first = t.first; count = t.count + 1; every = t.every }

abbrev pub halved : Times → Times
halved t = record { most = t.most; first = t.first; count = (t.count + 1) / 2; every = 2 * t.every }

-- the loop ends at the target, or where an advance made no step: halted or full
unfoldable pub ended : (target now before : ℕ) → Bool
ended target now before = pick (leb target now) true (eqb now before)

-- ---- the engine with its buffers, the store, and the timeline's value

pub record TimelineWith (State Store : Type 0) : Type 0 where
  pub engine : State
  pub store : Store
  pub times : Times

module _ {Out : Type 0} (O : Ops Out) where
  abbrev pub TimelineOver : Type 0
  TimelineOver = TimelineWith O.State O.Store

  abbrev pub timeline_with : O.State → O.Store → Times → TimelineOver
  timeline_with s t v = record { engine = s; store = t; times = v }

  abbrev pub thin : ℕ → O.Store → O.Store
  thin = thin_by O.move

  -- "with more than m recorded it keeps those of even index and doubles the interval"
  unfoldable pub thinned : O.State → O.Store → Times → TimelineOver
  thinned s t v = pick (ltb v.most v.count) (timeline_with s (thin ((v.count - 1) / 2) t) (halved v)) (timeline_with s t v)

  unfoldable pub recorded : TimelineOver → TimelineOver
  recorded w = thinned w.engine (O.save w.times.count w.engine w.store) (one_more w.times)

  -- "Reaching start + count × interval, it records before going on"
  unfoldable pub record_due : TimelineOver → TimelineOver
  record_due w = pick (eqb (O.now w.engine) (due w.times)) (recorded w) w

  abbrev pub with_engine : TimelineOver → O.State → TimelineOver
  with_engine w s = timeline_with s w.store w.times

  -- the next advance goes to the target, or to the next slot where that comes first
  abbrev pub stop_at : ℕ → TimelineOver → ℕ
  stop_at target w = max (min target (due w.times)) (O.now w.engine)

  abbrev pub stride : ℕ → TimelineOver → Out × O.State
  stride target w = O.advance (stop_at target w - O.now w.engine) w.engine

  -- one turn: records if a slot is due, then advances
  abbrev pub turned : ℕ → TimelineOver → TimelineOver
  turned target w = with_engine (record_due w) (stride target (record_due w)).1

  -- "Full is treated in the loop as Halted is."
  unfoldable pub advance_to : (gas target : ℕ) → TimelineOver → Out × TimelineOver
  advance_to zero target w = ((O.advance 0 w.engine).0, w)
  advance_to (suc gas) target w =
      let v : TimelineOver = turned target w in
      let on : Out × TimelineOver = advance_to gas target v in
      pick (ended target (O.now v.engine) (O.now w.engine)) ((stride target (record_due w)).0, v) on

  -- enough gas to reach the target
  abbrev pub gas_for : ℕ → TimelineOver → ℕ
  gas_for target w = suc (target - O.now w.engine)

  abbrev pub said : Out × TimelineOver → Reply Out × TimelineOver
  said r = (answered r.0, r.1)

  unfoldable pub go_on : ℕ → TimelineOver → Reply Out × TimelineOver
  go_on target w = said (advance_to (gas_for target w) target w)

  -- "16 the slot to restore holds no fitting engine of its step"
  abbrev pub from_slot : ℕ → TimelineOver → Option O.State → Reply Out × TimelineOver
  from_slot target w None = (refused Why.Slot, w)
  from_slot target w (Some s) = go_on target (with_engine w s)

  unfoldable pub go_back : ℕ → TimelineOver → Reply Out × TimelineOver
  go_back target w = from_slot target w (O.restore (slot_for target w.times) (slot_step target w.times) w.engine w.store)

  -- "A target equal to the present step gets that configuration's verdict, nothing recorded."
  unfoldable pub stay : TimelineOver → Reply Out × TimelineOver
  stay w =
      let r : Out × O.State = O.advance 0 w.engine in
      (answered r.0, with_engine w r.1)

  unfoldable pub go_to : ℕ → TimelineOver → Reply Out × TimelineOver
  go_to target w =
      pick (eqb target (O.now w.engine)) (stay w)
      (pick (ltb target (O.now w.engine)) (go_back target w) (go_on target w))

  -- "Timeline: 8, 11, 12; 14 ..; 15 a store under m + 1 slots; 13 target over 2^62"
  unfoldable pub call_check : TimelineOver → (target : ℕ) → Result ⊤ Refusal
  call_check w target =
      checked_on (O.check w.engine) (later_check w.times (O.now w.engine) (O.slots w.store) target)

  -- "A refusal leaves everything lent or passed as it was."
  abbrev pub on_check : Result ⊤ Refusal → TimelineOver → Reply Out × TimelineOver → Reply Out × TimelineOver
  on_check (Err why) w done = (refused why, w)
  on_check (Ok tt) w done = done

  -- a call: its answer, and the timeline handed back. "A target below the start counts as the start."
  unfoldable pub call : TimelineOver → Call → Reply Out × TimelineOver
  call w c =
      let t : ℕ = target (O.now w.engine) c in
      on_check (call_check w t) w (go_to (max t w.times.first) w)

  -- ---- a new timeline

  unfoldable pub new_check : (most every : ℕ) → O.State → O.Store → Result ⊤ Refusal
  new_check m k s t = checked_on (O.check s) (first_check m k (O.slots t))

  -- "A new timeline saves slot 0 at its starting step."
  abbrev pub born : (most every : ℕ) → O.State → O.Store → TimelineOver
  born m k s t = timeline_with s (O.save 0 s t) (record { most = m; first = O.now s; count = 1; every = k })

  abbrev pub on_new : Result ⊤ Refusal → TimelineOver → Reply TimelineOver
  on_new (Err why) w = refused why
  on_new (Ok tt) w = answered w

  unfoldable pub new : (most every : ℕ) → O.State → O.Store → Reply TimelineOver
  new m k s t = on_new (new_check m k s t) (born m k s t)
