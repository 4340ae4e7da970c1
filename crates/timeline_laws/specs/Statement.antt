-- THE THIRD DEMAND, for any kind of engine, in terms of the table machine and the models only. Definitions only. `Demand` is the statement, for fresh engines;
-- `DemandFrom` is the same for any engine value that a new timeline accepts. Both use `WholeList`, where c is the configuration that the engine holds at the start.
use Rattle.std.specs.Prelude.{ℕ, ◌+◌, ◌-◌, ◌*◌, ◌≤◌, ◌<◌, min, max, ◌^◌, ◌≡◌, Bool, true, false, ◌↔◌, List, [], ◌∷◌, ◌++◌, leb, None, Option, Some}
use Rattle.notation.specs.Choice.{pick}
use Rattle.symbol.specs.Kinds.{state_of}
use Rattle.outcome.specs.declared.NonHaltProof.{NonHaltProof}
use Rattle.outcome.specs.declared.Outcome.{Outcome}
use Rattle.outcome.specs.declared.Outcome.TheVariants as Out
use Rattle.outcome.specs.declared.Refusal.{Refusal}
use Rattle.outcome.specs.Numbers.{steps_of, is_full, proof_state, refusal_number}
use Rattle.machine.specs.declared.Machine.{Machine}
use Rattle.table_laws.specs.WellFormed.{Bytes}
use Rattle.table_machine.specs.TableMachine.{Config, start, run, Halted, Verdict}
use Rattle.table_machine.specs.Tables.{table_of}
use Rattle.store_bytes.specs.Model.{slot_of}
use Rattle.timeline_rule.specs.declared.Call.{Call}
use Rattle.timeline_rule.specs.declared.Call.TheVariants.{Forward}
use Rattle.timeline_rule.specs.Model.Timeline.{Reply, refused, answered, target}
use Rattle.timeline_rule.specs.Model.Kind.{TimelineOf, new_on, call_on}
use Rattle.timeline_laws.specs.Meaning.{EngineMeaning}
use Rattle.timeline_laws.specs.Notes.{bare, NotedOf, new_noted, after_noted}

-- ---- "The rule for p: begin at 0; let h be the step at which the table machine halts on the engine's table and word, if it does."
-- For a timeline that starts past step 0, p begins at its start: the step count of c.

-- "A target below the start counts as the start." (For a fresh engine the start is 0, and no target is below it.)
abbrev pub goal : (first : ℕ) → ℕ → Call → ℕ
goal first p c = max (target p c) first

-- "its target, or h where that is less"
abbrev pub or_halt : ℕ → Option ℕ → ℕ
or_halt t None = t
or_halt t (Some h) = min t h

-- "An accepted call makes p its target, or h where that is less; a refused one leaves p."
abbrev pub place_by : (first : ℕ) → Option ℕ → ℕ → List Call → ℕ
place_by first h p [] = p
place_by first h p (k ∷ ks) = place_by first h (pick (leb (target p k) (2 ^ 62)) (or_halt (goal first p k) h) p) ks

-- the same without h, so that it need not be decided whether the machine halts
module _ (m : Machine) (s : List ℕ) (c : Config) where
  -- the configuration of the table machine after n steps, where those up to c count; c where n is less than its step count
  abbrev pub after_steps : ℕ → Config
  after_steps n = run (table_of m s) (n - c.steps) c

  abbrev pub HaltedAt : ℕ → Type 0
  HaltedAt n = Halted (table_of m s) (after_steps n)

  -- h is the first step, from the start on, at which the machine has halted, if there is one
  abbrev pub HaltsIn : Option ℕ → Type 0
  HaltsIn None = (n : ℕ) → c.steps ≤ n → ¬ HaltedAt n
  HaltsIn (Some h) = (c.steps ≤ h) × HaltedAt h × ((j : ℕ) → c.steps ≤ j → j < h → ¬ HaltedAt j)

  -- the step count of the configuration after t steps: t, or h where that is less (`WholeList.paper`)
  abbrev pub reach_in : ℕ → ℕ
  reach_in t = (after_steps t).steps

  abbrev pub goal_in : ℕ → Call → ℕ
  goal_in p k = goal c.steps p k

  abbrev pub moved_in : ℕ → Call → ℕ
  moved_in p k = pick (leb (target p k) (2 ^ 62)) (reach_in (goal_in p k)) p

  abbrev pub place_in : ℕ → List Call → ℕ
  place_in p [] = p
  place_in p (k ∷ ks) = place_in (moved_in p k) ks

-- the answer's steps where it is full, else q
abbrev pub steps_if : (full : Bool) → Outcome → ℕ → ℕ
steps_if true o q = steps_of o
steps_if false o q = q

-- p after a call with that answer, where q is p by the rule: after lack of space p is the engine's step count, which the answer gives
abbrev pub stopped_at : Reply Outcome → ℕ → ℕ
stopped_at (refused why) q = q
stopped_at (answered o) q = steps_if (is_full o) o q

-- "The verdict's parts, as in outcome.rs, are read from the configuration": the step count, and the state that the verdict names
abbrev pub Numbers : Outcome → Config → Type 0
Numbers (Out.Halted n q) c = (n ≡ c.steps) × (q ≡ state_of c.state)
Numbers (Out.OutOfFuel n) c = n ≡ c.steps
Numbers (Out.NeverHalts n p) c = (n ≡ c.steps) × (proof_state p ≡ Some (state_of c.state))
Numbers (Out.Stopped n) c = ⊥
Numbers (Out.Full n) c = n ≡ c.steps

-- ---- an engine of a kind, with its timeline

module _ (X : EngineMeaning) (m : Machine) (s : List ℕ) where
  -- "Its first call takes the new timeline's value, each other what the call before handed back."
  abbrev pub after_on : TimelineOf X.kind → List Call → TimelineOf X.kind
  after_on v [] = v
  after_on v (k ∷ ks) = after_on (call_on X.kind m s v k).1 ks

  -- the configuration that the engine holds
  abbrev pub held_on : TimelineOf X.kind → Config
  held_on v = X.config m v.engine

  -- the call does not end for lack of space; no call of the list does
  abbrev pub RoomFor : TimelineOf X.kind → Call → Type 0
  RoomFor v k = (n : ℕ) → ¬ ((call_on X.kind m s v k).0 ≡ answered (Out.Full n))

  abbrev pub Roomy : TimelineOf X.kind → List Call → Type 0
  Roomy v [] = Unit {0}
  Roomy v (k ∷ ks) = RoomFor v k × Roomy (call_on X.kind m s v k).1 ks

  -- forward a and then forward b give the same configuration and the same answer as one forward a + b
  pub record Twice (v : TimelineOf X.kind) (a b : ℕ) : Type 0 where
    pub holds : held_on (call_on X.kind m s (call_on X.kind m s v (Forward a)).1 (Forward b)).1 ≡ held_on (call_on X.kind m s v (Forward (a + b))).1
    pub answers : (call_on X.kind m s (call_on X.kind m s v (Forward a)).1 (Forward b)).0 ≡ (call_on X.kind m s v (Forward (a + b))).0

-- ---- a list of calls on a new timeline, whose engine e holds c

module _ (X : EngineMeaning) (m : Machine) (s : List ℕ) (c : Config) where
  -- p after a list, by the rule and `stopped_at`
  abbrev pub place_on : TimelineOf X.kind → ℕ → List Call → ℕ
  place_on v p [] = p
  place_on v p (k ∷ ks) = place_on (call_on X.kind m s v k).1 (stopped_at (call_on X.kind m s v k).0 (moved_in m s c p k)) ks

  -- the same, where p begins at the start
  abbrev pub place_after : TimelineOf X.kind → List Call → ℕ
  place_after v ks = place_on v c.steps ks

  -- The result of reading slot i, after a list on a timeline that notes what it saves. `saved` is the engine noted for the slot; it was saved at the step
  -- start + i × interval. The slot is read for that step, into the buffers of the timeline's engine, as a call that goes back reads it.
  pub record SlotGives (u : NotedOf X.kind) (i : ℕ) : Type 0 where
    pub saved : X.kind.State
    pub noted : u.store.note i ≡ Some saved
    pub step : X.kind.now saved ≡ c.steps + i * u.times.every
    pub read : X.kind.State
    pub reads : X.kind.unpack m (slot_of (X.kind.slot_size m u.engine) i u.store.bytes) (c.steps + i * u.times.every) u.engine ≡ Some read
    pub same : X.Same m read saved

module _ (X : EngineMeaning) (m : Machine) (s : List ℕ) (c : Config) (e : X.kind.State) where
  -- the step from the configuration after j steps is full by the rule of the engine e, in its buffers
  abbrev pub FullFrom : ℕ → Type 0
  FullFrom j = X.FullStep m s e (j - c.steps)

  -- a call from p to t ended at step n for lack of space and left v: the step from n is the first that is full, and all steps before it were made
  pub record Stuck (v : TimelineOf X.kind) (p t n : ℕ) : Type 0 where
    pub holds : held_on X m s v ≡ after_steps m s c n
    pub from : p ≤ n
    pub short : n < t
    pub full : FullFrom n
    pub first : (j : ℕ) → c.steps ≤ j → j < n → ¬ FullFrom j

  -- the claims about the result r of the call k, made at p on v
  pub record Result (v : TimelineOf X.kind) (p : ℕ) (k : Call) (r : Reply Outcome × TimelineOf X.kind) : Type 0 where
    -- "A call is refused exactly when its target is over 2^62.": the refusal's number is 13, and nothing changes
    pub refuses : 2 ^ 62 < target p k → (why : Refusal) × (refusal_number why ≡ 13) × (r ≡ (refused why, v))
    pub accepts : target p k ≤ 2 ^ 62 → (o : Outcome) × (r.0 ≡ answered o)
    -- "A call ends for lack of space exactly when a step on its way is full by its engine's rule."
    pub space : target p k ≤ 2 ^ 62 → ((n : ℕ) × (r.0 ≡ answered (Out.Full n))) ↔ ((j : ℕ) × (p ≤ j) × (j < goal_in m s c p k) × FullFrom j)
    pub stops : (n : ℕ) → r.0 ≡ answered (Out.Full n) → Stuck r.1 p (goal_in m s c p k) n
    -- "Each accepted call is answered with the verdict of the configuration that the engine then holds.": where it does not end for lack of space, that is the
    -- configuration after p' steps, where p' is the new p by the rule
    pub says : (o : Outcome) → r.0 ≡ answered o → ((n : ℕ) → ¬ (o ≡ Out.Full n))
        → (held_on X m s r.1 ≡ after_steps m s c (reach_in m s c (goal_in m s c p k)))
        × Verdict m.tapes (table_of m s) (after_steps m s c (reach_in m s c (goal_in m s c p k))) o
    -- the answer's parts are those of the configuration that the engine then holds; a full answer has only the step count
    pub numbers : (o : Outcome) → r.0 ≡ answered o → Numbers o (held_on X m s r.1)
    -- "Where an answer is never, the table machine, run without limits, halts at no later step.": the run from c halts at no step
    pub never : (n : ℕ) (f : NonHaltProof) → r.0 ≡ answered (Out.NeverHalts n f) → (j : ℕ) → ¬ HaltedAt m s c j

  -- the same claims, about the call k made after the calls ks
  abbrev pub ResultAt : TimelineOf X.kind → List Call → ℕ → Call → Type 0
  ResultAt v ks p k = Result (after_on X m s v ks) p k (call_on X.kind m s (after_on X m s v ks) k)

  -- the claims about a list on the new timeline v, and about any call after it
  pub record WholeList (v : TimelineOf X.kind) (ks : List Call) : Type 0 where
    -- "After the list the engine holds the table machine's configuration after p steps, p read from the list by document 01's rule."
    pub holds : held_on X m s (after_on X m s v ks) ≡ after_steps m s c (place_after X m s c v ks)
    -- p is the engine's step count
    pub step_count : X.kind.now (after_on X m s v ks).engine ≡ place_after X m s c v ks
    -- the claims about each call of the list
    pub each : (before rest : List Call) (k : Call) → before ++ (k ∷ rest) ≡ ks → ResultAt v before (place_after X m s c v before) k
    -- the claims about any call after the list
    pub onward : (k : Call) → ResultAt v ks (place_after X m s c v ks) k
    -- "none ending for lack of space": then document 01's rule alone gives p
    pub place : Roomy X m s v ks → place_after X m s c v ks ≡ place_in m s c c.steps ks
    -- the same rule in document 01's own form, with h
    pub paper : (h : Option ℕ) → HaltsIn m s c h → (place_in m s c c.steps ks ≡ place_by c.steps h c.steps ks) × ((t : ℕ) → c.steps ≤ t → reach_in m s c t ≡ or_halt t h)
    -- "So from any such p, forward a and then forward b end in the same configuration and answer as one forward a + b, where p + a + b is within that limit and
    -- none of the three calls ends for lack of space."
    pub twice : (a b : ℕ) → place_after X m s c v ks + a + b ≤ 2 ^ 62
        → RoomFor X m s (after_on X m s v ks) (Forward a) → RoomFor X m s (call_on X.kind m s (after_on X m s v ks) (Forward a)).1 (Forward b)
        → Twice X m s (after_on X m s v ks) a b
    -- `FullFrom` is the engine's rule: an advance of n steps by e itself ends full exactly when one of its steps is full
    pub rule : (n : ℕ) → c.steps + n ≤ 2 ^ 62
        → ((i : ℕ) × ((X.kind.advance m s n e).0 ≡ Out.Full i)) ↔ ((j : ℕ) × (c.steps ≤ j) × (j < c.steps + n) × FullFrom j)
    -- the timeline's starting step is the step count of c
    pub begins : (after_on X m s v ks).times.first ≡ c.steps
    -- "reading a recorded slot must give the engine saved": also after later recording and thinning. A timeline that notes what it saves is this timeline,
    -- except for the notes
    pub notes : bare (after_noted X.kind m s (new_noted X.kind v) ks) ≡ after_on X m s v ks
    pub slots : (i : ℕ) → i < (after_on X m s v ks).times.count → SlotGives X m s c (after_noted X.kind m s (new_noted X.kind v) ks) i

-- THE THIRD DEMAND's claim about a kind of engine, from any engine value that a new timeline accepts, whether or not a run leads to it: for every table, buffers,
-- settings, store and list of calls. c is the configuration that the engine holds. A lent table consists of bytes.
abbrev pub DemandFrom : EngineMeaning → Type 0
DemandFrom X = (m : Machine) (s : List ℕ) → Bytes s → (e : X.kind.State)
    → (most every : ℕ) (store : List ℕ) (v : TimelineOf X.kind) → new_on X.kind m s most every e store ≡ answered v
    → (ks : List Call) → WholeList X m s (X.config m e) e v ks

-- the claims about a list over an engine that is fresh on the word w: c is the word's configuration
pub record FreshList (X : EngineMeaning) (m : Machine) (s w : List ℕ) (e : X.kind.State) (v : TimelineOf X.kind) (ks : List Call) : Type 0 where
  pub whole : WholeList X m s (start m.start w) e v ks
  -- "after p steps": these are steps of the run from the word
  pub after : (n : ℕ) → after_steps m s (start m.start w) n ≡ run (table_of m s) n (start m.start w)
  -- "its target": no target is below the start
  pub aim : (p : ℕ) (k : Call) → goal_in m s (start m.start w) p k ≡ target p k

-- THE THIRD DEMAND for a kind of engine: for every table, word, buffers, settings, store and list of calls. The engine and the timeline are those that the
-- models gave. A lent table consists of bytes.
abbrev pub Demand : EngineMeaning → Type 0
Demand X = (m : Machine) (s w : List ℕ) → Bytes s → (b : X.kind.Lent) (e : X.kind.State) → X.kind.create m s w b ≡ answered e
    → (most every : ℕ) (store : List ℕ) (v : TimelineOf X.kind) → new_on X.kind m s most every e store ≡ answered v
    → (ks : List Call) → FreshList X m s w e v ks
