-- The laws that make operations an engine of the table machine: all that the third demand requires of an engine. Definitions only.
use Rattle.std.specs.Prelude.{◌≡◌, ℕ, ◌+◌, ◌≤◌, ◌<◌, Ok, Some}
use Rattle.notation.specs.Limits.{steps_most}
use Rattle.timeline_rule.specs.Model.Engine.{Ops}
use Rattle.timeline_laws.specs.Automaton.{Automaton, iterate}

-- How an advance of n steps ends, which starts with meaning x, answers o and leaves meaning y. Either every step was made (a step leaves a halted engine as it
-- is) and o is the verdict there; or the advance ends at the first step that is full, and o is full with the step count there.
pub data Advance (M : Automaton) (Mean : Type 0) (config : Mean → M.Config) (next : Mean → Mean) (NoRoom : Mean → Type 0) (n : ℕ) (x : Mean) (o : M.Out) (y : Mean) : Type 0 where
  went : ((j : ℕ) → j < n → ¬ NoRoom (iterate next j x)) → y ≡ iterate next n x → M.Verdict (config y) o → Advance M Mean config next NoRoom n x o y
  full : (j : ℕ) → j < n → ((i : ℕ) → i < j → ¬ NoRoom (iterate next i x)) → NoRoom (iterate next j x) → y ≡ iterate next j x
      → M.Full o → M.counted o ≡ M.steps (config y) → Advance M Mean config next NoRoom n x o y

-- An engine's meaning, of type `Mean`, determines all later answers: it is equal for two engines that differ only in stale bytes or in macro steps
pub record Laws (M : Automaton) (O : Ops M.Out) : Type 1 where
  pub Mean : Type 0
  pub mean : O.State → Mean
  -- the configuration that an engine of that meaning holds
  pub config : Mean → M.Config
  -- one step, of an engine that has room for it
  pub next : Mean → Mean
  -- the next step is full by the engine's rule
  pub NoRoom : Mean → Type 0
  -- `check` accepts the engine, and its buffers are as long as at the start of the list
  pub Fits : O.State → Type 0
  -- the property of the meaning that follows from fitting, without the limit on the steps
  pub Good : Mean → Type 0
  -- the two are the same engine, in different buffers
  pub Same : O.State → O.State → Type 0
  -- slot i holds that engine
  pub Holds : O.Store → ℕ → O.State → Type 0
  pub fits_check : (s : O.State) → Fits s → O.check s ≡ Ok tt
  pub fits_low : (s : O.State) → Fits s → O.now s ≤ steps_most
  pub fits_good : (s : O.State) → Fits s → Good (mean s)
  -- a step
  pub now_is : (s : O.State) → O.now s ≡ M.steps (config (mean s))
  pub next_good : (x : Mean) → Good x → ¬ NoRoom x → Good (next x)
  pub next_is : (x : Mean) → Good x → ¬ NoRoom x → config (next x) ≡ M.step (config x)
  pub next_stays : (x : Mean) → Good x → M.Halted (config x) → next x ≡ x
  pub no_room_runs : (x : Mean) → Good x → NoRoom x → ¬ M.Halted (config x)
  -- an advance
  pub advances : (n : ℕ) (s : O.State) → Fits s → O.now s + n ≤ steps_most
      → Advance M Mean config next NoRoom n (mean s) (O.advance n s).0 (mean (O.advance n s).1)
  pub advance_fits : (n : ℕ) (s : O.State) → Fits s → O.now s + n ≤ steps_most → Fits (O.advance n s).1
  -- the store
  pub save_slots : (i : ℕ) (s : O.State) (t : O.Store) → Fits s → i < O.slots t → O.slots (O.save i s t) ≡ O.slots t
  pub save_same : (i : ℕ) (s : O.State) (t : O.Store) → Fits s → i < O.slots t → Holds (O.save i s t) i s
  pub save_other : (i j : ℕ) (s : O.State) (t : O.Store) (u : O.State) → Fits s → i < O.slots t → ¬ (j ≡ i) → Holds t j u → Holds (O.save i s t) j u
  pub move_slots : (i k : ℕ) (t : O.Store) → i < O.slots t → k < O.slots t → O.slots (O.move i k t) ≡ O.slots t
  pub move_same : (i k : ℕ) (t : O.Store) (u : O.State) → i < O.slots t → k < O.slots t → Holds t i u → Holds (O.move i k t) k u
  pub move_other : (i k j : ℕ) (t : O.Store) (u : O.State) → i < O.slots t → k < O.slots t → ¬ (j ≡ k) → Holds t j u → Holds (O.move i k t) j u
  pub restores : (i : ℕ) (s : O.State) (t : O.Store) (u : O.State) → Fits s → i < O.slots t → Holds t i u
      → (s' : O.State) × (O.restore i (O.now u) s t ≡ Some s') × Same s' u × (mean s' ≡ mean u) × Fits s'
