-- The table machine in the form that the timeline's proofs use, and its run from a configuration. Definitions only.
use Rattle.std.specs.Prelude.{◌≡◌, ℕ, zero, suc, ◌-◌}
use Rattle.outcome.specs.declared.Outcome.{Outcome}
use Rattle.outcome.specs.Numbers.{outcome_number}

-- f applied n times
unfoldable pub iterate : {A : Type 0} → (A → A) → ℕ → A → A
iterate f zero a = a
iterate f (suc n) a = f (iterate f n a)

-- `step` leaves a halted configuration as it is, so `iterate step n c` is the configuration after n steps or at the halt
pub record Automaton : Type 1 where
  pub Config : Type 0
  pub Out : Type 0
  pub steps : Config → ℕ
  pub step : Config → Config
  pub Halted : Config → Type 0
  pub Verdict : Config → Out → Type 0
  -- the answers that are full, and those that are never
  pub Full : Out → Type 0
  pub Never : Out → Type 0
  -- the step count that an answer gives
  pub counted : Out → ℕ
  -- the configurations of a run: the tapes that the machine lacks are blank
  pub Real : Config → Type 0
  -- laws
  pub real_step : (c : Config) → Real c → Real (step c)
  pub halted? : (c : Config) → Dec (Halted c)
  pub stays : (c : Config) → Halted c → step c ≡ c
  pub adds : (c : Config) → ¬ Halted c → steps (step c) ≡ suc (steps c)
  pub verdict_not_full : (c : Config) (o : Out) → Verdict c o → ¬ Full o
  pub never_halts : (c : Config) (o : Out) → Real c → Verdict c o → Never o → (n : ℕ) → ¬ Halted (iterate step n c)

-- the configuration at step n of the run from c, without limits; c itself where n is at most its step count
unfoldable pub run : (M : Automaton) → M.Config → ℕ → M.Config
run M c n = iterate M.step (n - M.steps c) c

-- t, or the step at which the machine halts where that is less: the step count of the configuration at step t (`reach_runs` and `reach_halts` in Facts/Steps)
abbrev pub reach : (M : Automaton) → M.Config → ℕ → ℕ
reach M c t = M.steps (run M c t)

-- the outcomes of runs that are full, and those that are never
abbrev pub IsFull : Outcome → Type 0
IsFull o = outcome_number o ≡ 4

abbrev pub IsNever : Outcome → Type 0
IsNever o = outcome_number o ≡ 2
