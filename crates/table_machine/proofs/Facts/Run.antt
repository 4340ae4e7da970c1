-- The run: a + b steps, a halted configuration stays, step counts, the first halting step. Assumes nothing.
use Rattle.std.specs.Prelude.{◌≡◌, refl, ℕ, zero, suc, ◌+◌, ◌-◌, ◌≤◌, ◌<◌, None, Option, Some}
use Rattle.std.proofs.Common.{ap, ◌∙◌, zero-add, suc-add, arith}
use Rattle.std.proofs.Math.Decide.{ℕ_discrete}
use Rattle.machine.specs.declared.Action.{Action}
use Rattle.table_machine.specs.TableMachine.{Table, Config, entry, act, act_on, step, run, Halted}

pub run_add : (d : Table) (a b : ℕ) (c : Config) → run d (a + b) c ≡ run d b (run d a c)
unfolding run
run_add d zero b c = rw zero-add
run_add d (suc a) b c = rw suc-add (run_add d a b (step d c))

-- a run of n + 1 steps is a run of n steps and then one step
pub run_suc : (d : Table) (n : ℕ) (c : Config) → run d (suc n) c ≡ step d (run d n c)
unfolding run
run_suc d zero c = refl
run_suc d (suc n) c = run_suc d n (step d c)

-- ---- a halted configuration stays

pub step_halted : (d : Table) (c : Config) → Halted d c → step d c ≡ c
unfolding step
step_halted d c h = ap (act_on c) h

pub run_halted : (d : Table) (n : ℕ) (c : Config) → Halted d c → run d n c ≡ c
unfolding run
run_halted d zero c h = refl
run_halted d (suc n) c h = ap (run d n) (step_halted d c h) ∙ run_halted d n c h

-- after the machine has halted, the configuration no longer changes
pub run_past : (d : Table) (k n : ℕ) (c : Config) → k ≤ n → Halted d (run d k c) → run d n c ≡ run d k c
run_past d k n c h z =
    let e : n ≡ k + (n - k) = omega arith in
    ap (λ (x : ℕ). run d x c) e ∙ run_add d k (n - k) c ∙ run_halted d (n - k) (run d k c) z

-- ---- step counts

pub not_defined : (x : Option Action) (a : Action) → x ≡ None → x ≡ Some a → ⊥
not_defined x a h k = let z : ◌≡◌ {A = ℕ} 0 1 = cc in omega arith

pub step-act : (d : Table) (c : Config) (a : Action) → entry d c ≡ Some a → step d c ≡ act c a
unfolding step
step-act d c a h = ap (act_on c) h

pub step_steps : (d : Table) (c : Config) → ¬ (Halted d c) → (step d c).steps ≡ suc c.steps
unfolding step
step_steps d c f = by (entry d c) refl
  where
    by : (x : Option Action) → entry d c ≡ x → (act_on c x).steps ≡ suc c.steps
    by None e = absurd (f e)
    by (Some a) e = refl

pub run_steps : (d : Table) (n : ℕ) (c : Config) → ((k : ℕ) → k < n → ¬ (Halted d (run d k c))) → (run d n c).steps ≡ n + c.steps
unfolding run
run_steps d zero c f = omega arith
run_steps d (suc n) c f =
    let e : (step d c).steps ≡ suc c.steps = step_steps d c (f zero (omega arith)) in
    let r : (run d n (step d c)).steps ≡ n + (step d c).steps = run_steps d n (step d c) (λ k h. f (suc k) (omega arith)) in
    omega arith

-- ---- the first halting step

pub dec_halted : (d : Table) (c : Config) → Dec (Halted d c)
dec_halted d c = by (entry d c) refl
  where
    by : (x : Option Action) → entry d c ≡ x → Dec (Halted d c)
    by None e = yes e
    by (Some a) e = no (λ h. not_defined (entry d c) a h e)

-- the first halt among the first n configurations, or none
pub data First (d : Table) (c : Config) (n : ℕ) : Type 0 where
  at : (k : ℕ) → k < n → Halted d (run d k c) → ((j : ℕ) → j < k → ¬ (Halted d (run d j c))) → First d c n
  nowhere : ((j : ℕ) → j < n → ¬ (Halted d (run d j c))) → First d c n

pub first_halt : (d : Table) (c : Config) (n : ℕ) → First d c n
first_halt d c zero = nowhere (λ j h. absurd (omega arith))
first_halt d c (suc n) = more (first_halt d c n)
  where
    more : First d c n → First d c (suc n)
    more (at k h z f) = at k (omega arith) z f
    more (nowhere f) = last (dec_halted d (run d n c))
      where
        split : (j : ℕ) → j < suc n → ¬ (Halted d (run d n c)) → Dec (j ≡ n) → ¬ (Halted d (run d j c))
        split j h f' (yes e) = rw e f'
        split j h f' (no g) = f j (omega arith)

        last : Dec (Halted d (run d n c)) → First d c (suc n)
        last (yes z) = at n (omega arith) z f
        last (no f') = nowhere (λ j h. split j h f' (ℕ_discrete j n))

-- with h the first halting step and h at most n, a run of n steps adds h to the step count
pub run_count : (d : Table) (h n : ℕ) (c : Config) → h ≤ n → Halted d (run d h c) → ((j : ℕ) → j < h → ¬ (Halted d (run d j c))) → (run d n c).steps ≡ h + c.steps
run_count d h n c l z f = ap (λ (x : Config). x.steps) (run_past d h n c l z) ∙ run_steps d h c f
