-- A run is a macro step and then a run: properties of a planned macro step, and that every bound on macro steps above the fuel gives the same end. Assumes nothing.
use Rattle.std.specs.declared.ops.ControlFlow.{ControlFlow}
use Rattle.std.specs.declared.ops.ControlFlow.TheVariants.{Break, Continue}
use Rattle.symbol.specs.declared.State.{State}
use Rattle.std.specs.Prelude.{◌≡◌, refl, Bool, false, ℕ, zero, suc, ◌-◌, ◌≤◌, ◌<◌, eqb, None, Option, Some}
use Rattle.std.proofs.Common.{sym, ◌∙◌, ap, subst, arith}
use Rattle.std.proofs.lemmas.Bool.{eqb-false}
use Rattle.notation.specs.Choice.{both}
use Rattle.notation.proofs.Facts.Tests.{pick_cases}
use Rattle.symbol.specs.declared.Dir.{Dir}
use Rattle.symbol.specs.declared.Dir.TheVariants.{L, R, N}
use Rattle.outcome.specs.declared.Outcome.{Outcome}
use Rattle.machine.specs.declared.Action.{Action}
use Rattle.run_checks.specs.Model.Look.{entry_of}
use Rattle.run_rules.specs.Model.Task.{Task, matches}
use Rattle.rle_stack.specs.Model.{Side}
use Rattle.rle_macro.specs.declared.inner.macro_step.Step.{Step}
use Rattle.rle.specs.declared.ChainSim.{ChainSim}
use Rattle.rle.specs.Model.Engine.{Conf, left_of, right_of, Macro, Plan, Stop, Go, loops_of, fueled_of, proved_of, turn_on, turn_of, no_place, chain_for, times_of, plan_by, plan_of, macro_of, end, on_plan, run_within, run_of}

-- ---- an entry is followed only with fuel

abbrev pub IfTakes : ℕ → ControlFlow Outcome Step → Type 0
IfTakes fuel (Break o) = Unit {0}
IfTakes fuel (Continue s) = 1 ≤ fuel

fueled_fuel : (loops : Bool) (rule : Option State) (a : Action) (fuel : ℕ) (v : ChainSim) → IfTakes fuel (fueled_of loops rule a fuel v)
unfolding fueled_of
fueled_fuel loops rule a fuel v =
    pick_cases (eqb fuel 0) _ _ (IfTakes fuel) (λ e. tt)
    (λ e. pick_cases (matches rule v.state) _ _ (IfTakes fuel) (λ m. tt) (λ m. omega (arith, eqb-false fuel 0 e)))

takes_fuel : (e : Option Action) (proves : Bool) (rule : Option State) (fuel : ℕ) (v : ChainSim) → IfTakes fuel (turn_on e proves rule fuel v)
unfolding turn_on proved_of
takes_fuel None proves rule fuel v = tt
takes_fuel (Some a) proves rule fuel v = pick_cases (both (loops_of v.state a v.tape.cur v.tape.left v.tape.right) proves) _ _ (IfTakes fuel) (λ e. tt)
    (λ e. fueled_fuel (loops_of v.state a v.tape.cur v.tape.left v.tape.right) rule a fuel v)

pub turn_fuel : (k : Task) (fuel : ℕ) (v : ChainSim) → IfTakes fuel (turn_of k fuel v)
unfolding turn_of
turn_fuel k fuel v = takes_fuel (entry_of k.machine k.table v.state v.tape.cur 0 0) k.proves k.rule fuel v

-- ---- a macro step that is planned

-- it makes at least one step and at most `fuel` steps, and its push has a place
pub record Fine (fuel : ℕ) (σ : Conf) (j : Macro) : Type 0 where
  pub some_steps : 1 ≤ j.repeats
  pub no_more : j.repeats ≤ fuel
  pub place : no_place j.dir j.write σ ≡ false

abbrev IfGoes : ℕ → Conf → Plan → Type 0
IfGoes fuel σ (Stop o) = Unit {0}
IfGoes fuel σ (Go j) = Fine fuel σ j

abbrev SomeSteps : ℕ → ℕ → Type 0
SomeSteps fuel n = (1 ≤ n) × (n ≤ fuel)

chain_some : (d : Dir) (cur fuel : ℕ) (l r : Side) → 1 ≤ fuel → SomeSteps fuel (chain_for d cur fuel l r)
unfolding chain_for
chain_some L cur fuel l r h = (omega arith, omega arith)
chain_some R cur fuel l r h = (omega arith, omega arith)
chain_some N cur fuel l r h = (omega arith, h)

times_some : (s : Step) (fuel : ℕ) (σ : Conf) → 1 ≤ fuel → SomeSteps fuel (times_of s fuel σ)
times_some s fuel σ h =
    pick_cases s.loops _ _ (SomeSteps fuel) (λ e. (h, omega arith))
    (λ e. pick_cases s.keeps _ _ (SomeSteps fuel) (λ g. chain_some s.dir σ.sim.tape.cur fuel (left_of σ) (right_of σ) h) (λ g. (omega arith, h)))

by_fine : (t : ControlFlow Outcome Step) (fuel : ℕ) (σ : Conf) → IfTakes fuel t → IfGoes fuel σ (plan_by t fuel σ)
by_fine (Break o) fuel σ h = tt
by_fine (Continue s) fuel σ h =
    pick_cases (no_place s.dir s.write σ) _ _ (IfGoes fuel σ) (λ e. tt)
    (λ e.
    let n : SomeSteps fuel (times_of s fuel σ) = times_some s fuel σ h in
    record { some_steps = n.0; no_more = n.1; place = e })

plan_fine : (k : Task) (fuel : ℕ) (σ : Conf) → IfGoes fuel σ (plan_of k fuel σ)
unfolding plan_of
plan_fine k fuel σ = by_fine (turn_of k fuel σ.sim) fuel σ (turn_fuel k fuel σ.sim)

pub decided : (k : Task) (fuel : ℕ) (σ : Conf) (j : Macro) → plan_of k fuel σ ≡ Go j → Fine fuel σ j
decided k fuel σ j e = subst (IfGoes fuel σ) e (plan_fine k fuel σ)

-- ---- a run is a macro step and then a run

-- every bound on macro steps above the fuel gives the same end
follow : (k : Task) (n n' fuel : ℕ) (σ : Conf) (p : Plan) → IfGoes fuel σ p → fuel < suc n → fuel < suc n'
    → ((f : ℕ) (τ : Conf) → f < n → f < n' → run_within k n f τ ≡ run_within k n' f τ)
    → on_plan p (end σ) (λ j. run_within k n (fuel - j.repeats) (macro_of j σ)) ≡ on_plan p (end σ) (λ j. run_within k n' (fuel - j.repeats) (macro_of j σ))
follow k n n' fuel σ (Stop o) f h h' ih = refl
follow k n n' fuel σ (Go j) f h h' ih = ih (fuel - j.repeats) (macro_of j σ) (omega (arith, f.some_steps, f.no_more)) (omega (arith, f.some_steps, f.no_more))

within_any : (k : Task) (n n' fuel : ℕ) (σ : Conf) → fuel < n → fuel < n' → run_within k n fuel σ ≡ run_within k n' fuel σ
unfolding run_within
within_any k zero n' fuel σ h h' = absurd (omega arith)
within_any k (suc n) zero fuel σ h h' = absurd (omega arith)
within_any k (suc n) (suc n') fuel σ h h' =
    follow k n n' fuel σ (plan_of k fuel σ) (plan_fine k fuel σ) h h' (λ f τ a b. within_any k n n' f τ a b)

pub run_ends : (k : Task) (fuel : ℕ) (σ : Conf) (o : Outcome) → plan_of k fuel σ ≡ Stop o → end σ o ≡ run_of k fuel σ
unfolding run_of run_within
run_ends k fuel σ o e = sym (ap (λ (p : Plan). on_plan p (end σ) (λ j. run_within k fuel (fuel - j.repeats) (macro_of j σ))) e)

one-macro : (k : Task) (fuel : ℕ) (σ : Conf) (j : Macro) → plan_of k fuel σ ≡ Go j → run_of k fuel σ ≡ run_within k fuel (fuel - j.repeats) (macro_of j σ)
unfolding run_of run_within
one-macro k fuel σ j e = ap (λ (p : Plan). on_plan p (end σ) (λ j. run_within k fuel (fuel - j.repeats) (macro_of j σ))) e

pub run_goes : (k : Task) (fuel : ℕ) (σ : Conf) (j : Macro) → plan_of k fuel σ ≡ Go j → run_of k (fuel - j.repeats) (macro_of j σ) ≡ run_of k fuel σ
unfolding run_of
run_goes k fuel σ j e =
    let f : Fine fuel σ j = decided k fuel σ j e in
    within_any k (suc (fuel - j.repeats)) fuel (fuel - j.repeats) (macro_of j σ) (omega arith) (omega (arith, f.some_steps, f.no_more)) ∙ sym (one-macro k fuel σ j e)
