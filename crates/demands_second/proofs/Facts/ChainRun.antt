-- The claims of SecondChain about a run of the run-length engine, from rle_refines. Assumes nothing.
use Rattle.rle_macro.specs.declared.inner.macro_step.Step.{Step}
use Rattle.std.specs.declared.ops.ControlFlow.{ControlFlow}
use Rattle.symbol.specs.declared.State.{State}
use Rattle.std.specs.Prelude.{◌≡◌, ◌↔◌, Bool, List, ℕ, zero, suc, ◌+◌, ◌≤◌, ◌<◌, ◌^◌, min, eqb, None, Ok, Option, Some}
use Rattle.std.proofs.Math.Path.{refl, sym, ap}
use Rattle.std.proofs.Common.{◌∙◌, subst, arith}
use Rattle.std.proofs.Math.Bool.{true, false}
use borrow.Author.Tests.{eqb-true, eqb-false}
use Rattle.notation.specs.Choice.{pick}
use Rattle.notation.proofs.Facts.Tests.{pick_cases, clash}
use Rattle.symbol.specs.declared.Dir.{Dir}
use Rattle.symbol.specs.declared.Dir.TheVariants.{L, R, N}
use Rattle.outcome.specs.declared.Outcome.{Outcome}
use Rattle.outcome.specs.declared.Outcome.TheVariants.{OutOfFuel, Full}
use Rattle.machine.specs.declared.Machine.{Machine}
use Rattle.machine.specs.declared.Action.{Action}
use Rattle.table_laws.specs.WellFormed.{Bytes}
use Rattle.table_machine.specs.TableMachine.{Table, Config, read_t, entry, Sideways, Verdict, halts, stays, walks, goes}
use Rattle.table_machine.specs.Tables.{table_of, TableOf}
use Rattle.table_machine.proofs.Facts.Table.{accepted_table}
use Rattle.table_machine.proofs.Facts.Run.{not_defined}
use Rattle.table_machine.proofs.Facts.Verdict.{verdict_unique}
use Rattle.sim.specs.Model.Engine.{Task, task, entry_of, matches}
use Rattle.rle_stack.specs.Model.{Side, ahead_of}
use Rattle.rle.specs.Model.Engine.{Conf, left_of, right_of, chain_for, loops_of, step_of, fueled_of, proved_of, turn_on, turn_of, times_of, macro_by, plan_by, plan_of, macro_of, End, end, run_of, Macro, Plan, Stop, Go}
use Rattle.rle.proofs.Facts.Run.{run_ends, run_goes}
use Rattle.rle.specs.Fits.{run_check}
use Rattle.rle.specs.Model.Operations.{given, run_on, run_answer}
use Rattle.rle_refines.specs.Meaning.{Stack, empty, over, stack_of, tape_of, config_of, Alike}
use Rattle.rle_refines.specs.Statement.{FullWithin, Went, Answers, verdict, halted, spent, stopped, full, Refines}
use Rattle.rle_refines.proofs.Facts.Canonical.{full_exact, not_full}
use Rattle.rle_refines.proofs.Facts.Plan as P
use Rattle.rle_refines.proofs.Facts.Stack.{ahead as ahead_in}
use Rattle.rle_refines.proofs.Facts.Sides.{ahead_is}
use Rattle.rle_refines.proofs.Facts.MacroStep.{read_held, entry_at_lem}
use Rattle.rle_refines.proofs.Facts.Patterns.{Sees, unsure, stay, walk, loop_sees}
use Rattle.rle_refines.proofs.Facts.Plan.{Plans, plan_right}
use Rattle.rle_refines.proofs.Facts.InsideMacroStep.{after_macro_macros}
use Rattle.rle_refines.proofs.Facts.Refinement.{macro_went, refines_later}
use Rattle.rle_refines.proofs.Facts.Space.{full_iff}
use Rattle.rle_refines.proofs.Facts.CutFuel.{one_run}
use Rattle.rle_refines.proofs.Facts.Operations.{Passed, run_says, run_holds}
use Rattle.demands_second.specs.Space.{GoesOn, ChainFull}
use Rattle.demands_second.specs.ChainClaims.{run_ahead, stack_ahead, Lasts, one, ahead, loop, MacroStep}

-- no verdict is Full
pub not_full_verdict : (t : ℕ) (d : Table) (c : Config) (o : Outcome) → Verdict t d c o → (n : ℕ) → ¬ (o ≡ Full n)
not_full_verdict t d c o (halts h) n e = let z : ◌≡◌ {A = ℕ} 0 1 = cc in omega arith
not_full_verdict t d c o (stays a h s) n e = let z : ◌≡◌ {A = ℕ} 0 1 = cc in omega arith
not_full_verdict t d c o (walks a x h w) n e = let z : ◌≡◌ {A = ℕ} 0 1 = cc in omega arith
not_full_verdict t d c o (goes a h s w) n e = let z : ◌≡◌ {A = ℕ} 0 1 = cc in omega arith

-- the run ahead, for a stack and for a side
run_ahead_lem : (a : ℕ) (r : Stack) → run_ahead a r ≡ ahead_in a r
run_ahead_lem a empty = refl
run_ahead_lem a (over s n r) = refl

side-ahead : (σ : Conf) (x : Side) → run_ahead (read_t (tape_of σ)) (stack_of x) ≡ ahead_of σ.sim.tape.cur x
side-ahead σ x =
    ap (λ a. run_ahead a (stack_of x)) (read_held σ) ∙ run_ahead_lem σ.sim.tape.cur (stack_of x)
    ∙ sym (ahead_is σ.sim.tape.cur x.symbols x.lengths x.count)

-- ---- a plan that goes on repeats the entry's step this many times

module _ (a : Action) (fuel : ℕ) (σ : Conf) (j : Macro) where
  abbrev times : (loops : Bool) → ℕ
  times b = times_of (step_of b a σ.sim.state) fuel σ

  -- a turn that goes on has n repeats
  abbrev SoOften : ℕ → ControlFlow Outcome Step → Type 0
  SoOften n t = plan_by t fuel σ ≡ Go j → j.repeats ≡ n

  not_stop : (o : Outcome) (n : ℕ) → Stop o ≡ Go j → j.repeats ≡ n
  not_stop o n e = let z : ◌≡◌ {A = ℕ} 0 1 = cc in absurd (omega arith)

  fuel_goes : (b : Bool) (rule : Option State) → SoOften (times b) (fueled_of b rule a fuel σ.sim)
  unfolding fueled_of
  fuel_goes b rule = pick_cases _ _ _ (SoOften (times b)) (λ _ e. not_stop _ _ e)
      (λ _. pick_cases _ _ _ (SoOften (times b)) (λ _ e. not_stop _ _ e)
      (λ _. pick_cases _ _ _ (λ x. x ≡ Go j → j.repeats ≡ times b) (λ _ e. not_stop _ _ e)
      (λ _ e. let q : macro_by (step_of b a σ.sim.state) (times b) ≡ j = cc in ap (λ (i : Macro). i.repeats) (sym q))))

  proved_goes : (proves b : Bool) (rule : Option State) → SoOften (times b) (proved_of proves b rule a fuel σ.sim)
  unfolding proved_of
  proved_goes proves b rule = pick_cases _ _ _ (SoOften (times b)) (λ _ e. not_stop _ _ e) (λ _. fuel_goes b rule)

module _ (m : Machine) (s : List ℕ) (bytes : Bytes s) (fuel : ℕ) (σ : Conf) (accepted : run_check m s fuel σ ≡ Ok tt) where
  passed : Passed m s σ × (σ.sim.steps + fuel ≤ 2 ^ 62)
  passed = run_says m s σ fuel accepted

  table : TableOf m (table_of m s)
  table = accepted_table m s bytes passed.0.table

  -- ---- a macro step

  module _ (proves : Bool) (rule : Option State) (j : Macro) (planned : plan_of (task m s proves rule) fuel σ ≡ Go j) where
    abbrev k : Task
    k = task m s proves rule

    by_plan : (i : Macro) → Plans k fuel σ (Go i) → Went k i.repeats σ (macro_of i σ) × (1 ≤ i.repeats) × (i.repeats ≤ fuel)
    by_plan i (P.macro_steps a zero e u g h r) = absurd (omega (arith, r.some))
    by_plan i (P.macro_steps a (suc n) e u g h r) = (macro_went k table passed.0.single σ passed.0.fits a e u g h fuel n r passed.1, r.some, r.within)

    went_so : Went k j.repeats σ (macro_of j σ) × (1 ≤ j.repeats) × (j.repeats ≤ fuel)
    went_so = by_plan j (subst (Plans k fuel σ) planned (plan_right k table passed.0.single fuel σ passed.0.fits))

    module _ (a : Action) (has : entry (table_of m s) (config_of σ) ≡ Some a) where
      abbrev loops : Bool
      loops = loops_of σ.sim.state a σ.sim.tape.cur σ.sim.tape.left σ.sim.tape.right

      so_often : j.repeats ≡ times a fuel σ j loops
      unfolding plan_of turn_of turn_on table_of entry_of
      so_often =
          let q : entry_of m s σ.sim.state σ.sim.tape.cur 0 0 ≡ Some a = sym (entry_at_lem (table_of m s) σ) ∙ has in
          proved_goes a fuel σ j proves loops rule (ap (λ x. plan_by (turn_on x proves rule fuel σ.sim) fuel σ) (sym q) ∙ planned)

      abbrev LastsHere : ℕ → Type 0
      LastsHere = Lasts m (table_of m s) fuel (config_of σ) a (stack_of (left_of σ)) (stack_of (right_of σ))

      lasts : {b : Bool} → Sees k σ a b → LastsHere (times a fuel σ j b)
      unfolding pick chain_for
      lasts (unsure h g) = pick_cases (eqb a.next.0 σ.sim.state.0) _ _ LastsHere
          (λ t. by (eqb-true _ _ t) a.dir0 refl)
          (λ t. one (goes a has h g) (λ r. eqb-false _ _ t r.0))
        where
          -- the run on the side of the move
          to : (x : Dir) (y : Side) → a.dir0 ≡ x → stack_ahead x (stack_of (left_of σ)) (stack_of (right_of σ)) ≡ stack_of y
              → run_ahead (read_t (tape_of σ)) (stack_ahead a.dir0 (stack_of (left_of σ)) (stack_of (right_of σ))) ≡ ahead_of σ.sim.tape.cur y
          to x y e q = ap (λ z. run_ahead (read_t (tape_of σ)) (stack_ahead z (stack_of (left_of σ)) (stack_of (right_of σ)))) e ∙ ap (run_ahead (read_t (tape_of σ))) q ∙ side-ahead σ y

          by : a.next.0 ≡ σ.sim.state.0 → (x : Dir) → a.dir0 ≡ x → LastsHere (chain_for x σ.sim.tape.cur fuel (left_of σ) (right_of σ))
          by q L e = subst (λ n. LastsHere (min (n + 1) fuel)) (to L (left_of σ) e refl) (ahead (goes a has h g) (q, subst Sideways (sym e) tt))
          by q R e = subst (λ n. LastsHere (min (n + 1) fuel)) (to R (right_of σ) e refl) (ahead (goes a has h g) (q, subst Sideways (sym e) tt))
          by q N e = one (goes a has h g) (λ r. subst Sideways e r.1)
      lasts (stay h) = loop _ (stays a has h)
      lasts (walk x w) = loop _ (walks a x has w)

      lasts_so : LastsHere j.repeats
      lasts_so = subst LastsHere (sym so_often) (lasts (loop_sees k passed.0.single σ passed.0.fits a (table _ _ _ _ a has)))

    pub macro_step : MacroStep k fuel σ j
    macro_step = record {
      went = went_so.0;
      some = went_so.1;
      within = went_so.2;
      lasts = lasts_so;
      counted = after_macro_macros j σ j.dir;
      runs_on = sym (run_goes k fuel σ j planned);
    }

  -- ---- the next step is full

  module _ (rule : Option State) (more : 0 < fuel) (unproved : GoesOn m (table_of m s) (config_of σ)) (unruled : matches rule σ.sim.state ≡ false) where
    full_ends : ChainFull m s σ → run_of (task m s true rule) fuel σ ≡ end σ (Full σ.sim.steps)
    full_ends g = by refl (plan_right (task m s true rule) table passed.0.single fuel σ passed.0.fits)
      where
        by : {p : Plan} → plan_of (task m s true rule) fuel σ ≡ p → Plans (task m s true rule) fuel σ p → run_of (task m s true rule) fuel σ ≡ end σ (Full σ.sim.steps)
        by q (P.no_entry h) = absurd (not_defined _ g.act h g.has)
        by q (P.loops p t v) = let e = verdict_unique _ _ _ _ _ v unproved in let z : ◌≡◌ {A = ℕ} 0 1 = cc in absurd (omega arith)
        by q (P.spent a e u z) = absurd (omega arith)
        by q (P.stops a e u l r) = absurd (clash r unruled)
        by q (P.lacks_place a e u l r h) = sym (run_ends (task m s true rule) fuel σ _ q)
        by q (P.macro_steps a n e u r h x) = absurd (not_full m (table_of m s) σ passed.0.fits a e h g)

    pub full_stays : ChainFull m s σ → run_answer m s rule fuel σ ≡ given σ (Ok (Full σ.sim.steps))
    unfolding run_answer
    full_stays g = ap (λ c. run_on c σ (run_of (task m s true rule) fuel σ)) accepted ∙ ap (λ (e : End). given e.at (Ok e.outcome)) (full_ends g)

  -- ---- without the never test and a stop rule

  pub space_exact : ((n : ℕ) × ((run_of (task m s false None) fuel σ).outcome ≡ Full n)) ↔ FullWithin (task m s false None) fuel σ
  unfolding matches
  space_exact = full_iff (task m s false None) refl (λ q. refl) fuel σ table passed.0.single passed.0.fits passed.1

-- ---- a run that ends full is at a full step

module _ (m : Machine) (s : List ℕ) (bytes : Bytes s) (rule : Option State) (fuel : ℕ) (σ τ : Conf) (n : ℕ) (done : run_answer m s rule fuel σ ≡ given τ (Ok (Full n))) where
  abbrev ran : Refines (task m s true rule) fuel σ (end τ (Full n))
  ran = (run_holds m s bytes rule fuel σ τ (Full n) done).refines

  full_by : {o : Outcome} → o ≡ Full n → Answers (task m s true rule) fuel ran.made τ o → ChainFull m s τ
  full_by q (verdict o t v g) = absurd (not_full_verdict _ _ _ o v n q)
  full_by q (halted t h) = absurd (clash refl t)
  full_by q (spent t h e) = absurd (clash refl t)
  full_by q (stopped a l h u r) = let z : ◌≡◌ {A = ℕ} 0 1 = cc in absurd (omega arith)
  full_by q (full a l h u r g) = (full_exact m (table_of m s) τ ran.went.kept.fits a h).0 g

  pub full_there : ChainFull m s τ
  full_there = full_by refl ran.answers

-- ---- fuel a and then b, or a + b at once

all_made : {k : Task} {fuel made n : ℕ} {e : Conf} → Answers k fuel made e (OutOfFuel n) → made ≡ fuel
all_made (verdict _ t v g) = g _ refl
all_made (spent t h q) = q

module _ (m : Machine) (s : List ℕ) (bytes : Bytes s) (rule : Option State) (a b : ℕ) (σ τ υ ω : Conf) (n : ℕ) (o p : Outcome)
    (first : run_answer m s rule a σ ≡ given τ (Ok (OutOfFuel n))) (second : run_answer m s rule b τ ≡ given υ (Ok o))
    (once : run_answer m s rule (a + b) σ ≡ given ω (Ok p)) where
  began : Refines (task m s true rule) a σ (end τ (OutOfFuel n))
  began = (run_holds m s bytes rule a σ τ (OutOfFuel n) first).refines

  went : Went (task m s true rule) a σ τ
  went = subst (λ j. Went (task m s true rule) j σ τ) (all_made began.answers) began.went

  pub cut_same : (o ≡ p) × Alike υ ω
  cut_same = one_run (task m s true rule) (a + b) σ (end υ o) (end ω p)
      (refines_later (task m s true rule) a b σ τ (end υ o) went (run_holds m s bytes rule b τ υ o second).refines)
      (run_holds m s bytes rule (a + b) σ ω p once).refines
