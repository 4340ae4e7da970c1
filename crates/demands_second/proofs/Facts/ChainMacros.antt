-- The macro steps of a run: an accepted run adds one for each, and their number is unique. Assumes nothing.
use Rattle.symbol.specs.declared.State.{State}
use Rattle.outcome.specs.declared.Refusal.{Refusal}
use Rattle.std.specs.Prelude.{◌≡◌, true, List, Err, None, Ok, Option, Result, Some, ⊤}
use Rattle.std.proofs.Math.Path.{refl, ap, subst}
use Rattle.std.proofs.Common.{sym}
use Prim.Native.Nat.{ℕ, zero, suc, ◌+◌, ◌-◌, ◌≤◌, ◌<◌}
use native.Mathlib.Omega.{arith}
use Rattle.outcome.specs.declared.Outcome.{Outcome}
use Rattle.outcome.specs.declared.NonHaltProof.{NonHaltProof}
use Rattle.outcome.specs.declared.Outcome.TheVariants.{NeverHalts}
use Rattle.machine.specs.declared.Machine.{Machine}
use Rattle.machine.specs.declared.Action.{Action}
use Rattle.table_laws.specs.WellFormed.{Bytes}
use Rattle.table_machine.specs.TableMachine.{Table, Config, entry, step, run, Halted, Verdict}
use Rattle.table_machine.specs.Tables.{table_of}
use Rattle.table_machine.proofs.Facts.Run.{not_defined, step_halted, step_steps, dec_halted}
use Rattle.table_machine.proofs.Facts.Verdict.{verdict_unique}
use Rattle.sim.specs.Model.Engine.{Task, task}
use Rattle.rle_stack.specs.Model.{places_of}
use Rattle.rle.specs.Model.Engine.{Conf, left_of, right_of, plan_of, macro_of, End, run_of, Macro, Plan, Stop, Go}
use Rattle.rle.proofs.Facts.Run.{run_ends, run_goes}
use Rattle.rle.specs.Fits.{places_fit, run_check}
use Rattle.rle.specs.Model.Operations.{Given, given, run_on, run_answer}
use Rattle.rle_refines.specs.Meaning.{Stack, stack_of, stream_of, distance, look, tape_of, config_of, ChainFits}
use Rattle.rle_refines.specs.Full.{Stacked}
use Rattle.rle_refines.specs.Statement.{Kept}
use Rattle.rle_refines.proofs.Facts.MacroStep.{read_held}
use Rattle.rle_refines.proofs.Facts.Canonical.{one_pair}
use Rattle.rle_refines.proofs.Facts.Operations.{run_says}
use Rattle.demands_second.specs.Space.{GoesOn}
use Rattle.demands_second.specs.ChainClaims.{Lasts, one, ahead, loop, MacroStep, Macros, none, more}
use Rattle.demands_second.proofs.Facts.ChainRun.{macro_step}
use Rattle.demands_second.proofs.Facts.ChainAccepts.{run-accepts}

-- ---- the two stacks of an engine that fits are those of its tape

pub own_stacks : (m : Machine) (σ : Conf) → ChainFits m σ → Stacked m.symbols (tape_of σ) (stack_of (left_of σ)) (stack_of (right_of σ))
own_stacks m σ f = record {
  lefts = f.lefts.runs;
  rights = f.rights.runs;
  cells = λ z. ap (λ c. look (stream_of (left_of σ)) c (stream_of (right_of σ)) (distance (tape_of σ).head z)) (sym (read_held σ));
}

-- ---- a run's macro steps

module _ (m : Machine) (s : List ℕ) (bytes : Bytes s) (rule : Option State) where
  abbrev k : Task
  k = task m s true rule

  -- n more macro steps are counted, and n were made
  abbrev Counted : ℕ → Conf → Conf → Type 0
  Counted fuel σ τ = (n : ℕ) × (τ.sim.macros ≡ σ.sim.macros + n) × Macros m (table_of m s) fuel (config_of σ) n (config_of τ)

  -- after a macro step, the rest of the run is accepted
  module _ (fuel : ℕ) (σ : Conf) (accepted : run_check m s fuel σ ≡ Ok tt) (j : Macro) (x : MacroStep k fuel σ j) where
    abbrev next : Conf
    next = macro_of j σ

    onward : run_check m s (fuel - j.repeats) next ≡ Ok tt
    unfolding places_fit
    onward =
        let p = run_says m s σ fuel accepted in
        let q : Kept m σ next = x.went.kept in
        let l : places_of next.ls next.ll ≡ places_of σ.ls σ.ll = omega (arith, q.same_ls, q.same_ll) in
        let r : places_of next.rs next.rl ≡ places_of σ.rs σ.rl = omega (arith, q.same_rs, q.same_rl) in
        run-accepts m s (fuel - j.repeats) next
        (record { table = p.0.table; single = p.0.single; places = rw (l, r) p.0.places; fits = q.fits })
        (omega (arith, p.1, x.went.counted, x.within))

    -- the number for the rest of the run, plus one
    one_more_lem : (τ : Conf) → Counted (fuel - j.repeats) next τ → Counted fuel σ τ
    unfolding run
    one_more_lem τ r = by (entry (table_of m s) (config_of σ)) refl
      where
        by : (e : Option Action) → entry (table_of m s) (config_of σ) ≡ e → Counted fuel σ τ
        by None h = absurd (x.went.running 0 x.some h)
        by (Some a) h = (
          suc r.0,
          omega (arith, r.1, x.counted),
          more {fuel = fuel} a (stack_of (left_of σ)) (stack_of (right_of σ)) j.repeats (omega (arith, x.some, x.within)) h
              (own_stacks m σ (run_says m s σ fuel accepted).0.fits) (x.lasts a h)
              (subst (λ c. Macros m (table_of m s) (fuel - j.repeats) c r.0 (config_of τ)) x.went.holds r.2),
        )

  -- any number above the fuel bounds the macro steps
  counted_run : (most fuel : ℕ) (σ : Conf) → fuel < most → run_check m s fuel σ ≡ Ok tt → Counted fuel σ (run_of k fuel σ).at
  counted_run zero fuel σ l accepted = absurd (omega arith)
  counted_run (suc most) fuel σ l accepted = by (plan_of k fuel σ) refl (λ f τ. counted_run most f τ)
    where
      by : (p : Plan) → plan_of k fuel σ ≡ p → ((f : ℕ) (τ : Conf) → f < most → run_check m s f τ ≡ Ok tt → Counted f τ (run_of k f τ).at) → Counted fuel σ (run_of k fuel σ).at
      by (Stop o) q on = subst (λ (e : End). Counted fuel σ e.at) (run_ends k fuel σ o q) (0, omega arith, none)
      by (Go j) q on =
          let x : MacroStep k fuel σ j = macro_step m s bytes fuel σ accepted true rule j q in
          subst (λ (e : End). Counted fuel σ e.at) (run_goes k fuel σ j q)
          (one_more_lem fuel σ accepted j x (run_of k (fuel - j.repeats) (macro_of j σ)).at (on (fuel - j.repeats) (macro_of j σ) (omega (arith, x.some, x.within)) (onward fuel σ accepted j x)))

  accepted-run : (c : Result ⊤ Refusal) (σ : Conf) (e : End) (τ : Conf) (o : Outcome) → run_on c σ e ≡ given τ (Ok o) → (c ≡ Ok tt) × (e.at ≡ τ)
  accepted-run (Err why) σ e τ o h =
      let q = ap (λ (g : Given). g.answer) h in
      let z : ◌≡◌ {A = ℕ} 0 1 = cc in absurd (omega arith)
  accepted-run (Ok tt) σ e τ o h = (refl, ap (λ (g : Given). g.at) h)

  pub run_macros : (fuel : ℕ) (σ τ : Conf) (o : Outcome) → run_answer m s rule fuel σ ≡ given τ (Ok o) → Counted fuel σ τ
  unfolding run_answer
  run_macros fuel σ τ o e =
      let p = accepted-run (run_check m s fuel σ) σ (run_of k fuel σ) τ o e in
      subst (Counted fuel σ) p.1 (counted_run (suc fuel) fuel σ (omega arith) p.0)

-- ---- their number is unique

module _ (m : Machine) (d : Table) where
  -- the number of steps of a macro step is unique
  not_never : (c : Config) (p : NonHaltProof) {A : Type 0} → GoesOn m d c → Verdict m.tapes d c (NeverHalts c.steps p) → A
  not_never c p g v =
      let e = verdict_unique m.tapes d c _ _ g v in
      let z : ◌≡◌ {A = ℕ} 0 1 = cc in absurd (omega arith)

  lasts_one : {fuel : ℕ} {c : Config} {a : Action} {l r : Stack} {i j : ℕ} → Lasts m d fuel c a l r i → Lasts m d fuel c a l r j → i ≡ j
  lasts_one (one g h) (one g' h') = refl
  lasts_one (one g h) (ahead g' h') = absurd (h h')
  lasts_one {c = c} (one g h) (loop p v) = not_never c p g v
  lasts_one (ahead g h) (one g' h') = absurd (h' h)
  lasts_one (ahead g h) (ahead g' h') = refl
  lasts_one {c = c} (ahead g h) (loop p v) = not_never c p g v
  lasts_one {c = c} (loop p v) (one g' h') = not_never c p g' v
  lasts_one {c = c} (loop p v) (ahead g' h') = not_never c p g' v
  lasts_one (loop p v) (loop p' v') = refl

  lasts_some : {fuel : ℕ} {c : Config} {a : Action} {l r : Stack} {i : ℕ} → 0 < fuel → Lasts m d fuel c a l r i → 1 ≤ i
  lasts_some f (one g h) = omega arith
  lasts_some f (ahead g h) = omega arith
  lasts_some f (loop p v) = f

  -- a run never lowers the step count, and raises it after a defined entry
  run_grows : (n : ℕ) (c : Config) → c.steps ≤ (run d n c).steps
  unfolding run
  run_grows zero c = omega arith
  run_grows (suc n) c = by (dec_halted d c) (run_grows n (step d c))
    where
      by : Dec (Halted d c) → (step d c).steps ≤ (run d n (step d c)).steps → c.steps ≤ (run d n (step d c)).steps
      by (yes h) g = omega (arith, g, ap (λ (x : Config). x.steps) (step_halted d c h))
      by (no h) g = omega (arith, g, step_steps d c h)

  run_more : (n : ℕ) (c : Config) (a : Action) → 1 ≤ n → entry d c ≡ Some a → c.steps < (run d n c).steps
  unfolding run
  run_more zero c a l h = absurd (omega arith)
  run_more (suc n) c a l h = omega (arith, run_grows n (step d c), step_steps d c (λ z. not_defined _ a z h))

  macros_grow : {fuel n : ℕ} {c e : Config} → Macros m d fuel c n e → c.steps ≤ e.steps
  macros_grow none = omega arith
  macros_grow {c = c} (more a l r j f h st x rest) = omega (arith, run_grows j c, macros_grow rest)

  module _ {fuel n : ℕ} {c e : Config} (a : Action) (l r : Stack) (j : ℕ) (f : 0 < fuel) (h : entry d c ≡ Some a) (st : Stacked m.symbols c.tape0 l r)
      (x : Lasts m d fuel c a l r j) (rest : Macros m d (fuel - j) (run d j c) n e) where
    more_grows : c.steps < e.steps
    more_grows = omega (arith, run_more j c a (lasts_some f x) h, macros_grow rest)

  pub macros_one : {fuel n n' : ℕ} {c e e' : Config} → Macros m d fuel c n e → Macros m d fuel c n' e' → e ≡ e' → n ≡ n'
  macros_one none none q = refl
  macros_one none (more a l r j f h st x rest) q = absurd (omega (arith, more_grows a l r j f h st x rest, ap (λ (y : Config). y.steps) q))
  macros_one (more a l r j f h st x rest) none q = absurd (omega (arith, more_grows a l r j f h st x rest, ap (λ (y : Config). y.steps) q))
  macros_one {fuel = fuel} {c = c} {e' = e'} (more a l r j f h st x rest) (more {n = n'} a' l' r' j' f' h' st' x' rest') q = ap suc (macros_one rest (subst To (sym same) rest') q)
    where
      To : ℕ → Type 0
      To i = Macros m d (fuel - i) (run d i c) n' e'

      act : a ≡ a'
      act = cc

      sides : (l ≡ l') × (r ≡ r')
      sides = one_pair m.symbols c.tape0 l r l' r' st st'

      same : j ≡ j'
      same = lasts_one (subst (λ y. y) (λ i. Lasts m d fuel c (act i) (sides.0 i) (sides.1 i) j) x) x'
