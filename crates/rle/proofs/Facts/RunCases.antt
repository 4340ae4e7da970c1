-- The branches of a run's loop: a fact for each return, and the invariant that a turn keeps. Assumes nothing.
use Rattle.std.specs.declared.ops.ControlFlow.{ControlFlow}
use Rattle.std.specs.declared.ops.ControlFlow.TheVariants.{Break, Continue}
use Rattle.std.specs.Prelude.{◌≡◌, refl, true, false, List, ℕ, ◌-◌, min}
use Rattle.std.proofs.Common.{sym, ◌∙◌, subst, arith}
use Rattle.std.proofs.Math.Path.{ap}
use Rattle.notation.proofs.Facts.Tests.{by_test, pick_true, pick_false}
use Rattle.symbol.specs.declared.Dir.{Dir}
use Rattle.symbol.specs.declared.Dir.TheVariants.{L, R, N}
use Rattle.outcome.specs.declared.Outcome.{Outcome}
use Rattle.outcome.specs.declared.Outcome.TheVariants.{Full}
use Rattle.run_rules.specs.Model.Task.{Task}
use Rattle.rle_stack.specs.declared.inner.Stack.{Stack}
use Rattle.rle_stack.specs.Model.{side, places_of}
use Rattle.rle_stack.specs.Written.{held, SameSlices}
use Rattle.rle_macro.specs.declared.inner.macro_step.Step.{Step}
use Rattle.rle_macro.specs.Model.MacroStep.{head_for, Made, moved, make_of, MakeOk}
use Rattle.rle_macro.proofs.Facts.MacroStep.{moved_by, moved-times, make_full, make_goes}
use Rattle.rle.specs.declared.ChainSim.{ChainSim}
use Rattle.rle.specs.Model.Engine.{Conf, conf, left_of, right_of, Go, turn_of, no_place, times_of, macro_by, plan_by, plan_of, macro_to, macro_of, end, run_of}
use Rattle.rle.specs.Invariants.{CountsOk, RunOk, SameSizes, Going, landed_by}
use Rattle.rle.proofs.Facts.Run.{IfTakes, turn_fuel, Fine, decided, run_ends, run_goes}
use Rattle.rle.proofs.Facts.MacroStep.{macro_sizes, macro_ok}

-- ---- the value and the sides after a macro step that was made

abbrev made_at : Dir → Step → Conf → Made → Conf
made_at d s σ w = conf (landed_by d s.next σ.sim w.left.count w.cur w.right.count w.repeats) w.left.symbols w.left.lengths w.right.symbols w.right.lengths

made_macro_steps : (d : Dir) (s : Step) (σ : Conf) (n : ℕ) → made_at d s σ (moved_by d s.write n (left_of σ) (right_of σ)) ≡ macro_to d (macro_by s n) σ
unfolding macro_to head_for
made_macro_steps L s σ n = refl
made_macro_steps R s σ n = refl
made_macro_steps N s σ n = refl

-- ---- the loop's branches

pub going_start : (k : Task) (stride lp rp : ℕ) (σ : Conf) (fuel : ℕ) → RunOk k.machine stride σ fuel → lp ≡ places_of σ.ls σ.ll → rp ≡ places_of σ.rs σ.rl
    → Going k stride lp rp σ fuel σ fuel
going_start k stride lp rp σ fuel h l r = record { ok = h; lefts = l; rights = r; sizes = record { ls = refl; ll = refl; rs = refl; rl = refl }; same = refl }

module _ (k : Task) (stride lp rp : ℕ) (σ₀ : Conf) (fuel : ℕ) (σ : Conf) (left : ℕ) (g : Going k stride lp rp σ₀ fuel σ left) (t : ControlFlow Outcome Step) (tp : t ≡ turn_of k left σ.sim) where
  plan_by_holds : plan_of k left σ ≡ plan_by t left σ
  unfolding plan_of
  plan_by_holds = ap (λ (x : ControlFlow Outcome Step). plan_by x left σ) (sym tp)

  pub going_ends : (o : Outcome) → t ≡ Break o → end σ o ≡ run_of k fuel σ₀
  going_ends o e = run_ends k left σ o (plan_by_holds ∙ ap (λ (x : ControlFlow Outcome Step). plan_by x left σ) e) ∙ g.same

  module _ (s : Step) (e : t ≡ Continue s) where
    pub going_make : MakeOk lp rp left (left_of σ) (right_of σ)
    going_make = record {
      lefts = g.lefts;
      rights = g.rights;
      left_live = omega (arith, g.ok.sides.left.live, g.lefts);
      right_live = omega (arith, g.ok.sides.right.live, g.rights);
      left_cells = omega (arith, g.ok.sides.left.cells_in, g.ok.counts.steps_in);
      right_cells = omega (arith, g.ok.sides.right.cells_in, g.ok.counts.steps_in);
      some_fuel = subst (IfTakes left) (sym tp ∙ e) (turn_fuel k left σ.sim);
    }

    plan_space : plan_of k left σ ≡ plan_by (Continue s) left σ
    plan_space = plan_by_holds ∙ ap (λ (x : ControlFlow Outcome Step). plan_by x left σ) e

    module _ (w : Made) (wp : w ≡ make_of s σ.sim.tape.cur lp rp left (left_of σ) (right_of σ)) where
      here : w ≡ make_of s σ.sim.tape.cur (places_of σ.ls σ.ll) (places_of σ.rs σ.rl) left (left_of σ) (right_of σ)
      here = wp ∙ (λ i. make_of s σ.sim.tape.cur (g.lefts i) (g.rights i) left (left_of σ) (right_of σ))

      module _ (f : no_place s.dir s.write σ ≡ true) where
        full_made : w ≡ moved (left_of σ) σ.sim.tape.cur (right_of σ) 0
        full_made = here ∙ make_full s σ.sim.tape.cur (places_of σ.ls σ.ll) (places_of σ.rs σ.rl) left (left_of σ) (right_of σ) s.dir f

        full_ends : end (conf σ.sim w.left.symbols w.left.lengths w.right.symbols w.right.lengths) (Full σ.sim.steps) ≡ run_of k fuel σ₀
        full_ends =
            ap (λ (w : Made). end (conf σ.sim w.left.symbols w.left.lengths w.right.symbols w.right.lengths) (Full σ.sim.steps)) full_made
            ∙ run_ends k left σ (Full σ.sim.steps) (plan_space ∙ pick_true (no_place s.dir s.write σ) _ _ f)
            ∙ g.same

      module _ (f : no_place s.dir s.write σ ≡ false) where
        goes_made : w ≡ moved_by s.dir s.write (times_of s left σ) (left_of σ) (right_of σ)
        goes_made = here ∙ make_goes s σ.sim.tape.cur (places_of σ.ls σ.ll) (places_of σ.rs σ.rl) left (left_of σ) (right_of σ) s.dir f

        times : w.repeats ≡ times_of s left σ
        times = ap (λ (w : Made). w.repeats) goes_made ∙ moved-times s.dir s.write (times_of s left σ) (left_of σ) (right_of σ)

        planned : plan_of k left σ ≡ Go (macro_by s w.repeats)
        planned = plan_space ∙ pick_false (no_place s.dir s.write σ) _ _ f ∙ ap (λ (n : ℕ). Go (macro_by s n)) (sym times)

        fine : Fine left σ (macro_by s w.repeats)
        fine = decided k left σ (macro_by s w.repeats) planned

        goes_on : (v : ChainSim) → v ≡ landed_by s.dir s.next σ.sim w.left.count w.cur w.right.count w.repeats
            → conf v w.left.symbols w.left.lengths w.right.symbols w.right.lengths ≡ macro_of (macro_by s w.repeats) σ
        goes_on v p =
            ap (λ (v : ChainSim). conf v w.left.symbols w.left.lengths w.right.symbols w.right.lengths) p
            ∙ ap (made_at s.dir s σ) goes_made
            ∙ made_macro_steps s.dir s σ (times_of s left σ)
            ∙ ap (λ (n : ℕ). macro_to s.dir (macro_by s n) σ) (sym times)

      pub going_full : w.repeats ≡ 0 → end (conf σ.sim w.left.symbols w.left.lengths w.right.symbols w.right.lengths) (Full σ.sim.steps) ≡ run_of k fuel σ₀
      going_full z = by_test (no_place s.dir s.write σ) full_ends (λ f. absurd (omega (arith, (fine f).some_steps)))

      module _ (nz : w.repeats ≡ 0 → ⊥) where
        roomy : no_place s.dir s.write σ ≡ false
        roomy = by_test (no_place s.dir s.write σ) (λ f. absurd (nz (ap (λ (w : Made). w.repeats) (full_made f)))) (λ f. f)

        pub going_fine : Fine left σ (macro_by s w.repeats)
        going_fine = fine roomy

        pub going_counts : CountsOk σ.sim w.repeats
        going_counts =
            record { steps_in = omega (arith, g.ok.counts.steps_in, going_fine.no_more); fewer = g.ok.counts.fewer; above = g.ok.counts.above; below = g.ok.counts.below }

        pub going_on : (v : ChainSim) → v ≡ landed_by s.dir s.next σ.sim w.left.count w.cur w.right.count w.repeats
            → Going k stride lp rp σ₀ fuel (conf v w.left.symbols w.left.lengths w.right.symbols w.right.lengths) (left - w.repeats)
        going_on v p =
            let z : SameSizes σ (macro_of (macro_by s w.repeats) σ) = macro_sizes (macro_by s w.repeats) σ s.dir in
            subst (λ (τ : Conf). Going k stride lp rp σ₀ fuel τ (left - w.repeats)) (sym (goes_on roomy v p))
            (record {
              ok = macro_ok (macro_by s w.repeats) σ k.machine stride left g.ok going_fine;
              lefts = g.lefts ∙ (λ i. min (sym z.ls i) (sym z.ll i));
              rights = g.rights ∙ (λ i. min (sym z.rs i) (sym z.rl i));
              sizes = record { ls = z.ls ∙ g.sizes.ls; ll = z.ll ∙ g.sizes.ll; rs = z.rs ∙ g.sizes.rs; rl = z.rl ∙ g.sizes.rl };
              same = run_goes k left σ (macro_by s w.repeats) (planned roomy) ∙ g.same;
            })

-- ---- the sides that a run writes

-- they have the live runs of the run's value, in the slices that it began with
pub record Tied (v : ChainSim) (l₀ r₀ l r : Stack) : Type 0 where
  pub lefts : v.tape.left ≡ l.count
  pub rights : v.tape.right ≡ r.count
  pub left_same : SameSlices l₀ l
  pub right_same : SameSlices r₀ r

abbrev pub written_on : ChainSim → (l r : Stack) → Conf
written_on v l r = conf v l.symbols.now l.lengths.now r.symbols.now r.lengths.now

pub written_fresh : (v : ChainSim) (l r : Stack) (ls ll rs rl : List ℕ) (a b : ℕ) → held l ≡ side ls ll a → held r ≡ side rs rl b → written_on v l r ≡ conf v ls ll rs rl
written_fresh v l r ls ll rs rl a b e f i = conf v (e i).symbols (e i).lengths (f i).symbols (f i).lengths

module _ (v : ChainSim) (l₀ r₀ l r : Stack) (t : Tied v l₀ r₀ l r) where
  pub tied_make : (left : ℕ) → MakeOk l₀.places r₀.places left (left_of (written_on v l r)) (right_of (written_on v l r)) → MakeOk l.places r.places left (held l) (held r)
  tied_make left ok = rw (t.left_same.2, t.right_same.2, ← t.lefts, ← t.rights) ok

  pub tied_made : (s : Step) (left : ℕ) (w : Made) → w ≡ make_of s v.tape.cur l.places r.places left (held l) (held r)
      → w ≡ make_of s v.tape.cur l₀.places r₀.places left (left_of (written_on v l r)) (right_of (written_on v l r))
  tied_made s left w e =
      e ∙ (λ i. make_of s v.tape.cur (t.left_same.2 i) (t.right_same.2 i) left (side l.symbols.now l.lengths.now (sym t.lefts i)) (side r.symbols.now r.lengths.now (sym t.rights i)))

  pub tied_on : (v' : ChainSim) (l' r' : Stack) → v'.tape.left ≡ l'.count → v'.tape.right ≡ r'.count → SameSlices l l' → SameSlices r r' → Tied v' l₀ r₀ l' r'
  tied_on v' l' r' a b p q = record {
    lefts = a;
    rights = b;
    left_same = (p.0 ∙ t.left_same.0, p.1 ∙ t.left_same.1, p.2 ∙ t.left_same.2);
    right_same = (q.0 ∙ t.right_same.0, q.1 ∙ t.right_same.1, q.2 ∙ t.right_same.2);
  }
