-- What the choice before a step says about the run, and the cases of the loop. Assumes nothing.
use Rattle.std.specs.declared.ops.ControlFlow.{ControlFlow}
use Rattle.std.specs.declared.ops.ControlFlow.TheVariants.{Break, Continue}
use Rattle.std.specs.Prelude.{◌≡◌, refl, Bool, true, false, List, ℕ, ◌+◌, ◌-◌, ◌≤◌, eqb, length}
use Rattle.std.proofs.Common.{sym, ap, ◌∙◌, arith, eqb-true}
use Rattle.std.proofs.Math.Path.{subst⁻¹}
use Rattle.std.proofs.lemmas.Bool.{eqb-false}
use Rattle.notation.proofs.Facts.Tests.{by_test}
use Rattle.notation.specs.Limits.{steps_most}
use Rattle.outcome.specs.declared.Outcome.{Outcome}
use Rattle.outcome.specs.declared.Outcome.TheVariants.{Stopped}
use Rattle.machine.specs.declared.Machine.{Machine}
use Rattle.machine.specs.declared.Action.{Action}
use Rattle.tape.proofs.Facts.Moves.{act_safe}
use Rattle.sim.specs.declared.Simulator.{Simulator}
use Rattle.run_checks.specs.declared.inner.look.Look.{Look}
use Rattle.run_checks.specs.Model.Look.{go_of}
use Rattle.run_checks.proofs.Facts.LookCases.{go_fuel, go_on, go_full, choice_halt, choice_never, choice_go}
use Rattle.sim.specs.Model.Engine.{Task, Conf, conf, tape0, tape1, tape2, look_with, look_of, roomy_of, step_of, matches, End, end, run_of}
use Rattle.sim.specs.Model.Turns.{choice_of, LookOk, StepOk, RunOk}
use Rattle.sim.proofs.Facts.EngineCases.{run_halt, run_never, run_fuel, run_full, run_last, run_next}

-- ---- what the choice says about the run: it ends here, or it follows the entry

pub data Chosen (k : Task) (f : ℕ) (σ : Conf) (c : ControlFlow Outcome Action) : Type 0 where
  ends : (o : Outcome) → c ≡ Break o → run_of k f σ ≡ end σ o → Chosen k f σ c
  goes : (a : Action) → c ≡ Continue a → (f ≡ 0 → ⊥) → look_of k σ ≡ Look.Go a → roomy_of σ a ≡ true → Chosen k f σ c

abbrev Here : (k : Task) (f : ℕ) (σ : Conf) → Type 0
Here k f σ = Chosen k f σ (choice_of k.machine k.table k.proves f σ)

pub chosen : (k : Task) (f : ℕ) (σ : Conf) → Here k f σ
unfolding look_with
chosen k f σ = look (look_of k σ) refl
  where
    made : (a : Action) (x : ControlFlow Outcome Action) (r : Bool) → look_of k σ ≡ Look.Go a → r ≡ roomy_of σ a → x ≡ go_of a f σ.sim.steps r → choice_of k.machine k.table k.proves f σ ≡ x
    made a x r e q g = sym (choice_go k.machine k.table k.proves f σ.sim.steps σ.sim.state (tape0 σ) (tape1 σ) (tape2 σ) (Look.Go a) (sym e) a x r q g refl)

    space : (a : Action) → look_of k σ ≡ Look.Go a → (f ≡ 0 → ⊥) → Here k f σ
    space a e h = by_test (roomy_of σ a)
        (λ r. goes a (made a _ true e (sym r) (go_on a f _ true h refl)) h e r)
        (λ r. ends _ (made a _ false e (sym r) (go_full a f _ false h refl)) (sym (run_full k σ _ a e f h r refl)))

    fuel : (a : Action) → look_of k σ ≡ Look.Go a → Here k f σ
    fuel a e = by_test (eqb f 0)
        (λ z. ends _ (made a _ _ e refl (go_fuel a f _ _ (eqb-true f 0 z))) (sym (run_fuel k σ _ a e f (eqb-true f 0 z) refl)))
        (λ z. space a e (eqb-false f 0 z))

    look : (l : Look) → look_of k σ ≡ l → Here k f σ
    look Look.Halt e = ends _ (sym (choice_halt k.machine k.table k.proves f _ _ (tape0 σ) (tape1 σ) (tape2 σ) Look.Halt (sym e) refl)) (sym (run_halt k σ _ f e refl))
    look (Look.Never p) e = ends _ (sym (choice_never k.machine k.table k.proves f _ _ (tape0 σ) (tape1 σ) (tape2 σ) (Look.Never p) (sym e) p refl)) (sym (run_never k σ _ f p e refl))
    look (Look.Go a) e = fuel a e

-- ---- a step keeps what a run assumes

pub step_safe : (m : Machine) (stride : ℕ) (σ : Conf) (a : Action) → LookOk m stride σ.sim σ.c0 σ.c1 σ.c2
    → LookOk m stride (step_of σ a).sim (step_of σ a).c0 (step_of σ a).c1 (step_of σ a).c2
unfolding step_of
step_safe m stride σ a ok = record {
  symbols_in = ok.symbols_in;
  stride_is = ok.stride_is;
  stride_in = ok.stride_in;
  safe0 = act_safe _ a.write0.0 a.dir0 ok.safe0;
  safe1 = act_safe _ a.write1.0 a.dir1 ok.safe1;
  safe2 = act_safe _ a.write2.0 a.dir2 ok.safe2;
}

pub step_steps : (σ : Conf) (a : Action) → (step_of σ a).sim.steps ≡ σ.sim.steps + 1
unfolding step_of
step_steps σ a = refl

pub step_ok : (m : Machine) (stride : ℕ) (v : Simulator) (c0 c1 c2 : List ℕ) (left : ℕ) (a : Action)
    → RunOk m stride v c0 c1 c2 left → roomy_of (conf v c0 c1 c2) a ≡ true → StepOk v c0 c1 c2 a
step_ok m stride v c0 c1 c2 left a ok z =
    let s : v.steps + left ≤ steps_most = ok.steps_in in
    record { safe0 = ok.ok.safe0; safe1 = ok.ok.safe1; safe2 = ok.ok.safe2; steps_in = omega arith; rooms = z }

-- ---- the loop's invariant: the run from here has the answer of the run from the start

pub record RunInv (k : Task) (stride fuel : ℕ) (σ : Conf) (v : Simulator) (c0 c1 c2 : List ℕ) (left : ℕ) : Type 0 where
  pub same : run_of k left (conf v c0 c1 c2) ≡ run_of k fuel σ
  pub now_ok : RunOk k.machine stride v c0 c1 c2 left
  pub len0 : length c0 ≡ length σ.c0
  pub len1 : length c1 ≡ length σ.c1
  pub len2 : length c2 ≡ length σ.c2

pub len_then : (a b c : ℕ) → b ≡ c → a ≡ b → a ≡ c
len_then a b c q p = p ∙ q

stop_or_go : (c : ControlFlow Outcome Action) (o : Outcome) (a : Action) → c ≡ Break o → c ≡ Continue a → ⊥
stop_or_go c o a p q = let z : ◌≡◌ {A = ℕ} 0 1 = cc in omega arith

-- the cases of the choice c
module _ (k : Task) (f : ℕ) (v : Simulator) (c0 c1 c2 : List ℕ) (c : ControlFlow Outcome Action) (e : c ≡ choice_of k.machine k.table k.proves f (conf v c0 c1 c2)) where
  abbrev at : Conf
  at = conf v c0 c1 c2

  pub loop_stop : (o : Outcome) (x : End) → c ≡ Break o → run_of k f at ≡ x → end at o ≡ x
  loop_stop o x z p = go (chosen k f at)
    where
      go : Here k f at → end at o ≡ x
      go (ends o' q r) =
          let kc : c ≡ Break o' = e ∙ q in
          let ko : o ≡ o' = cc in
          ap (end at) ko ∙ sym r ∙ p
      go (goes a q h l r) = absurd (stop_or_go c o a z (e ∙ q))

  module _ (a : Action) (z : c ≡ Continue a) where
    pub record Follow : Type 0 where
      pub fuel : f ≡ 0 → ⊥
      pub looks : look_of k at ≡ Look.Go a
      pub roomy : roomy_of at a ≡ true

    pub follow : Follow
    follow = go (chosen k f at)
      where
        go : Here k f at → Follow
        go (ends o q r) = absurd (stop_or_go c o a (e ∙ q) z)
        go (goes a' q h l r) =
            let kc : c ≡ Continue a' = e ∙ q in
            let ka : a ≡ a' = cc in
            record { fuel = h; looks = rw ka l; roomy = rw ka r }

    pub loop_pos : 1 ≤ f
    loop_pos = let h = follow.fuel in omega arith

    pub loop_ok : (stride : ℕ) → RunOk k.machine stride v c0 c1 c2 f → StepOk v c0 c1 c2 a
    loop_ok stride ok = step_ok k.machine stride v c0 c1 c2 f a ok follow.roomy

    -- after the step
    module _ (u : Simulator) (d0 d1 d2 : List ℕ) (is : conf u d0 d1 d2 ≡ step_of at a) (b : Bool) (stops : b ≡ matches k.rule v.state) where
      pub loop_last : (w : Simulator) (o : Outcome) (x : End) → b ≡ true → w ≡ u → o ≡ Stopped u.steps → run_of k f at ≡ x → end (conf w d0 d1 d2) o ≡ x
      loop_last w o x t q n p =
          let g = follow in
          rw (q, n) (ap (λ (τ : Conf). end τ (Stopped τ.sim.steps)) is ∙ run_last k at x a g.looks f g.fuel g.roomy (sym stops ∙ t) p)

      pub loop_next : (stride fuel : ℕ) (σ : Conf) → RunInv k stride fuel σ v c0 c1 c2 f → b ≡ false
          → length d0 ≡ length c0 → length d1 ≡ length c1 → length d2 ≡ length c2 → RunInv k stride fuel σ u d0 d1 d2 (f - 1)
      loop_next stride fuel σ i t l0 l1 l2 =
          let g = follow in
          let n : u.steps ≡ v.steps + 1 = ap (λ (τ : Conf). τ.sim.steps) is ∙ step_steps at a in
          let pos : 1 ≤ f = loop_pos in
          let lim : v.steps + f ≤ steps_most = i.now_ok.steps_in in
          record {
            same = rw is (run_next k at _ a g.looks f g.fuel g.roomy (sym stops ∙ t) i.same);
            now_ok = record {
              ok = subst⁻¹ (λ (τ : Conf). LookOk k.machine stride τ.sim τ.c0 τ.c1 τ.c2) is (step_safe k.machine stride at a i.now_ok.ok);
              steps_in = omega arith;
            };
            len0 = l0 ∙ i.len0;
            len1 = l1 ∙ i.len1;
            len2 = l2 ∙ i.len2;
          }
