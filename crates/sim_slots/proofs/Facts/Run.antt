-- After a run a fitting engine still fits, its buffers have the same lengths, and its step count has risen by at most the fuel. Assumes nothing.
use Rattle.std.proofs.Math.Path.{◌≡◌, refl}
use Rattle.std.proofs.Common.{sym, ap, ◌∙◌, arith}
use Rattle.std.specs.Prelude.{Bool, true, false, List, ltb, eqb, length, None, Ok, Option, Some}
use Prim.Native.Nat.{ℕ, zero, suc, ◌+◌, ◌*◌, ◌/◌, ◌≤◌, ◌<◌}
use borrow.Author.Tests.{ltb-true, eqb-true, lt-ltb}
use Rattle.notation.specs.Choice.{pick, both}
use Rattle.notation.proofs.Facts.Tests.{both_split, pick_cases}
use Rattle.symbol.specs.declared.Dir.{Dir}
use Rattle.machine.specs.declared.Machine.{Machine}
use Rattle.machine.specs.declared.Action.{Action}
use Rattle.machine.specs.Layout.{entry_count, flag_at, action_at, entry_at}
use Rattle.machine.specs.Model.Check.{table_check}
use Rattle.machine.proofs.Facts.Check.{ranges, PassedEntry, defined_passed}
use Rattle.tape.specs.Model.Moves.{Held, held, no_tape, room_for, act_of}
use Rattle.tape.specs.Fits.{tape_fits}
use Rattle.tape.proofs.Facts.Fits.{fits_says, fits_holds}
use Rattle.tape.proofs.Facts.Moves.{none_acts, act_fits, length-act}
use Rattle.run_checks.specs.declared.inner.look.Look.{Look}
use Rattle.run_checks.specs.declared.inner.look.Look.TheVariants.{Halt, Never, Go}
use Rattle.sim.specs.Model.Engine.{Task, Conf, tape0, tape1, tape2, End, on_look, loop_of, judge_of, look_on, entry_of, look_with, look_of, matches, halted_end, never_end, fuel_end, full_end, stopped_end, roomy_of, step_of, run_with, run_of}
use Rattle.sim.proofs.Facts.EngineCases.{rooms_each}
use Rattle.sim.specs.Model.Operations.{has1, has2}

-- ---- the entries of an accepted table

pub record Lawful (m : Machine) (a : Action) : Type 0 where
  pub next_in : ltb a.next.0 m.states ≡ true
  pub write0_in : a.write0.0 < m.symbols
  pub write1_in : has1 m ≡ true → a.write1.0 < m.symbols
  pub write2_in : has2 m ≡ true → a.write2.0 < m.symbols

module _ (m : Machine) (s : List ℕ) where
  passed_lawful : (i : ℕ) → PassedEntry m s i → Lawful m (action_at s i)
  unfolding action_at
  passed_lawful i p = record {
    next_in = lt-ltb _ _ p.next_in;
    write0_in = p.write0_in;
    write1_in = p.write1_in;
    write2_in = p.write2_in;
  }

  module _ (accepted : table_check m s ≡ Ok tt) where
    inside : (i : ℕ) → i < length s / 8 → flag_at s i ≡ 1 → Lawful m (action_at s i)
    inside i l f =
        let n : length s ≡ 8 * entry_count m = (ranges m s accepted).size in
        passed_lawful i (defined_passed m s i accepted (omega arith) f)

    pub entry_lawful : (i : ℕ) (a : Action) → entry_at s i ≡ Some a → Lawful m a
    unfolding entry_at
    entry_lawful i a = pick_cases (both (ltb i (length s / 8)) (eqb (flag_at s i) 1)) (Some (action_at s i)) None (λ x. x ≡ Some a → Lawful m a)
        (λ t e.
        let p = both_split t in
        let k : action_at s i ≡ a = cc in
        rw k at (inside i (ltb-true _ _ p.0) (eqb-true _ _ p.1)))
        (λ t e. let z : ◌≡◌ {A = ℕ} 0 1 = cc in absurd (omega arith))

-- ---- the entry followed is the entry read

loop_follows : (tapes : ℕ) (q : _) (a b : Action) (r0 r1 r2 : ℕ) (h : Held) → loop_of tapes q b r0 r1 r2 h ≡ Go a → b ≡ a
unfolding loop_of
loop_follows tapes q a b r0 r1 r2 h = pick_cases _ _ _ (λ (x : Look). x ≡ Go a → b ≡ a)
    (λ t e. let z : ◌≡◌ {A = ℕ} 0 1 = cc in absurd (omega arith))
    (λ t. pick_cases _ _ _ (λ (x : Look). x ≡ Go a → b ≡ a) (λ u e. let z : ◌≡◌ {A = ℕ} 0 1 = cc in absurd (omega arith)) (λ u e. cc))

look_follows : (x : Option Action) (p : Bool) (tapes : ℕ) (q : _) (a : Action) (r0 r1 r2 : ℕ) (h : Held) → look_on x p tapes q r0 r1 r2 h ≡ Go a → x ≡ Some a
unfolding look_on judge_of
look_follows None p tapes q a r0 r1 r2 h = λ e. let z : ◌≡◌ {A = ℕ} 0 1 = cc in absurd (omega arith)
look_follows (Some b) p tapes q a r0 r1 r2 h = pick_cases _ _ _ (λ (x : Look). x ≡ Go a → Some b ≡ Some a)
    (λ t e. ap Some (loop_follows tapes q a b r0 r1 r2 h e)) (λ t e. cc)

-- ---- the invariant: the tapes that the machine has fit, the others have 0 for their numbers

pub record Keeps (m : Machine) (σ : Conf) : Type 0 where
  pub state_in_holds : ltb σ.sim.state.0 m.states ≡ true
  pub fits0 : tape_fits m.symbols σ.sim.t0 σ.c0 ≡ true
  pub fits1 : has1 m ≡ true → tape_fits m.symbols σ.sim.t1 σ.c1 ≡ true
  pub fits2 : has2 m ≡ true → tape_fits m.symbols σ.sim.t2 σ.c2 ≡ true
  pub none1 : has1 m ≡ false → σ.sim.t1 ≡ no_tape
  pub none2 : has2 m ≡ false → σ.sim.t2 ≡ no_tape

-- from σ to e with at most n steps
pub record Goes (m : Machine) (n : ℕ) (σ e : Conf) : Type 0 where
  pub keeps : Keeps m e
  pub climbs : σ.sim.steps ≤ e.sim.steps
  pub within : e.sim.steps ≤ σ.sim.steps + n
  pub length0 : length e.c0 ≡ length σ.c0
  pub length1 : length e.c1 ≡ length σ.c1
  pub length2 : length e.c2 ≡ length σ.c2
  pub left1 : has1 m ≡ false → e.c1 ≡ σ.c1
  pub left2 : has2 m ≡ false → e.c2 ≡ σ.c2

stays : (m : Machine) (n : ℕ) (σ : Conf) → Keeps m σ → Goes m n σ σ
stays m n σ k = record {
  keeps = k;
  climbs = omega arith;
  within = omega arith;
  length0 = refl;
  length1 = refl;
  length2 = refl;
  left1 = λ e. refl;
  left2 = λ e. refl;
}

then_goes : (m : Machine) (a b : ℕ) (σ τ e : Conf) → Goes m a σ τ → Goes m b τ e → Goes m (a + b) σ e
then_goes m a b σ τ e p q = record {
  keeps = q.keeps;
  climbs = omega (arith, p.climbs, q.climbs);
  within = omega (arith, p.within, q.within);
  length0 = q.length0 ∙ p.length0;
  length1 = q.length1 ∙ p.length1;
  length2 = q.length2 ∙ p.length2;
  left1 = λ z. q.left1 z ∙ p.left1 z;
  left2 = λ z. q.left2 z ∙ p.left2 z;
}

act_fits_on : (k : ℕ) (h : Held) (w : ℕ) (d : Dir) → tape_fits k h.tape h.cells ≡ true → w < k → room_for h.tape (length h.cells) d ≡ true
    → tape_fits k (act_of h w d).tape (act_of h w d).cells ≡ true
act_fits_on k h w d f b r = fits_holds k _ _ (act_fits k h w d (fits_says k h.tape h.cells f) b r)

-- a tape that the machine lacks is unchanged
none_stays : (h : Held) (w : ℕ) (d : Dir) → h.tape ≡ no_tape → act_of h w d ≡ h
none_stays h w d e = ap (λ t. act_of (held t h.cells) w d) e ∙ none_acts h.cells w d ∙ sym (ap (λ t. held t h.cells) e)

step_goes : (m : Machine) (σ : Conf) (a : Action) → Lawful m a → Keeps m σ → roomy_of σ a ≡ true → Goes m 1 σ (step_of σ a)
unfolding step_of
step_goes m σ a l k r =
    let rooms = rooms_each σ.sim (length σ.c0) (length σ.c1) (length σ.c2) a r in
    record {
      keeps = record {
        state_in_holds = l.next_in;
        fits0 = act_fits_on m.symbols (tape0 σ) _ _ k.fits0 l.write0_in rooms.0;
        fits1 = λ e. act_fits_on m.symbols (tape1 σ) _ _ (k.fits1 e) (l.write1_in e) rooms.1;
        fits2 = λ e. act_fits_on m.symbols (tape2 σ) _ _ (k.fits2 e) (l.write2_in e) rooms.2;
        none1 = λ e. ap (λ (h : Held). h.tape) (none_stays (tape1 σ) _ _ (k.none1 e)) ∙ k.none1 e;
        none2 = λ e. ap (λ (h : Held). h.tape) (none_stays (tape2 σ) _ _ (k.none2 e)) ∙ k.none2 e;
      };
      climbs = omega arith;
      within = omega arith;
      length0 = length-act (tape0 σ) _ _;
      length1 = length-act (tape1 σ) _ _;
      length2 = length-act (tape2 σ) _ _;
      left1 = λ e. ap (λ (h : Held). h.cells) (none_stays (tape1 σ) _ _ (k.none1 e));
      left2 = λ e. ap (λ (h : Held). h.cells) (none_stays (tape2 σ) _ _ (k.none2 e));
    }

-- ---- the run

module _ (k : Task) (accepted : table_check k.machine k.table ≡ Ok tt) where
  abbrev Here : ℕ → Conf → End → Type 0
  Here f σ e = Goes k.machine f σ e.at

  go_lawful : (σ : Conf) (a : Action) → look_of k σ ≡ Go a → Lawful k.machine a
  unfolding look_with entry_of
  go_lawful σ a e = entry_lawful k.machine k.table accepted _ a (look_follows _ _ _ _ a _ _ _ _ e)

  pub run_goes : (f : ℕ) (σ : Conf) → Keeps k.machine σ → Here f σ (run_of k f σ)
  unfolding run_of run_with
  run_goes zero σ s = by (look_of k σ)
    where
      by : (x : Look) → Here 0 σ (on_look x (halted_end σ) (never_end σ) (λ a. fuel_end σ))
      by Halt = stays k.machine 0 σ s
      by (Never p) = stays k.machine 0 σ s
      by (Go a) = stays k.machine 0 σ s
  run_goes (suc f) σ s = by (λ a. run_goes f (step_of σ a)) (look_of k σ) refl
    where
      on : Look → End
      on x = on_look x (halted_end σ) (never_end σ)
          (λ a. pick (roomy_of σ a) (pick (matches k.rule σ.sim.state) (stopped_end (step_of σ a)) (run_of k f (step_of σ a))) (full_end σ))

      by : ((a : Action) → Keeps k.machine (step_of σ a) → Here f (step_of σ a) (run_of k f (step_of σ a))) → (x : Look) → look_of k σ ≡ x → Here (suc f) σ (on x)
      by rest Halt e = stays k.machine (suc f) σ s
      by rest (Never p) e = stays k.machine (suc f) σ s
      by rest (Go a) e = pick_cases (roomy_of σ a) _ _ (Here (suc f) σ)
          (λ r.
          let g : Goes k.machine 1 σ (step_of σ a) = step_goes k.machine σ a (go_lawful σ a e) s r in
          pick_cases (matches k.rule σ.sim.state) _ _ (Here (suc f) σ)
          (λ t. later a g (stays k.machine f (step_of σ a) g.keeps))
          (λ t. later a g (rest a g.keeps)))
          (λ r. stays k.machine (suc f) σ s)
        where
          later : (a : Action) {e : Conf} → Goes k.machine 1 σ (step_of σ a) → Goes k.machine f (step_of σ a) e → Goes k.machine (suc f) σ e
          later a {e} p q = let n : 1 + f ≡ suc f = omega arith in rw n at (then_goes k.machine 1 f σ (step_of σ a) e p q)
