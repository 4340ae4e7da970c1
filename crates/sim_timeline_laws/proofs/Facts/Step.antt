-- A step of the engine is a step of its meaning, and it has room exactly where the step of the meaning has. Assumes nothing.
use Rattle.std.specs.Prelude.{◌≡◌, Bool, false, List, ℕ, length, Option, Some}
use Rattle.std.proofs.Math.Path.{refl, sym}
use Rattle.std.proofs.Common.{ap, ◌∙◌, subst, arith, ltb-false}
use Rattle.std.proofs.Math.Bool.{true}
use Rattle.notation.specs.Choice.{pick}
use Rattle.notation.proofs.Facts.Tests.{clash, by_test, both_split, both_true}
use Rattle.symbol.specs.declared.Dir.TheVariants.{N}
use Rattle.machine.specs.declared.Machine.{Machine}
use Rattle.machine.specs.declared.Action.{Action}
use Rattle.table_laws.specs.WellFormed.{ActionOf}
use Rattle.table_machine.specs.TableMachine.{entry, step, Halted}
use Rattle.table_machine.specs.Tables.{table_of, TableOf}
use Rattle.table_machine.proofs.Facts.Run.{not_defined, step-act, step_halted}
use Rattle.tape.specs.declared.Tape.{Tape}
use Rattle.tape.specs.Model.Moves.{held, no_tape, room_for}
use Rattle.sim.specs.Model.Engine.{Conf, tape0, tape1, tape2, rooms_of, roomy_of, step_of}
use Rattle.sim.specs.Model.Operations.{bare_sim, bare_of}
use Rattle.sim_refines.specs.Meaning.{has, config_of, EngineFits}
use Rattle.sim_refines.proofs.Facts.Step.{step_config}
use Rattle.sim_refines.proofs.Facts.MissingTapes.{config_bare}
use Rattle.sim_timeline_laws.specs.Meaning.{moved_on, extent_of, extent_if, Mean, mean_of, next_of, SomePasses, first, second, third, NoRoom}
use Rattle.sim_timeline_laws.proofs.Facts.Extent.{extent_act, extent_room, extent_full}

-- ---- a step with an entry

one_entry : (x : Option Action) (a b : Action) → x ≡ Some a → x ≡ Some b → a ≡ b
one_entry x a b p q = cc

module _ (m : Machine) (s : List ℕ) (table : TableOf m (table_of m s)) (σ : Conf) (f : EngineFits m σ) (a : Action) (reads : entry (table_of m s) (config_of m σ) ≡ Some a) where
  of_machine : ActionOf m a
  of_machine = table _ _ _ _ a reads

  lacks0 : true ≡ false → a.dir0 ≡ N
  lacks0 e = absurd (clash refl e)

  lacks1 : has m 1 ≡ false → a.dir1 ≡ N
  lacks1 e = (of_machine.lacks1 (omega (arith, ltb-false 1 m.tapes e))).1

  lacks2 : has m 2 ≡ false → a.dir2 ≡ N
  lacks2 e = (of_machine.lacks2 (omega (arith, ltb-false 2 m.tapes e))).1

  abbrev room0 : Bool
  room0 = room_for σ.sim.t0 (length σ.c0) a.dir0

  abbrev room1 : Bool
  room1 = room_for σ.sim.t1 (length σ.c1) a.dir1

  abbrev room2 : Bool
  room2 = room_for σ.sim.t2 (length σ.c2) a.dir2

  rooms : roomy_of σ a ≡ true → (room0 ≡ true) × (room1 ≡ true) × (room2 ≡ true)
  unfolding rooms_of
  rooms r = let p = both_split r in (p.0, (both_split p.1).0, (both_split p.1).1)

  pub step_mean : roomy_of σ a ≡ true → mean_of m (step_of σ a) ≡ next_of m s (mean_of m σ)
  unfolding step_of mean_of next_of
  step_mean r = λ i. record {
    config = (step_config m s σ f table a reads r ∙ sym (step-act (table_of m s) (config_of m σ) a reads)) i;
    extent0 = (extent_act true m.symbols (tape0 σ) a.dir0 f.fits0 lacks0 a.write0.0 (rooms r).0
        ∙ sym (ap (moved_on (extent_of (tape0 σ)) (λ (b : Action). b.dir0)) reads)) i;
    extent1 = (extent_act (has m 1) m.symbols (tape1 σ) a.dir1 f.fits1 lacks1 a.write1.0 (rooms r).1
        ∙ sym (ap (moved_on (extent_if (has m 1) (tape1 σ)) (λ (b : Action). b.dir1)) reads)) i;
    extent2 = (extent_act (has m 2) m.symbols (tape2 σ) a.dir2 f.fits2 lacks2 a.write2.0 (rooms r).2
        ∙ sym (ap (moved_on (extent_if (has m 2) (tape2 σ)) (λ (b : Action). b.dir2)) reads)) i;
  }

  none_passes : roomy_of σ a ≡ true → ¬ SomePasses (mean_of m σ) a
  unfolding mean_of
  none_passes r (first p) = clash p (extent_room true m.symbols (tape0 σ) a.dir0 f.fits0 lacks0 (rooms r).0)
  none_passes r (second p) = clash p (extent_room (has m 1) m.symbols (tape1 σ) a.dir1 f.fits1 lacks1 (rooms r).1)
  none_passes r (third p) = clash p (extent_room (has m 2) m.symbols (tape2 σ) a.dir2 f.fits2 lacks2 (rooms r).2)

  pub step_room : roomy_of σ a ≡ true → ¬ NoRoom m s (mean_of m σ)
  unfolding mean_of
  step_room r (b, e, p) = none_passes r (subst (SomePasses (mean_of m σ)) (one_entry (entry (table_of m s) (config_of m σ)) b a e reads) p)

  pub step_full : roomy_of σ a ≡ false → NoRoom m s (mean_of m σ)
  unfolding mean_of rooms_of
  step_full r = (
    a,
    reads,
    by_test room0
        (λ t0. by_test room1
        (λ t1. by_test room2
        (λ t2. absurd (clash (both_true t0 (both_true t1 t2)) r))
        (λ n2. third (extent_full (has m 2) m.symbols (tape2 σ) a.dir2 f.fits2 lacks2 n2)))
        (λ n1. second (extent_full (has m 1) m.symbols (tape1 σ) a.dir1 f.fits1 lacks1 n1)))
        (λ n0. first (extent_full true m.symbols (tape0 σ) a.dir0 f.fits0 lacks0 n0)),
  )

-- ---- the meaning alone

module _ (m : Machine) (σ : Conf) where
  pub mean_config : (mean_of m σ).config ≡ config_of m σ
  unfolding mean_of
  mean_config = refl

  pub mean_steps : σ.sim.steps ≡ (mean_of m σ).config.steps
  unfolding mean_of
  mean_steps = refl

module _ (m : Machine) (s : List ℕ) (x : Mean) where
  pub next_config : (next_of m s x).config ≡ step (table_of m s) x.config
  unfolding next_of
  next_config = refl

  pub next_halted : Halted (table_of m s) x.config → next_of m s x ≡ x
  unfolding next_of
  next_halted h = λ i. record {
    config = step_halted (table_of m s) x.config h i;
    extent0 = moved_on x.extent0 (λ (a : Action). a.dir0) (h i);
    extent1 = moved_on x.extent1 (λ (a : Action). a.dir1) (h i);
    extent2 = moved_on x.extent2 (λ (a : Action). a.dir2) (h i);
  }

  pub halted_room : Halted (table_of m s) x.config → ¬ NoRoom m s x
  halted_room h (a, e, p) = not_defined (entry (table_of m s) x.config) a h e

-- ---- the fields of tapes that the machine lacks are no part of the meaning

bare-extent : (has : Bool) (t : Tape) (c : List ℕ) → extent_if has (held (pick has t no_tape) c) ≡ extent_if has (held t c)
unfolding pick
bare-extent true t c = refl
bare-extent false t c = refl

pub mean_bare : (m : Machine) (σ : Conf) → mean_of m (bare_of m σ) ≡ mean_of m σ
unfolding mean_of bare_sim
mean_bare m σ = λ i. record {
  config = config_bare m σ i;
  extent0 = extent_of (tape0 σ);
  extent1 = bare-extent (has m 1) σ.sim.t1 σ.c1 i;
  extent2 = bare-extent (has m 2) σ.sim.t2 σ.c2 i;
}
