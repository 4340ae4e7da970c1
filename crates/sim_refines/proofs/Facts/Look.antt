-- The engine's look before a step is the table machine's verdict. Assumes nothing.
use Rattle.std.specs.Prelude.{◌≡◌, refl, Bool, true, eqb, None, Option, Some}
use Rattle.std.proofs.Math.Path.{sym}
use Rattle.std.proofs.Common.{◌∙◌}
use borrow.Author.Tests.{eqb-true, eq-eqb}
use Rattle.notation.specs.Choice.{both}
use Rattle.notation.proofs.Facts.Tests.{clash, both_split, both_true, pick_cases}
use Rattle.symbol.specs.declared.Dir.{Dir}
use Rattle.symbol.specs.declared.Dir.TheVariants.{L, R, N}
use Rattle.machine.specs.declared.Machine.{Machine}
use Rattle.machine.specs.declared.Action.{Action}
use Rattle.table_machine.specs.TableMachine.{read_t, entry, Stays, Walks, stays, walks, goes}
use Rattle.tape.specs.Model.Moves.{read_of}
use Rattle.tape.specs.Model.Questions.{blank_beyond}
use Rattle.sim.specs.Model.Engine.{Task, Conf, tape0, tape1, tape2, stays_all, loop_of, judge_of, look_on, entry_of, look_with, look_of}
use Rattle.sim.specs.Model.Engine as engine
use Rattle.sim_refines.specs.Meaning.{has, config_of, EngineFits}
use Rattle.sim_refines.specs.Statement.{table_in, held_by, Sees, no_entry, loops, goes_on}
use Rattle.sim_refines.proofs.Facts.Tape.{blank_beyond_says, blank_beyond_holds}
use Rattle.sim_refines.proofs.Facts.Step.{read_if, entry_read}

still_says : (d : Dir) → engine.stays d ≡ true → d ≡ N
unfolding engine.stays
still_says L t = absurd (clash t refl)
still_says R t = absurd (clash t refl)
still_says N t = refl

still_holds : (d : Dir) → d ≡ N → engine.stays d ≡ true
unfolding engine.stays
still_holds d e = rw e

-- the engine's two tests of an entry that keeps the state
abbrev stays_on : Conf → Action → Bool
stays_on σ a = stays_all a (read_of (tape0 σ)) (read_of (tape1 σ)) (read_of (tape2 σ))

abbrev walks_on : Machine → Conf → Action → Bool
walks_on m σ a = both (eqb m.tapes 1) (both (eqb (read_of (tape0 σ)) 0) (blank_beyond (tape0 σ) a.dir0))

module _ (m : Machine) (σ : Conf) (f : EngineFits m σ) (a : Action) where
  r0 : read_t (config_of m σ).tape0 ≡ read_of (tape0 σ)
  r0 = read_if true m.symbols (tape0 σ) f.fits0

  r1 : read_t (config_of m σ).tape1 ≡ read_of (tape1 σ)
  r1 = read_if (has m 1) m.symbols (tape1 σ) f.fits1

  r2 : read_t (config_of m σ).tape2 ≡ read_of (tape2 σ)
  r2 = read_if (has m 2) m.symbols (tape2 σ) f.fits2

  -- ---- the first pattern of a proved loop

  stays_says : a.next.0 ≡ σ.sim.state.0 → stays_on σ a ≡ true → Stays (config_of m σ) a
  unfolding stays_all
  stays_says q t =
      let p1 = both_split t in
      let p2 = both_split p1.1 in
      let p3 = both_split p2.1 in
      let p4 = both_split p3.1 in
      let p5 = both_split p4.1 in
      record {
        keeps = q;
        still0 = still_says a.dir0 p1.0;
        still1 = still_says a.dir1 p2.0;
        still2 = still_says a.dir2 p3.0;
        same0 = eqb-true _ _ p4.0 ∙ sym r0;
        same1 = eqb-true _ _ p5.0 ∙ sym r1;
        same2 = eqb-true _ _ p5.1 ∙ sym r2;
      }

  stays_holds : Stays (config_of m σ) a → stays_on σ a ≡ true
  unfolding stays_all
  stays_holds s =
      both_true (still_holds _ s.still0)
      (both_true (still_holds _ s.still1)
      (both_true (still_holds _ s.still2) (both_true (eq-eqb _ _ (s.same0 ∙ r0)) (both_true (eq-eqb _ _ (s.same1 ∙ r1)) (eq-eqb _ _ (s.same2 ∙ r2))))))

  -- ---- the second pattern

  walks_says : a.next.0 ≡ σ.sim.state.0 → walks_on m σ a ≡ true → Walks m.tapes (config_of m σ) a a.dir0
  walks_says q t =
      let p1 = both_split t in
      let p2 = both_split p1.1 in
      let b = blank_beyond_says (tape0 σ) a.dir0 p2.1 in
      record {
        single = eqb-true _ _ p1.0;
        same_state = q;
        moves = refl;
        sideways = b.0;
        blank = r0 ∙ eqb-true _ _ p2.0;
        beyond = b.1;
      }

  walks_holds : (d : Dir) → Walks m.tapes (config_of m σ) a d → walks_on m σ a ≡ true
  walks_holds d w =
      both_true (eq-eqb _ _ w.single)
      (both_true (eq-eqb _ _ (sym r0 ∙ w.blank)) (rw w.moves (blank_beyond_holds (tape0 σ) d f.fits0.head_in w.sideways w.beyond)))

-- ---- the look

module _ (k : Task) (σ : Conf) (f : EngineFits k.machine σ) where
  -- an entry that keeps the state, where the never test is made
  loop_sees : k.proves ≡ true → (a : Action) → entry (table_in k) (held_by k σ) ≡ Some a → a.next.0 ≡ σ.sim.state.0
      → Sees k (held_by k σ) (loop_of k.machine.tapes σ.sim.state a (read_of (tape0 σ)) (read_of (tape1 σ)) (read_of (tape2 σ)) (tape0 σ))
  unfolding loop_of
  loop_sees p a e q = pick_cases (stays_on σ a) _ _ (Sees k (held_by k σ))
      (λ t. loops _ p (stays a e (stays_says k.machine σ f a q t)))
      (λ t. pick_cases (walks_on k.machine σ a) _ _ (Sees k (held_by k σ))
      (λ w. loops _ p (walks a a.dir0 e (walks_says k.machine σ f a q w)))
      (λ w. goes_on a e (λ _. goes a e (λ h. clash (stays_holds k.machine σ f a h) t) (λ d h. clash (walks_holds k.machine σ f a d h) w))))

  -- any entry
  judge_sees : (a : Action) → entry (table_in k) (held_by k σ) ≡ Some a
      → Sees k (held_by k σ) (judge_of k.proves k.machine.tapes σ.sim.state a (read_of (tape0 σ)) (read_of (tape1 σ)) (read_of (tape2 σ)) (tape0 σ))
  unfolding judge_of
  judge_sees a e = pick_cases (both k.proves (eqb a.next.0 σ.sim.state.0)) _ _ (Sees k (held_by k σ))
      (λ t. loop_sees (both_split t).0 a e (eqb-true _ _ (both_split t).1))
      (λ t. goes_on a e (λ p. goes a e (λ h. clash (both_true p (eq-eqb _ _ h.keeps)) t) (λ d h. clash (both_true p (eq-eqb _ _ h.same_state)) t)))

  -- the look is the verdict; without the never test it is an entry or none
  pub look_sees : Sees k (held_by k σ) (look_of k σ)
  unfolding look_with look_on
  look_sees = by (entry_of k.machine k.table σ.sim.state (read_of (tape0 σ)) (read_of (tape1 σ)) (read_of (tape2 σ))) (entry_read k.machine k.table σ f)
    where
      by : (x : Option Action) → entry (table_in k) (held_by k σ) ≡ x
          → Sees k (held_by k σ) (look_on x k.proves k.machine.tapes σ.sim.state (read_of (tape0 σ)) (read_of (tape1 σ)) (read_of (tape2 σ)) (tape0 σ))
      by None e = no_entry e
      by (Some a) e = judge_sees a e
