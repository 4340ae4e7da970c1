-- The plain engine under a timeline: its advance, and its reading of a slot. Assumes nothing.
use Rattle.std.specs.Prelude.{◌≡◌, ◌↔◌, Bool, List, ℕ, ◌+◌, ◌≤◌, ◌<◌, length, take, drop, get_or, None, Ok}
use Rattle.std.proofs.Math.Path.{refl, sym, ap, subst, subst⁻¹}
use Rattle.std.proofs.Common.{◌∙◌, arith, eqb-true, eq-eqb, length-take, get_or-take}
use Rattle.std.proofs.Math.Bool.{true, false}
use Rattle.std.proofs.Math.Seq.{paste}
use Rattle.std.proofs.lemmas.List.Edits.{length-paste}
use Rattle.notation.specs.Choice.{pick}
use Rattle.notation.proofs.Facts.Tests.{clash, both_split, both_true}
use Rattle.notation.specs.Limits.{steps_most}
use Rattle.outcome.specs.declared.Outcome.{Outcome}
use Rattle.outcome.specs.declared.Outcome.TheVariants.{Full}
use Rattle.machine.specs.declared.Machine.{Machine}
use Rattle.table_laws.specs.WellFormed.{Bytes}
use Rattle.tape.specs.declared.Tape.{Tape}
use Rattle.tape.specs.Model.Moves.{held, no_tape}
use Rattle.tape.specs.Fits.{tape_fits}
use Rattle.tape.proofs.Facts.Fits.{fits_says}
use Rattle.table_machine.specs.TableMachine.{entry, run}
use Rattle.table_machine.specs.Tables.{table_of}
use Rattle.table_machine.proofs.Facts.Table.{accepted_table}
use Rattle.table_machine.proofs.Facts.Tape.{tape-≡}
use Rattle.sim.specs.declared.Simulator.{Simulator}
use Rattle.sim.specs.Model.Engine.{Task, task, Conf, conf, End, roomy_of, run_of}
use Rattle.sim.specs.Model.Operations.{sizes_fit, bare_sim, bare_of, hand_back, back_of, engine_check}
use Rattle.sim.proofs.Facts.OperationCases.{Passed, engine_says}
use Rattle.sim_refines.specs.Meaning.{tape_of, has, tape_if, config_of, EngineFits}
use Rattle.sim_refines.specs.Lent.{SameFirst}
use Rattle.sim_refines.specs.Statement.{Answers, verdict, halted, spent, stopped, full, Refines}
use Rattle.sim_refines.proofs.Facts.Refinement.{plain_refines}
use Rattle.sim_refines.proofs.Facts.Run.{verdict_exact}
use Rattle.sim_refines.proofs.Facts.LiveCells.{cell_same}
use Rattle.sim_refines.proofs.Facts.MissingTapes.{config_bare, bare_back, bare_fits, fits_bare}
use Rattle.store_bytes.proofs.Facts.Slots.{paste_same}
use Rattle.timeline_rule.specs.Model.Kind.{verdict_or}
use Rattle.sim_slots.specs.Model.Advance.{ran_from, advance_of}
use Rattle.sim_slots.proofs.Facts.Advance.{advance_fits}
use Rattle.sim_slots.specs.Model.Slots.{size_if, place1, place2, tape_at, sim_in, part_of, part0, part1, part2, holds_one, fill_if, filled, unpack_of}
use Rattle.sim_slots.proofs.Facts.SlotBytes.{refits}
use Rattle.sim_slots.proofs.Facts.FitCases.{Fitted, fitted, fits_again}
use Rattle.sim_slots.proofs.Facts.RoundTrip.{check_holds}
use Rattle.sim_slots.specs.Model.Kind.{plain_kind}
use Rattle.demands_second.proofs.Facts.ChainRun.{not_full_verdict}
use Rattle.demands_first.specs.FirstSpace.{PlainFull}
use Rattle.demands_first.specs.FirstSlots.{plain_shown, plain_meaning}
use Rattle.demands_first.proofs.Facts.FirstSpace.{lacks_some}
use Rattle.demands_first.proofs.Facts.FirstTimelineSpace.{there_is, there_says, Slots, Advanced, ReadBack, Engine}

-- ---- an advance

module _ (m : Machine) (s : List ℕ) (bytes : Bytes s) (n : ℕ) (σ : Conf) (checked : engine_check m s σ ≡ Ok tt) (small : σ.sim.steps + n ≤ steps_most) where
  abbrev quiet : Task
  quiet = task m s false None

  abbrev ending : End
  ending = run_of quiet n (bare_of m σ)

  abbrev back : Conf
  back = back_of m σ ending.at

  p : Passed m s σ
  p = engine_says m s σ checked

  ran : Refines quiet n (bare_of m σ) ending
  unfolding bare_sim
  ran = plain_refines m s bytes p.table false None n (bare_of m σ) (bare_fits m σ p.fits) small

  here : bare_of m back ≡ ending.at
  here = bare_back m σ ending.at ran.went.kept.fits

  bare_again : EngineFits m (bare_of m back)
  bare_again = subst⁻¹ (EngineFits m) here ran.went.kept.fits

  back_config : config_of m back ≡ config_of m ending.at
  back_config = sym (config_bare m back) ∙ ap (config_of m) here

  -- the never test's verdict there is not Full
  asked : (j : ℕ) → ¬ ((ran_from m s true 0 back).outcome ≡ Full j)
  unfolding ran_from
  asked j = not_full_verdict _ _ _ _ ((verdict_exact (task m s true None) refl (bare_of m back) bare_again _).1 refl) j

  full_by : {o : Outcome} → Answers quiet n ran.made (bare_of m σ) ending.at o → (j : ℕ) → verdict_or o (ran_from m s true 0 back).outcome ≡ Full j
      → (ran.made < n) × (j ≡ ending.at.sim.steps) × PlainFull m s back
  full_by (verdict o t v g) j q = absurd (clash t refl)
  full_by (halted t h) j q = let z : ◌≡◌ {A = ℕ} 0 1 = cc in absurd (omega arith)
  full_by (spent t h e) j q = absurd (asked j q)
  full_by (stopped i l h) j q = let z : ◌≡◌ {A = ℕ} 0 1 = cc in absurd (omega arith)
  full_by (full a l e u r) j q = (
    l,
    cc,
    lacks_some m s (accepted_table m s bytes p.table) back bare_again a (ap (λ (x : Conf). entry (table_of m s) (config_of m x)) here ∙ e)
        (ap (λ (x : Conf). roomy_of x a) here ∙ r),
  )

  plain_advanced : Advanced plain_kind plain_meaning m s n σ (advance_of m s n σ).0 (advance_of m s n σ).1
  unfolding advance_of ran_from hand_back bare_sim
  plain_advanced = record {
    made = ran.made;
    within = ran.within;
    accepted = advance_fits m s n σ checked small;
    counted = ran.went.counted;
    holds = back_config ∙ ran.went.holds ∙ ap (run (table_of m s) ran.made) (config_bare m σ);
    full = full_by ran.answers;
  }

-- ---- a tape that fits a part of a slot, copied to its buffer

module _ (k : ℕ) (t : Tape) (part c : List ℕ) (short : length part ≤ length c) (fits : tape_fits k t part ≡ true) where
  len_in : t.len ≤ length part
  len_in = (fits_says k t part fits).most

  abbrev poured : List ℕ
  poured = paste c 0 part t.len

  poured_size : length poured ≡ length c
  poured_size = length-paste c 0 part t.len (omega (arith, len_in)) len_in

  poured_live : take t.len poured ≡ take t.len part
  poured_live = paste_same c 0 part t.len (omega (arith, len_in)) len_in

  poured_fits : tape_fits k t poured ≡ true
  poured_fits = refits k t part poured fits poured_live (omega (arith, poured_size, len_in))

  poured_cells : SameFirst t.len poured part
  poured_cells i l = sym (get_or-take t.len poured i 0 l) ∙ ap (λ x. get_or x i 0) poured_live ∙ get_or-take t.len part i 0 l

  poured_tape : tape_of (held t poured) ≡ tape_of (held t part)
  poured_tape = tape-≡ (tape_of (held t poured)) (tape_of (held t part)) (cell_same t poured part poured_cells) refl refl refl

-- the same for a tape that the machine may lack
record Poured (b : Bool) (k : ℕ) (t : Tape) (part c : List ℕ) : Type 0 where
  size : length (fill_if b t part c) ≡ length c
  fits : b ≡ true → tape_fits k t (fill_if b t part c) ≡ true
  same : tape_if b (held t (fill_if b t part c)) ≡ tape_if b (held t part)

pours : (b : Bool) (k : ℕ) (t : Tape) (at : ℕ) (slot c : List ℕ) → (b ≡ true → tape_fits k t (part_of at (size_if b (length c)) slot) ≡ true)
    → Poured b k t (part_of at (size_if b (length c)) slot) c
unfolding fill_if pick
pours true k t at slot c f =
    let l : length (part_of at (length c) slot) ≤ length c = omega (arith, length-take (length c) (drop at slot)) in
    record { size = poured_size k t _ c l (f refl); fits = λ e. poured_fits k t _ c l (f refl); same = poured_tape k t _ c l (f refl) }
pours false k t at slot c f = record { size = refl; fits = λ e. absurd (clash e refl); same = refl }

pick_again : (b : Bool) (t u v : Tape) → pick b (pick b t u) v ≡ pick b t v
unfolding pick
pick_again true t u v = refl
pick_again false t u v = refl

-- ---- a slot's bytes, and the buffers of σ

module _ (m : Machine) (b : List ℕ) (σ : Conf) where
  -- the engine that they encode, with σ's own fields for the tapes that the machine lacks
  seen : Conf
  seen =
      conf (sim_in m b σ.sim) (part0 (length σ.c0) b) (part1 m (length σ.c0) (length σ.c1) b)
      (part2 m (length σ.c0) (length σ.c1) (length σ.c2) b)

  seen_bare : bare_of m seen ≡ plain_shown m b σ
  unfolding bare_sim sim_in tape_at seen
  seen_bare = λ i. conf (record {
    state = (plain_shown m b σ).sim.state;
    steps = (plain_shown m b σ).sim.steps;
    t0 = (plain_shown m b σ).sim.t0;
    t1 = pick_again (has m 1) (tape_at b 36) σ.sim.t1 no_tape i;
    t2 = pick_again (has m 2) (tape_at b 56) σ.sim.t2 no_tape i;
  }) (plain_shown m b σ).c0 (plain_shown m b σ).c1 (plain_shown m b σ).c2

  abbrev test : ℕ → Bool
  test p = holds_one m b p (sim_in m b σ.sim) (length σ.c0) (length σ.c1) (length σ.c2)

  test_says : (p : ℕ) → (test p ≡ true) ↔ (((plain_shown m b σ).sim.steps ≡ p) × EngineFits m (plain_shown m b σ))
  unfolding holds_one sim_in seen
  test_says p = (
    λ h. let q = both_split h in (eqb-true _ _ q.0, subst (EngineFits m) seen_bare (bare_fits m seen q.1)),
    λ h. both_true (eq-eqb _ _ h.0) (fits_bare m seen (subst⁻¹ (EngineFits m) seen_bare h.1)),
  )

  module _ (s : List ℕ) (p : ℕ) (passed : Passed m s σ) (h : test p ≡ true) where
    abbrev v : Simulator
    v = sim_in m b σ.sim

    f : Fitted m v (part0 (length σ.c0) b) (part1 m (length σ.c0) (length σ.c1) b) (part2 m (length σ.c0) (length σ.c1) (length σ.c2) b)
    unfolding holds_one
    f = fitted m v _ _ _ (both_split h).1

    into0 : Poured true m.symbols v.t0 (part0 (length σ.c0) b) σ.c0
    unfolding pick
    into0 = pours true m.symbols v.t0 128 b σ.c0 (λ e. f.fits0)

    into1 : Poured (has m 1) m.symbols v.t1 (part1 m (length σ.c0) (length σ.c1) b) σ.c1
    into1 = pours (has m 1) m.symbols v.t1 (place1 (length σ.c0)) b σ.c1 f.fits1

    into2 : Poured (has m 2) m.symbols v.t2 (part2 m (length σ.c0) (length σ.c1) (length σ.c2) b) σ.c2
    into2 = pours (has m 2) m.symbols v.t2 (place2 m (length σ.c0) (length σ.c1)) b σ.c2 f.fits2

    abbrev got : Conf
    got = filled m b v σ.c0 σ.c1 σ.c2

    got_accepted : engine_check m s got ≡ Ok tt
    unfolding filled fill_if pick
    got_accepted = check_holds m s got (record {
      table = passed.table;
      sizes = (λ i. sizes_fit m (into0.size i) (into1.size i) (into2.size i)) ∙ passed.sizes;
      fits = fits_again m v _ _ _ (record {
        state_in_holds = f.state_in_holds;
        steps_in = f.steps_in;
        fits0 = into0.fits refl;
        fits1 = into1.fits;
        fits2 = into2.fits;
      });
    })

    got_config : config_of m got ≡ config_of m seen
    unfolding filled fill_if pick seen
    got_config = λ i. record { state = v.state.0; steps = v.steps; tape0 = into0.same i; tape1 = into1.same i; tape2 = into2.same i }

    got_read : ReadBack plain_kind plain_meaning m s b p σ got
    unfolding filled sim_in
    got_read = record {
      accepted = got_accepted;
      at_step = ((test_says p).0 h).0;
      holds = got_config ∙ sym (config_bare m seen) ∙ ap (config_of m) seen_bare;
    }

-- ---- all together

pub plain_slots : (m : Machine) → Slots plain_kind plain_meaning m
unfolding unpack_of
plain_slots m = record {
  size = λ σ. refl;
  shows = λ b p σ. subst⁻¹ (λ x. (x ≡ true) ↔ (((plain_shown m b σ).sim.steps ≡ p) × EngineFits m (plain_shown m b σ))) (there_is (test m b σ p) _) (test_says m b σ p);
}

pub plain_under : (m : Machine) (s : List ℕ) → Bytes s → Engine plain_kind plain_meaning m s
unfolding unpack_of bare_sim
plain_under m s bytes = record {
  now_is = λ σ. refl;
  low = λ σ c. (bare_fits m σ (engine_says m s σ c).fits).steps_in;
  advances = plain_advanced m s bytes;
  reads = λ b p σ r c q.
      let t = there_says (test m b σ p) _ r q in
      subst (ReadBack plain_kind plain_meaning m s b p σ) t.1 (got_read m b σ s p (engine_says m s σ c) t.0);
  slots = plain_slots m;
}
