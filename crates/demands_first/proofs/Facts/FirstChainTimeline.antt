-- The run-length engine under a timeline: its advance, and its reading of a slot. Assumes nothing.
use Rattle.std.specs.Prelude.{◌≡◌, ◌↔◌, Bool, false, List, ℕ, ◌+◌, ◌≤◌, ◌<◌, drop, None, Ok, Some}
use Rattle.std.proofs.Math.Path.{refl, ap, subst⁻¹}
use Rattle.std.proofs.Common.{sym, ◌∙◌, subst, arith, eqb-true, eq-eqb, length-take}
use Rattle.std.proofs.Math.Bool.{true}
use Rattle.notation.specs.Choice.{pick}
use Rattle.notation.proofs.Facts.Tests.{clash, both_split, both_true}
use Rattle.notation.specs.Limits.{steps_most}
use Rattle.outcome.specs.declared.Outcome.{Outcome}
use Rattle.outcome.specs.declared.Outcome.TheVariants.{Full}
use Rattle.machine.specs.declared.Machine.{Machine}
use Rattle.table_laws.specs.WellFormed.{Bytes}
use Rattle.run_rules.specs.Model.Task.{Task, task}
use Rattle.table_machine.specs.TableMachine.{Config, blank_tape}
use Rattle.table_machine.specs.Tables.{table_of}
use Rattle.table_machine.proofs.Facts.Table.{accepted_table}
use Rattle.rle.specs.Model.Engine.{Conf, left_of, right_of, End, run_of}
use Rattle.rle.specs.Fits.{engine_check}
use Rattle.rle_refines.specs.Meaning.{Stack, stack_of, stream, tape_around, config_of, ChainFits}
use Rattle.rle_refines.specs.Statement.{Answers, verdict, halted, spent, stopped, full, Refines}
use Rattle.rle_refines.proofs.Facts.Refinement.{chain_refines}
use Rattle.rle_refines.proofs.Facts.Run.{no_fuel_verdict}
use Rattle.rle_refines.proofs.Facts.Canonical.{full_exact}
use Rattle.rle_refines.proofs.Facts.Fits.{fits_holds, holds_fits}
use Rattle.rle_refines.proofs.Facts.Operations.{Passed, engine_says}
use Rattle.timeline_rule.specs.Model.Kind.{verdict_or}
use Rattle.rle_slots.specs.Model.Advance.{ran_from, advance_of}
use Rattle.rle_slots.proofs.Facts.Advance.{advance_fits}
use Rattle.rle_slots.specs.Model.Slots.{lefts_of, rights_of, right_symbols, value_in, held_in, lent, live_in, holds_one, unpacked}
use Rattle.rle_slots.proofs.Facts.LiveRuns.{SameLive, stack_live, placed_live}
use Rattle.rle_slots.proofs.Facts.Unpack.{unpack_fits}
use Rattle.rle_slots.specs.Model.Kind.{chain_kind}
use Rattle.demands_second.proofs.Facts.ChainRun.{not_full_verdict}
use Rattle.demands_second.specs.Space.{ChainFull}
use Rattle.demands_first.specs.FirstSlots.{chain_shown, chain_meaning}
use Rattle.demands_first.proofs.Facts.FirstTimelineSpace.{there_is, there_says, Slots, Advanced, ReadBack, Engine}

-- ---- an advance

module _ (m : Machine) (s : List ℕ) (bytes : Bytes s) (n : ℕ) (σ : Conf) (checked : engine_check m s σ ≡ Ok tt) (small : σ.sim.steps + n ≤ steps_most) where
  abbrev quiet : Task
  quiet = task m s false None

  abbrev ending : End
  ending = run_of quiet n σ

  p : Passed m s σ
  p = engine_says m s σ checked

  ran : Refines quiet n σ ending
  ran = chain_refines m s bytes p.table p.single false None n σ p.fits small

  fits : ChainFits m ending.at
  fits = ran.went.kept.fits

  -- the never test's verdict there is not Full
  asked : (j : ℕ) → ¬ ((ran_from m s true 0 ending.at).outcome ≡ Full j)
  unfolding ran_from
  asked j = not_full_verdict _ _ _ _ (no_fuel_verdict (task m s true None) (accepted_table m s bytes p.table) p.single ending.at fits refl) j

  full_by : {o : Outcome} → Answers quiet n ran.made ending.at o → (j : ℕ) → verdict_or o (ran_from m s true 0 ending.at).outcome ≡ Full j
      → (ran.made < n) × (j ≡ ending.at.sim.steps) × ChainFull m s ending.at
  full_by (verdict o t v g) j q = absurd (clash t refl)
  full_by (halted t h) j q = let z : ◌≡◌ {A = ℕ} 0 1 = cc in absurd (omega arith)
  full_by (spent t h e) j q = absurd (asked j q)
  full_by (stopped a l h u r) j q = let z : ◌≡◌ {A = ℕ} 0 1 = cc in absurd (omega arith)
  full_by (full a l h u r g) j q = (l, cc, (full_exact m (table_of m s) ending.at fits a h).0 g)

  chain_advanced : Advanced chain_kind chain_meaning m s n σ (advance_of m s n σ).0 (advance_of m s n σ).1
  unfolding advance_of ran_from
  chain_advanced = record {
    made = ran.made;
    within = ran.within;
    accepted = (advance_fits m s bytes n σ checked small).accepted;
    counted = ran.went.counted;
    holds = ran.went.holds;
    full = full_by ran.answers;
  }

-- ---- the same value and the same live runs hold the same configuration

abbrev config_with : Conf → (left right : Stack) → Config
config_with σ l r = record {
  state = σ.sim.state.0;
  steps = σ.sim.steps;
  tape0 = tape_around (stream l) σ.sim.tape.cur (stream r) σ.sim.tape.head σ.sim.lowest σ.sim.highest;
  tape1 = blank_tape;
  tape2 = blank_tape;
}

-- ---- a slot's bytes, and the places of σ

module _ (m : Machine) (b : List ℕ) (σ : Conf) where
  abbrev h : Conf
  h = held_in (lefts_of σ) (rights_of σ) b

  shown_is : h ≡ chain_shown m b σ
  unfolding value_in
  shown_is = refl

  abbrev test : ℕ → Bool
  test p = holds_one m (lefts_of σ) (rights_of σ) b p

  test_says : (p : ℕ) → (test p ≡ true) ↔ (((chain_shown m b σ).sim.steps ≡ p) × ChainFits m (chain_shown m b σ))
  unfolding holds_one value_in
  test_says p = (
    λ e. let q = both_split e in (eqb-true _ _ q.0, fits_holds m h q.1),
    λ e. both_true (eq-eqb _ _ e.0) (holds_fits m h e.1),
  )

  -- its live runs in the places of σ
  abbrev got : Conf
  got = live_in h (lent σ.ls σ.ll σ.rs σ.rl)

  module _ (f : ChainFits m h) where
    in_left : h.sim.tape.left ≤ lefts_of σ
    in_left = omega (arith, f.lefts.live, length-take (lefts_of σ) (drop 128 b))

    in_right : h.sim.tape.right ≤ rights_of σ
    in_right = omega (arith, f.rights.live, length-take (rights_of σ) (drop (right_symbols (lefts_of σ)) b))

    live : SameLive h got
    live = placed_live h (lent σ.ls σ.ll σ.rs σ.rl) f.lefts.live f.rights.live in_left in_right

    lefts_live : stack_of (left_of got) ≡ stack_of (left_of h)
    lefts_live = stack_live h.ls h.ll got.ls got.ll h.sim.tape.left live.ls live.ll

    rights_live : stack_of (right_of got) ≡ stack_of (right_of h)
    rights_live = stack_live h.rs h.rl got.rs got.rl h.sim.tape.right live.rs live.rl

    got_config : config_of got ≡ config_of h
    got_config = λ i. config_with h (lefts_live i) (rights_live i)

  got_read : (s : List ℕ) (p : ℕ) (r : Conf) → engine_check m s σ ≡ Ok tt → pick (test p) (Some got) None ≡ Some r → ReadBack chain_kind chain_meaning m s b p σ r
  unfolding unpacked
  got_read s p r c q =
      let t = there_says (test p) got r q in
      let u = unpack_fits m s b p σ c r (sym q) in
      let f : ChainFits m h = subst⁻¹ (ChainFits m) shown_is ((test_says p).0 t.0).1 in
      record {
        accepted = u.again.accepted;
        at_step = u.steps;
        holds = ap config_of (sym t.1) ∙ got_config f ∙ ap config_of shown_is;
      }

-- ---- all together

pub chain_slots : (m : Machine) → Slots chain_kind chain_meaning m
unfolding unpacked
chain_slots m = record {
  size = λ σ. refl;
  shows = λ b p σ. subst⁻¹ (λ x. (x ≡ true) ↔ (((chain_shown m b σ).sim.steps ≡ p) × ChainFits m (chain_shown m b σ))) (there_is (test m b σ p) _) (test_says m b σ p);
}

pub chain_under : (m : Machine) (s : List ℕ) → Bytes s → Engine chain_kind chain_meaning m s
unfolding unpacked
chain_under m s bytes = record {
  now_is = λ σ. refl;
  low = λ σ c. (engine_says m s σ c).fits.steps_in;
  advances = chain_advanced m s bytes;
  reads = λ b p σ r c q. got_read m b σ s p r c q;
  slots = chain_slots m;
}
