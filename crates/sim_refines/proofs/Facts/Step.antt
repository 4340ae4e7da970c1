-- A step of the engine is a step of the table machine, and the engine fits after it. Assumes nothing.
use Rattle.std.specs.Prelude.{◌≡◌, refl, Bool, false, List, ℕ, ◌+◌, ◌≤◌, ◌<◌, ◌^◌, length, Some}
use Rattle.std.proofs.Common.{sym, ◌∙◌, arith, ltb-false, le-ltb}
use Rattle.std.proofs.Math.Path.{ap, subst⁻¹}
use Rattle.std.proofs.Math.Bool.{true}
use Rattle.std.proofs.Math.Numerals.{add-one}
use Rattle.notation.proofs.Facts.Tests.{clash}
use Rattle.symbol.specs.declared.Dir.{Dir}
use Rattle.symbol.specs.declared.Dir.TheVariants.{N}
use Rattle.machine.specs.declared.Machine.{Machine}
use Rattle.machine.specs.declared.Action.{Action}
use Rattle.table_laws.specs.WellFormed.{ActionOf}
use Rattle.table_machine.specs.TableMachine.{blank_tape, read_t, update, entry, act}
use Rattle.table_machine.specs.Tables.{table_of, TableOf, Bare}
use Rattle.table_machine.proofs.Facts.Tape.{blank_stays}
use Rattle.tape.specs.Model.Moves.{Held, held, no_tape, read_of, room_for, act_of}
use Rattle.tape.proofs.Facts.Moves.{none_reads, none_acts, act_fits, length-act}
use Rattle.sim.specs.Model.Engine.{Conf, tape0, tape1, tape2, entry_of, roomy_of, step_of}
use Rattle.sim.proofs.Facts.EngineCases.{rooms_each}
use Rattle.sim_refines.specs.Meaning.{has, tape_if, config_of, FitsIf, EngineFits}
use Rattle.sim_refines.specs.Statement.{Kept}
use Rattle.sim_refines.proofs.Facts.Tape.{read_tape, act_tape}

-- ---- one tape that the machine has or lacks

pub read_if : (b : Bool) (k : ℕ) (h : Held) → FitsIf b k h → read_t (tape_if b h) ≡ read_of h
read_if true k h f = read_tape h f.head_in
read_if false k h f = sym (ap (λ t. read_of (held t h.cells)) f ∙ none_reads h.cells)

record Acted (b : Bool) (k : ℕ) (h : Held) (w : ℕ) (d : Dir) : Type 0 where
  tape : tape_if b (act_of h w d) ≡ update (tape_if b h) w d
  fits : FitsIf b k (act_of h w d)
  left : b ≡ false → act_of h w d ≡ h

act_if : (b : Bool) (k : ℕ) (h : Held) (w : ℕ) (d : Dir) → FitsIf b k h → w < k → room_for h.tape (length h.cells) d ≡ true → (b ≡ false → (w ≡ 0) × (d ≡ N))
    → Acted b k h w d
act_if true k h w d f s r l = record { tape = act_tape k h w d f r; fits = act_fits k h w d f s r; left = λ e. absurd (clash refl e) }
act_if false k h w d f s r l =
    let e : act_of h w d ≡ h = ap (λ t. act_of (held t h.cells) w d) f ∙ none_acts h.cells w d ∙ sym (ap (λ t. held t h.cells) f) in
    record {
      tape = sym ((λ i. update blank_tape ((l refl).0 i) ((l refl).1 i)) ∙ blank_stays);
      fits = subst⁻¹ (λ g. g.tape ≡ no_tape) e f;
      left = λ z. e;
    }

-- ---- the engine

-- the tapes that the machine lacks are blank in the configuration held
pub bare_config : (m : Machine) (σ : Conf) → Bare m.tapes (config_of m σ)
bare_config m σ = record { second = λ l. rw (le-ltb 1 m.tapes (omega arith)); third = λ l. rw (le-ltb 2 m.tapes (omega arith)) }

module _ (m : Machine) (s : List ℕ) (σ : Conf) (f : EngineFits m σ) where
  -- the entry that the engine reads
  pub entry_read : entry (table_of m s) (config_of m σ) ≡ entry_of m s σ.sim.state (read_of (tape0 σ)) (read_of (tape1 σ)) (read_of (tape2 σ))
  unfolding table_of entry_of
  entry_read = λ i. table_of m s σ.sim.state.0 (read_if true m.symbols (tape0 σ) f.fits0 i) (read_if (has m 1) m.symbols (tape1 σ) f.fits1 i)
      (read_if (has m 2) m.symbols (tape2 σ) f.fits2 i)

  module _ (table : TableOf m (table_of m s)) (a : Action) (reads : entry (table_of m s) (config_of m σ) ≡ Some a) (roomy : roomy_of σ a ≡ true) where
    of_machine : ActionOf m a
    of_machine = table _ _ _ _ a reads

    acted0 : Acted true m.symbols (tape0 σ) a.write0.0 a.dir0
    acted0 = act_if true m.symbols (tape0 σ) _ _ f.fits0 of_machine.write0_in (rooms_each σ.sim _ _ _ a roomy).0 (λ e. absurd (clash refl e))

    acted1 : Acted (has m 1) m.symbols (tape1 σ) a.write1.0 a.dir1
    acted1 = act_if (has m 1) m.symbols (tape1 σ) _ _ f.fits1 of_machine.write1_in (rooms_each σ.sim _ _ _ a roomy).1 (λ e. of_machine.lacks1 (omega (arith, ltb-false 1 m.tapes e)))

    acted2 : Acted (has m 2) m.symbols (tape2 σ) a.write2.0 a.dir2
    acted2 = act_if (has m 2) m.symbols (tape2 σ) _ _ f.fits2 of_machine.write2_in (rooms_each σ.sim _ _ _ a roomy).2 (λ e. of_machine.lacks2 (omega (arith, ltb-false 2 m.tapes e)))

    -- a step of the engine is a step of the table machine
    pub step_config : config_of m (step_of σ a) ≡ act (config_of m σ) a
    unfolding step_of
    step_config = λ i. record {
      state = a.next.0;
      steps = add-one σ.sim.steps i;
      tape0 = acted0.tape i;
      tape1 = acted1.tape i;
      tape2 = acted2.tape i;
    }

    -- what the step keeps
    pub step_keeps : σ.sim.steps + 1 ≤ 2 ^ 62 → Kept m σ (step_of σ a)
    unfolding step_of
    step_keeps l = record {
      fits = record { state_in_holds = of_machine.next_in; steps_in = l; fits0 = acted0.fits; fits1 = acted1.fits; fits2 = acted2.fits };
      same_length0 = length-act (tape0 σ) _ _;
      same_length1 = length-act (tape1 σ) _ _;
      same_length2 = length-act (tape2 σ) _ _;
      left1 = λ h. ap (λ x. x.cells) (acted1.left (le-ltb 1 m.tapes (omega arith)));
      left2 = λ h. ap (λ x. x.cells) (acted2.left (le-ltb 2 m.tapes (omega arith)));
    }
