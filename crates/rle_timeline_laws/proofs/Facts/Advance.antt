-- The law of the run-length engine's advance: steps of the table machine up to the first that is full, and the verdict where it ends. Assumes nothing.
use Rattle.std.specs.Prelude.{◌≡◌, true, false, List, None}
use Rattle.std.proofs.Math.Path.{refl, ap}
use Rattle.std.proofs.Common.{sym, ◌∙◌, subst, arith}
use Prim.Native.Nat.{ℕ, zero, suc, ◌+◌, ◌≤◌, ◌^◌}
use Rattle.notation.proofs.Facts.Tests.{clash}
use Rattle.symbol.specs.declared.State.{State}
use Rattle.outcome.specs.declared.Outcome.{Outcome}
use Rattle.outcome.specs.declared.Outcome.TheVariants.{Full}
use Rattle.outcome.specs.Numbers.{steps_of}
use Rattle.machine.specs.declared.Machine.{Machine}
use Rattle.table_machine.specs.TableMachine.{run, Verdict, halts}
use Rattle.table_machine.specs.Tables.{table_of, TableOf}
use Rattle.table_machine.proofs.Facts.Run.{run_suc}
use Rattle.run_rules.specs.Model.Task.{Task, task, matches}
use Rattle.rle.specs.Model.Engine.{Conf, End, run_of}
use Rattle.rle_refines.specs.Meaning.{config_of, ChainFits}
use Rattle.rle_refines.specs.Statement.{after, FullAfter, Kept, Answers, verdict, halted, spent, stopped, full, Refines}
use Rattle.rle_refines.proofs.Facts.Refinement.{run_refines}
use Rattle.rle_refines.proofs.Facts.Run.{no_fuel_verdict}
use Rattle.rle_refines.proofs.Facts.Space.{Ends, lacks_space, goes_through, run_ends_so}
use Rattle.timeline_rule.specs.Model.Kind.{verdict_or}
use Rattle.timeline_laws.specs.Automaton.{iterate, IsFull}
use Rattle.timeline_laws.specs.Laws as Law
use Rattle.timeline_laws.specs.Laws.{Advance}
use Rattle.timeline_laws.specs.TableRun.{machine}
use Rattle.rle_slots.specs.Model.Advance.{ran_from, tested, advance_of}
use Rattle.rle_slots.specs.Model.Slots.{lefts_of, rights_of}
use Rattle.rle_timeline_laws.specs.Meaning.{Meant, meant, mean_of, next_of, NoRoom}

-- ---- a run keeps the places

module _ (m : Machine) (σ e : Conf) (k : Kept m σ e) where
  pub same_lefts : lefts_of e ≡ lefts_of σ
  same_lefts = omega (arith, k.same_ls, k.same_ll)

  pub same_rights : rights_of e ≡ rights_of σ
  same_rights = omega (arith, k.same_rs, k.same_rl)

module _ (m : Machine) (s : List ℕ) where
  -- n steps of the meaning are n steps of the table machine
  pub next_run : (n : ℕ) (x : Meant) → iterate (next_of m s) n x ≡ meant (run (table_of m s) n x.config) x.lefts x.rights
  unfolding iterate run
  next_run zero x = refl
  next_run (suc n) x = ap (next_of m s) (next_run n x) ∙ ap (λ c. meant c x.lefts x.rights) (sym (run_suc (table_of m s) n x.config))

  -- a run without the never test, and with it; neither has a stop rule
  abbrev quiet : Task
  quiet = task m s false None

  abbrev asking : Task
  asking = task m s true None

  unruled : (q : State) → matches None q ≡ false
  unfolding matches
  unruled q = refl

  -- an advance leaves the engine value at which the run ends
  pub advance_at : (n : ℕ) (σ : Conf) → (advance_of m s n σ).1 ≡ (run_of quiet n σ).at
  unfolding advance_of ran_from
  advance_at n σ = refl

  module _ (table : TableOf m (table_of m s)) (single : m.tapes ≡ 1) where
    -- ---- the answer: halted, or the verdict of the never test where all the fuel is used

    asked : (e : Conf) → ChainFits m e → Verdict m.tapes (table_of m s) (config_of e) (ran_from m s true 0 e).outcome
    unfolding ran_from
    asked e f = no_fuel_verdict asking table single e f refl

    judged : {o : Outcome} (n made : ℕ) (e : Conf) → ChainFits m e → Answers quiet n made e o → ((k : ℕ) → ¬ (o ≡ Full k))
        → Verdict m.tapes (table_of m s) (config_of e) (verdict_or o (ran_from m s true 0 e).outcome)
    judged n made e f (verdict _ t v g) u = absurd (clash t refl)
    judged n made e f (halted t h) u = halts h
    judged n made e f (spent t h q) u = asked e f
    judged n made e f (stopped a l h x q) u = absurd (clash q (unruled _))
    judged n made e f (full a l h x q g) u = absurd (u _ refl)

    -- ---- the steps made

    module _ (n : ℕ) (σ : Conf) (f : ChainFits m σ) (small : σ.sim.steps + n ≤ 2 ^ 62) where
      abbrev ended : End
      ended = run_of quiet n σ

      refined : Refines quiet n σ ended
      refined = run_refines quiet table single n σ f small

      pub kept : Kept m σ (run_of quiet n σ).at
      kept = refined.went.kept

      -- where the run ends after j steps, by its configuration
      means : (j : ℕ) → config_of ended.at ≡ after quiet j σ → mean_of ended.at ≡ iterate (next_of m s) j (mean_of σ)
      means j q = (λ i. meant (q i) (same_lefts m σ ended.at kept i) (same_rights m σ ended.at kept i)) ∙ sym (next_run j (mean_of σ))

      open_at : (j : ℕ) → ¬ (FullAfter quiet j σ) → ¬ NoRoom m s (iterate (next_of m s) j (mean_of σ))
      open_at j r k = r (subst (NoRoom m s) (next_run j (mean_of σ)) k)

      -- the law for the answer and the engine of an advance of n steps
      abbrev Way : Outcome × Conf → Type 0
      Way r = Advance (machine m s table) Meant (λ x. x.config) (next_of m s) (NoRoom m s) n (mean_of σ) r.0 (mean_of r.1)

      way : Ends quiet refl unruled n σ ended → Way (tested m s ended)
      way (lacks_space made l o h r g) =
          let q : (tested m s ended).0 ≡ Full ended.at.sim.steps = ap (λ x. verdict_or x (ran_from m s true 0 ended.at).outcome) o in
          Law.full made l (λ j i. open_at j (r j i)) (subst (NoRoom m s) (sym (next_run made (mean_of σ))) g) (means made h) (subst IsFull (sym q) refl) (ap steps_of q)
      way (goes_through u h r) = Law.went (λ j l. open_at j (r j l)) (means n h) (judged n refined.made ended.at kept.fits refined.answers u)

      pub advance_law : Way (advance_of m s n σ)
      unfolding advance_of ran_from
      advance_law = way (run_ends_so quiet refl unruled n σ table single f small)
