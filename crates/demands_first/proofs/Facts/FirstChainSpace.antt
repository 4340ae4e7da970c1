-- The run-length engine's runs that end for lack of space. Assumes nothing.
use Rattle.symbol.specs.declared.State.{State}
use Rattle.outcome.specs.declared.Refusal.{Refusal}
use Rattle.std.specs.Prelude.{◌≡◌, refl, true, false, List, ℕ, ◌+◌, ◌-◌, ◌≤◌, ◌<◌, ◌^◌, Ok, Option, Result, ⊤}
use Rattle.std.proofs.Common.{sym, ◌∙◌, arith, le-leb}
use Rattle.std.proofs.Math.Path.{ap}
use Rattle.notation.specs.Choice.{pick}
use Rattle.notation.proofs.Facts.Tests.{clash, both_true}
use Rattle.outcome.specs.declared.Outcome.{Outcome}
use Rattle.outcome.specs.declared.Outcome.TheVariants.{OutOfFuel, Full}
use Rattle.machine.specs.declared.Machine.{Machine}
use Rattle.table_laws.specs.WellFormed.{Bytes}
use Rattle.run_checks.specs.Model.Sizes.{fuel_fits}
use Rattle.table_machine.specs.Tables.{table_of}
use Rattle.sim.specs.Model.Engine.{task, matches}
use Rattle.rle.specs.Model.Engine.{Conf, End, end, run_of}
use Rattle.rle.specs.Fits.{run_check}
use Rattle.rle.specs.Model.Operations.{given, run_on, run_answer}
use Rattle.rle_refines.specs.Meaning.{config_of, Alike}
use Rattle.rle_refines.specs.Statement.{Answers, verdict, halted, spent, stopped, full, Refines}
use Rattle.rle_refines.specs.Operations.{RunHolds}
use Rattle.rle_refines.proofs.Facts.Operations.{run_says, run_holds}
use Rattle.demands_second.proofs.Facts.ChainRun.{not_full_verdict, full_stays, full_there, cut_same}
use Rattle.demands_second.specs.Space.{GoesOn, ChainFull}
use Rattle.demands_first.specs.FirstSpace.{EndsFull}
use Rattle.demands_first.proofs.Facts.FirstSpace.{fuel_verdict}

module _ (m : Machine) (s : List ℕ) (bytes : Bytes s) where
  -- ---- a run that answers full

  module _ (rule : Option State) (fuel : ℕ) (σ τ : Conf) (n : ℕ) (done : run_answer m s rule fuel σ ≡ given τ (Ok (Full n))) where
    ran : Refines (task m s true rule) fuel σ (end τ (Full n))
    ran = (run_holds m s bytes rule fuel σ τ (Full n) done).refines

    ended : {o : Outcome} → o ≡ Full n → Answers (task m s true rule) fuel ran.made τ o → EndsFull m (table_of m s) (config_of σ) (config_of τ) fuel n (ChainFull m s τ)
    ended q (verdict o t v g) = absurd (not_full_verdict _ _ _ o v n q)
    ended q (halted t h) = absurd (clash refl t)
    ended q (spent t h e) = absurd (clash refl t)
    ended q (stopped a l h u r) = let z : ◌≡◌ {A = ℕ} 0 1 = cc in absurd (omega arith)
    ended q (full a l h u r g) =
        let count_is : τ.sim.steps ≡ n = cc in
        record {
          stops = record {
            made = ran.made;
            within = omega (arith, l);
            counted = sym count_is ∙ ran.went.counted;
            steps = count_is;
            reached = ran.went.holds;
            next = full_there m s bytes rule fuel σ τ n done;
          };
          going = u refl;
        }

    pub chain_full : EndsFull m (table_of m s) (config_of σ) (config_of τ) fuel n (ChainFull m s τ)
    chain_full = ended refl ran.answers

  -- ---- more fuel does not go past a full step

  module _ (rule : Option State) (a b : ℕ) (σ τ : Conf) (n : ℕ) (done : run_answer m s rule a σ ≡ given τ (Ok (OutOfFuel n)))
      (accepted : run_check m s (a + b) σ ≡ Ok tt) (more : 0 < b) (unruled : matches rule τ.sim.state ≡ false) (next : ChainFull m s τ) where
    held : RunHolds m s rule a σ τ (OutOfFuel n)
    held = run_holds m s bytes rule a σ τ (OutOfFuel n) done

    abbrev first_made : ℕ
    first_made = held.refines.made

    going_on : {o : Outcome} → o ≡ OutOfFuel n → Answers (task m s true rule) a first_made τ o → GoesOn m (table_of m s) (config_of τ) × (τ.sim.steps ≡ n)
    going_on q (verdict o t v g) = fuel_verdict _ _ _ o v n q
    going_on q (halted t h) = absurd (clash refl t)
    going_on q (spent t h e) = absurd (clash refl t)
    going_on q (stopped x l h u r) = let z : ◌≡◌ {A = ℕ} 0 1 = cc in absurd (omega arith)
    going_on q (full x l h u r g) = let z : ◌≡◌ {A = ℕ} 0 1 = cc in absurd (omega arith)

    -- b more steps are within the limit
    again_accepted : run_check m s b τ ≡ Ok tt
    unfolding run_check fuel_fits pick
    again_accepted =
        let p = run_says m s σ (a + b) accepted in
        let w = held.refines.within in
        let c = held.refines.went.counted in
        let low : b ≤ 2 ^ 62 = omega (arith, p.1) in
        let high : τ.sim.steps ≤ 2 ^ 62 - b = omega (arith, p.1, w, c) in
        rw (held.accepted, both_true (le-leb b (2 ^ 62) low) (le-leb τ.sim.steps (2 ^ 62 - b) high))

    abbrev whole : End
    whole = run_of (task m s true rule) (a + b) σ

    whole_is : run_answer m s rule (a + b) σ ≡ given whole.at (Ok whole.outcome)
    unfolding run_answer
    whole_is = ap (λ (c : Result ⊤ Refusal). run_on c σ whole) accepted

    pub chain_onward : (ω : Conf) × (run_answer m s rule (a + b) σ ≡ given ω (Ok (Full n))) × Alike τ ω
    chain_onward =
        let g = going_on refl held.refines.answers in
        let stayed : run_answer m s rule b τ ≡ given τ (Ok (Full τ.sim.steps)) = full_stays m s bytes b τ again_accepted rule more g.0 unruled next in
        let p = cut_same m s bytes rule a b σ τ τ whole.at n (Full τ.sim.steps) whole.outcome done stayed whole_is in
        (whole.at, whole_is ∙ ap (λ (o : Outcome). given whole.at (Ok o)) (sym p.0 ∙ ap Full g.1), p.1)
