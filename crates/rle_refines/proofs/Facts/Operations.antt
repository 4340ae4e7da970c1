-- The proof of the claims of Operations about `new` and `run`. Assumes nothing.
use Rattle.symbol.specs.declared.State.{State}
use Rattle.outcome.specs.declared.Refusal.{Refusal}
use Rattle.std.specs.Prelude.{◌≡◌, refl, true, List, ℕ, ◌+◌, ◌-◌, ◌≤◌, ◌<◌, ◌^◌, length, Err, Ok, Option, Result, ⊤}
use Rattle.std.proofs.Common.{ap, ◌∙◌, subst, arith}
use borrow.Author.Tests.{le-leb, eq-eqb}
use Rattle.std.proofs.Math.ListN.{get_or}
use Rattle.notation.specs.Choice.{pick}
use Rattle.notation.proofs.Facts.Tests.{both_true}
use Rattle.notation.specs.Limits.{runs_most}
use Rattle.outcome.specs.declared.NonHaltProof.{NonHaltProof}
use Rattle.outcome.specs.declared.Outcome.{Outcome}
use Rattle.outcome.specs.declared.Outcome.TheVariants.{NeverHalts}
use Rattle.machine.specs.declared.Machine.{Machine}
use Rattle.machine.specs.Model.Check.{table_check}
use Rattle.machine.proofs.Facts.Check.{ranges}
use Rattle.machine.proofs.Facts.Word.{word_says}
use Rattle.table_laws.specs.WellFormed.{Bytes}
use Rattle.table_machine.specs.TableMachine.{run, Halted}
use Rattle.table_machine.specs.Tables.{table_of}
use Rattle.run_rules.specs.Model.Task.{task}
use Rattle.rle_stack.specs.Model.{Side, side, places_of}
use Rattle.rle_stack.specs.Invariants.{SameLengths}
use Rattle.rle_stack.proofs.Facts.Sides.{same-places}
use Rattle.rle.specs.declared.ChainSim.{ChainSim}
use Rattle.rle.specs.Model.Engine.{Conf, conf, End, end, run_of}
use Rattle.rle.specs.Fits.{places_fit, value_check, engine_check, run_check}
use Rattle.rle.specs.Model.Operations.{Given, given, run_on, run_answer, laid_of, fresh_check, fresh_sim, Made, made, made_with, fresh_on, new_answer}
use Rattle.rle.proofs.Facts.OperationCases as Code
use Rattle.rle_refines.specs.Meaning.{config_of, ChainFits}
use Rattle.rle_refines.specs.Statement.{Refines, Kept}
use Rattle.rle_refines.proofs.Facts.Refinement.{chain_refines}
use Rattle.rle_refines.proofs.Facts.Run.{never_halts}
use Rattle.rle_refines.proofs.Facts.Fits.{fits_holds, holds_fits}
use Rattle.rle_refines.proofs.Facts.Fresh.{fresh_sizes_holds, fresh_holds, fresh_fits, word_all}
use Rattle.rle_refines.specs.Operations.{RunHolds, NewHolds}

-- ---- what follows from a passed check

pub record Passed (m : Machine) (s : List ℕ) (σ : Conf) : Type 0 where
  pub table : table_check m s ≡ Ok tt
  pub single : m.tapes ≡ 1
  pub places : places_fit σ ≡ true
  pub fits : ChainFits m σ

module _ (m : Machine) (s : List ℕ) (σ : Conf) where
  held : Code.Passed m s σ → Passed m s σ
  held p = record { table = p.table; single = p.tapes; places = p.places; fits = fits_holds m σ p.fits }

  pub engine_says : engine_check m s σ ≡ Ok tt → Passed m s σ
  engine_says e = held (Code.engine_says m s σ e)

  pub engine_passes : Passed m s σ → engine_check m s σ ≡ Ok tt
  unfolding engine_check value_check pick
  engine_passes p = rw (p.table, eq-eqb m.tapes 1 p.single, p.places, holds_fits m σ p.fits)

  pub run_says : (fuel : ℕ) → run_check m s fuel σ ≡ Ok tt → Passed m s σ × (σ.sim.steps + fuel ≤ 2 ^ 62)
  run_says fuel e =
      let p = Code.run_says m s fuel σ e in
      (held p.0, p.1)

-- the check of the places depends on their numbers alone
places_kept : (σ τ : Conf) → places_of τ.ls τ.ll ≡ places_of σ.ls σ.ll → places_of τ.rs τ.rl ≡ places_of σ.rs σ.rl → places_fit σ ≡ true → places_fit τ ≡ true
unfolding places_fit
places_kept σ τ l r e = rw (l, r) e

-- ---- the run

accepted-run : (c : Result ⊤ Refusal) (σ : Conf) (e : End) (τ : Conf) (o : Outcome) → run_on c σ e ≡ given τ (Ok o) → (c ≡ Ok tt) × (given e.at (Ok e.outcome) ≡ given τ (Ok o))
accepted-run (Err why) σ e τ o h =
    let k = ap (λ (g : Given). g.answer) h in
    let z : ◌≡◌ {A = ℕ} 0 1 = cc in absurd (omega arith)
accepted-run (Ok tt) σ e τ o h = (refl, h)

module _ (m : Machine) (s : List ℕ) (bytes : Bytes s) (rule : Option State) (fuel : ℕ) (σ τ : Conf) (o : Outcome)
    (done : run_answer m s rule fuel σ ≡ given τ (Ok o)) where
  abbrev ending : End
  ending = run_of (task m s true rule) fuel σ

  answered : (run_check m s fuel σ ≡ Ok tt) × (given ending.at (Ok ending.outcome) ≡ given τ (Ok o))
  unfolding run_answer
  answered = accepted-run _ _ _ _ _ done

  passed : Passed m s σ × (σ.sim.steps + fuel ≤ 2 ^ 62)
  passed = run_says m s σ fuel answered.0

  says_is : ending.outcome ≡ o
  says_is = let k = ap (λ (g : Given). g.answer) answered.1 in cc

  end_is : ending ≡ end τ o
  end_is = λ i. record { at = ap (λ (g : Given). g.at) answered.1 i; outcome = says_is i }

  refined : Refines (task m s true rule) fuel σ (end τ o)
  refined = subst (Refines (task m s true rule) fuel σ) end_is (chain_refines m s bytes passed.0.table passed.0.single true rule fuel σ passed.0.fits passed.1)

  pub run_holds : RunHolds m s rule fuel σ τ o
  run_holds =
      let k : Kept m σ τ = refined.went.kept in
      record {
        refines = refined;
        accepted = engine_passes m s τ (record {
          table = passed.0.table;
          single = passed.0.single;
          places = places_kept σ τ (omega (arith, k.same_ls, k.same_ll)) (omega (arith, k.same_rs, k.same_rl)) passed.0.places;
          fits = k.fits;
        });
      }

  -- "`never` means never": from where the run began, the table machine halts at no step
  pub run_never_halts : (n : ℕ) (p : NonHaltProof) → o ≡ NeverHalts n p → (j : ℕ) → ¬ (Halted (table_of m s) (run (table_of m s) j (config_of σ)))
  run_never_halts n p e = never_halts m s bytes passed.0.table passed.0.single true rule fuel σ passed.0.fits passed.1 n p (says_is ∙ e)

-- ---- a fresh engine

accepted-fresh : (c : Result ⊤ Refusal) (rs rl : List ℕ) (d : Made) (v : ChainSim) (rs' rl' : List ℕ) → fresh_on c rs rl d ≡ made (Ok v) rs' rl' → (c ≡ Ok tt) × (d ≡ made (Ok v) rs' rl')
accepted-fresh (Err why) rs rl d v rs' rl' e =
    let k = ap (λ (g : Made). g.answer) e in
    let z : ◌≡◌ {A = ℕ} 0 1 = cc in absurd (omega arith)
accepted-fresh (Ok tt) rs rl d v rs' rl' e = (refl, e)

module _ (m : Machine) (s w ls ll rs rl : List ℕ) (v : ChainSim) (rs' rl' : List ℕ) (done : new_answer m s w ls ll rs rl ≡ made (Ok v) rs' rl') where
  abbrev right : Side
  right = laid_of w (length w - 1) (side rs rl 0)

  abbrev engine : Conf
  engine = conf (fresh_sim m w right.count) ls ll right.symbols right.lengths

  new_answered : (fresh_check m s w (places_of ls ll) (places_of rs rl) ≡ Ok tt) × (made_with m w right ≡ made (Ok v) rs' rl')
  unfolding new_answer
  new_answered = accepted-fresh _ _ _ _ _ _ _ done

  engine_is : engine ≡ conf v ls ll rs' rl'
  engine_is =
      let q : fresh_sim m w right.count ≡ v = sim_is in
      λ i. conf (q i) ls ll (ap (λ (g : Made). g.rs) new_answered.1 i) (ap (λ (g : Made). g.rl) new_answered.1 i)
    where
      sim_is : fresh_sim m w right.count ≡ v
      sim_is = let k = ap (λ (g : Made). g.answer) new_answered.1 in cc

  new_engine : NewHolds m s w rs rl engine
  unfolding places_fit
  new_engine =
      let g : Code.FreshPassed m s w (places_of ls ll) (places_of rs rl) = Code.fresh_says m s w (places_of ls ll) (places_of rs rl) new_answered.0 in
      let r = ranges m s g.table in
      let p = word_says m.symbols w g.word in
      let all : (i : ℕ) → get_or w i 0 < m.symbols = word_all m.symbols w r.symbols_low p.1 in
      let fits : ChainFits m engine = fresh_fits m w ls ll rs rl all p.0 r.start_in g.room in
      let same : SameLengths (side rs rl 0) right = fresh_sizes_holds m w ls ll rs rl all p.0 r.start_in g.room in
      let few : places_of right.symbols right.lengths ≤ runs_most = omega (arith, same-places same, g.rights) in
      record {
        holds = fresh_holds m w ls ll rs rl all p.0 r.start_in g.room;
        fits = fits;
        accepted = engine_passes m s engine (record {
          table = g.table;
          single = g.tapes;
          places = both_true (le-leb _ _ g.lefts) (le-leb _ _ few);
          fits = fits;
        });
        same_rs = same.symbols;
        same_rl = same.lengths;
      }

  pub new_holds : NewHolds m s w rs rl (conf v ls ll rs' rl')
  new_holds = subst (NewHolds m s w rs rl) engine_is new_engine
