-- The operations' answers, and what the checks give where they pass. Assumes nothing.
use Rattle.symbol.specs.declared.State.{State}
use Rattle.std.specs.Prelude.{◌≡◌, true, List, ℕ, ◌+◌, ◌-◌, ◌≤◌, ◌<◌, length, get_or, Err, Ok, Option, Result, ⊤}
use Rattle.std.proofs.Common.{sym, ◌∙◌, arith, leb-true, eqb-true}
use Rattle.notation.proofs.Facts.Tests.{both_split}
use Rattle.notation.specs.Limits.{steps_most, word_most, runs_most, slack, raised_zero}
use Rattle.outcome.specs.declared.Outcome.{Outcome}
use Rattle.outcome.specs.declared.Refusal.{Refusal}
use Rattle.machine.specs.declared.Machine.{Machine}
use Rattle.machine.specs.Layout.{stride_of}
use Rattle.machine.specs.Model.Check.{table_check}
use Rattle.machine.proofs.Facts.Check.{demand_says, on_says, Ranges, ranges}
use Rattle.machine.specs.Model.Word.{word_check}
use Rattle.machine.proofs.Facts.Word.{word_says}
use Rattle.run_rules.specs.Model.Task.{task}
use Rattle.run_checks.proofs.Facts.SizesCases.{fuel_says}
use Rattle.rle_stack.specs.Model.{Side, side, places_of}
use Rattle.rle_stack.specs.Invariants.{SideOk}
use Rattle.rle.specs.Model.Engine.{Conf, end, run_of}
use Rattle.rle.specs.Invariants.{SidesOk, CountsOk, RunOk}
use Rattle.rle.specs.Fits.{side_fits, head_fits, counts_fit, chain_fits, places_fit, value_check, engine_check, run_check}
use Rattle.rle.specs.Model.Operations.{given, run_answer, runs_of, word_of, fresh_sizes, fresh_check, start_sim, Made, made, new_answer}

-- ---- a value that passed the check

pub record Passed (m : Machine) (s : List ℕ) (σ : Conf) : Type 0 where
  pub table : table_check m s ≡ Ok tt
  pub tapes : m.tapes ≡ 1
  pub places : places_fit σ ≡ true
  pub fits : chain_fits m σ ≡ true

value_says : (m : Machine) (s : List ℕ) (σ : Conf) → table_check m s ≡ Ok tt → value_check m σ ≡ Ok tt → Passed m s σ
unfolding value_check
value_says m s σ t e =
    let a = demand_says _ _ _ e in
    let b = demand_says _ _ _ a.1 in
    record { table = t; tapes = eqb-true _ _ a.0; places = b.0; fits = (demand_says _ _ _ b.1).0 }

pub engine_says : (m : Machine) (s : List ℕ) (σ : Conf) → engine_check m s σ ≡ Ok tt → Passed m s σ
unfolding engine_check
engine_says m s σ e = let t = on_says _ _ e in value_says m s σ t.0 t.1

pub run_says : (m : Machine) (s : List ℕ) (fuel : ℕ) (σ : Conf) → run_check m s fuel σ ≡ Ok tt → Passed m s σ × (σ.sim.steps + fuel ≤ steps_most)
unfolding run_check
run_says m s fuel σ e =
    let t = on_says _ _ e in
    (engine_says m s σ t.0, fuel_says _ fuel (demand_says _ _ _ t.1).0)

-- ---- the bounds of a run, from the check

side_says : (k most : ℕ) (ss ls : List ℕ) (n : ℕ) → side_fits k (places_of ss ls) most (side ss ls n) ≡ true → SideOk (places_of ss ls) most (side ss ls n)
unfolding side_fits
side_says k most ss ls n e =
    let a = both_split e in
    record { live = leb-true _ _ a.0; symbols_in = omega arith; lengths_in = omega arith; cells_in = leb-true _ _ (both_split a.1).1 }

pub sides_ok : (m : Machine) (σ : Conf) → chain_fits m σ ≡ true → SidesOk σ
unfolding chain_fits
sides_ok m σ e =
    let a = both_split (both_split e).1 in
    let b = both_split a.1 in
    record {
      left = side_says m.symbols (σ.sim.steps + slack) σ.ls σ.ll σ.sim.tape.left b.0;
      right = side_says m.symbols (σ.sim.steps + slack) σ.rs σ.rl σ.sim.tape.right (both_split b.1).0;
    }

pub steps_ok : (m : Machine) (σ : Conf) → chain_fits m σ ≡ true → σ.sim.steps ≤ steps_most
unfolding chain_fits counts_fit
steps_ok m σ e = leb-true σ.sim.steps steps_most (both_split (both_split (both_split e).0).1).0

pub counts_ok : (m : Machine) (σ : Conf) (fuel : ℕ) → chain_fits m σ ≡ true → σ.sim.steps + fuel ≤ steps_most → CountsOk σ.sim fuel
unfolding chain_fits counts_fit head_fits
counts_ok m σ fuel e h =
    let c = both_split (both_split (both_split (both_split e).0).1).1 in
    let d = both_split (both_split (both_split e).1).0 in
    let f = both_split d.1 in
    let g = both_split f.1 in
    record {
      steps_in = h;
      fewer = leb-true _ _ c.0;
      above = omega (arith, leb-true σ.sim.lowest σ.sim.tape.head d.0, leb-true (raised_zero - σ.sim.steps) σ.sim.lowest g.0);
      below = omega (arith, leb-true σ.sim.tape.head σ.sim.highest f.0, leb-true σ.sim.highest (raised_zero + σ.sim.steps) g.1);
    }

pub stride_ok : (m : Machine) (s : List ℕ) (fuel : ℕ) (σ : Conf) (r : Result ⊤ Refusal) → r ≡ run_check m s fuel σ → r ≡ Ok tt → (1 ≤ m.tapes) × (m.tapes ≤ 3) × (m.symbols ≤ 256)
stride_ok m s fuel σ r e a =
    let g : Ranges m s = ranges m s (run_says m s fuel σ (sym e ∙ a)).0.table in
    (g.tapes_low, g.tapes_high, g.symbols_high)

pub run_ok : (m : Machine) (s : List ℕ) (fuel : ℕ) (σ : Conf) (r : Result ⊤ Refusal) (stride : ℕ) → r ≡ run_check m s fuel σ → r ≡ Ok tt → stride ≡ stride_of m → stride ≤ 16777216
    → RunOk m stride σ fuel
run_ok m s fuel σ r stride e a k l =
    let p = run_says m s fuel σ (sym e ∙ a) in
    record {
      table = record { symbols_in = (ranges m s p.0.table).symbols_high; stride_is = k; stride_in = l };
      sides = sides_ok m σ p.0.fits;
      counts = counts_ok m σ fuel p.0.fits p.1;
    }

-- ---- the answers

module _ (m : Machine) (s : List ℕ) (rule : Option State) (fuel : ℕ) (σ : Conf) (r : Result ⊤ Refusal) (checked : r ≡ run_check m s fuel σ) where
  pub ran_refused : (why : Refusal) → r ≡ Err why → given σ (Err why) ≡ run_answer m s rule fuel σ
  unfolding run_answer
  ran_refused why e = rw (← checked, e)

  pub ran_done : (τ : Conf) (o : Outcome) → r ≡ Ok tt → end τ o ≡ run_of (task m s true rule) fuel σ → given τ (Ok o) ≡ run_answer m s rule fuel σ
  unfolding run_answer
  ran_done τ o a e = rw (← checked, a, ← e)

-- ---- a fresh engine

pub record FreshPassed (m : Machine) (s w : List ℕ) (l r : ℕ) : Type 0 where
  pub table : table_check m s ≡ Ok tt
  pub tapes : m.tapes ≡ 1
  pub word : word_check m.symbols w ≡ Ok tt
  pub lefts : l ≤ runs_most
  pub rights : r ≤ runs_most
  -- the word's runs have places
  pub room : runs_of w (length w - 1) 0 0 ≤ r

pub fresh_says : (m : Machine) (s w : List ℕ) (l r : ℕ) → fresh_check m s w l r ≡ Ok tt → FreshPassed m s w l r
unfolding fresh_check fresh_sizes
fresh_says m s w l r e =
    let a = on_says _ _ e in
    let b = demand_says _ _ _ a.1 in
    let c = on_says _ _ b.1 in
    let d = both_split (demand_says _ _ _ c.1).0 in
    let f = both_split d.1 in
    record {
      table = a.0;
      tapes = eqb-true _ _ b.0;
      word = c.0;
      lefts = leb-true _ _ d.0;
      rights = leb-true _ _ f.0;
      room = leb-true _ _ f.1;
    }

pub fresh_start : (m : Machine) (s w : List ℕ) (l r : ℕ) (c : Result ⊤ Refusal) → c ≡ fresh_check m s w l r → c ≡ Ok tt → m.start < 65536
fresh_start m s w l r c e a =
    let g : Ranges m s = ranges m s (fresh_says m s w l r (sym e ∙ a)).table in
    omega (arith, g.start_in, g.states_high)

abbrev made_at : Machine → Side → (cur : ℕ) → Made
made_at m x cur = made (Ok (start_sim m cur x.count)) x.symbols x.lengths

module _ (m : Machine) (s w ls ll rs rl : List ℕ) (lp rp : ℕ) (lq : lp ≡ places_of ls ll) (rq : rp ≡ places_of rs rl) (r : Result ⊤ Refusal) (checked : r ≡ fresh_check m s w lp rp) where
  here : r ≡ fresh_check m s w (places_of ls ll) (places_of rs rl)
  here = checked ∙ (λ i. fresh_check m s w (lq i) (rq i))

  pub new_refused : (why : Refusal) → r ≡ Err why → made (Err why) rs rl ≡ new_answer m s w ls ll rs rl
  unfolding new_answer
  new_refused why e = rw (← here, e)

  module _ (passed : r ≡ Ok tt) where
    pub new_lays : (length w ≤ word_most) × (runs_of w (length w - 1) 0 0 ≤ places_of rs rl)
    new_lays =
        let p : FreshPassed m s w (places_of ls ll) (places_of rs rl) = fresh_says m s w (places_of ls ll) (places_of rs rl) (sym here ∙ passed) in
        ((word_says m.symbols w p.word).0, p.room)

    pub new_made : (x : Side) (cur : ℕ) → x ≡ word_of w (side rs rl 0) → cur ≡ get_or w 0 0 → made_at m x cur ≡ new_answer m s w ls ll rs rl
    unfolding new_answer
    new_made x cur e f = (λ i. made_at m (e i) (f i)) ∙ rw (← here, passed)
