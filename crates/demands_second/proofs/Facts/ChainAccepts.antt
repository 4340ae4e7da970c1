-- The run-length engine answers every input that document 01 accepts. Assumes nothing.
use Rattle.symbol.specs.declared.State.{State}
use Rattle.std.specs.Prelude.{◌≡◌, List, ℕ, suc, ◌+◌, ◌-◌, ◌≤◌, ◌^◌, ℤ, length, Ok, Option}
use Rattle.std.proofs.Math.Path.{ap}
use Rattle.std.proofs.Math.Bool.{true}
use Rattle.std.proofs.Common.{arith}
use borrow.Author.Tests.{le-leb, eq-eqb}
use Rattle.notation.specs.Choice.{pick}
use Rattle.notation.proofs.Facts.Tests.{both_true}
use Rattle.symbol.specs.Kinds.{symbol_of}
use Rattle.symbol.specs.Model.{raised_of}
use Rattle.symbol.specs.declared.Symbol.{Symbol}
use Rattle.outcome.specs.declared.Outcome.{Outcome}
use Rattle.machine.specs.declared.Machine.{Machine}
use Rattle.table_laws.specs.WellFormed.{WellFormed}
use Rattle.table_laws.proofs.Facts.CheckExact.{table_check_accepts}
use Rattle.tape.specs.declared.Span.{Span}
use Rattle.run_rules.specs.Model.Task.{task}
use Rattle.table_machine.specs.TableMachine.{start_tape}
use Rattle.rle_stack.specs.Model.{Side, side, places_of}
use Rattle.rle.specs.declared.ChainSim.{ChainSim}
use Rattle.rle.specs.Model.Engine.{Conf, End, run_of}
use Rattle.rle.specs.Fits.{places_fit, engine_check, run_check}
use Rattle.rle.specs.Model.Operations.{given, run_on, run_answer, word_of, runs_of, fresh_sizes, fresh_check, fresh_sim, made, made_with, fresh_on, new_answer}
use Rattle.rle.specs.Model.Questions.{raised_cell, span_of, count_of, get_answer, extent_answer, count_answer}
use Rattle.rle_refines.specs.Meaning.{Stack, empty}
use Rattle.rle_refines.specs.Full.{height, Stacked}
use Rattle.rle_refines.proofs.Facts.WordStack.{word_stack, word_stacked, word_height}
use Rattle.rle_refines.proofs.Facts.Operations.{Passed, engine_passes}
use Rattle.demands_second.specs.Accepts.{WordOf, FreshPlaces, ChainTaken}
use Rattle.demands_second.proofs.Facts.PlainAccepts.{word-passes, fuel_passes}

-- ---- a fresh engine

-- every word has a right stack
pub right_stack : (m : Machine) (w : List ℕ) → WordOf m w → (r : Stack) × Stacked m.symbols (start_tape w) empty r
right_stack m w o = (word_stack w, word_stacked m.symbols w (λ i h. o.symbols (suc i) h))

module _ (m : Machine) (s w ls ll rs rl : List ℕ) (t : WellFormed m s) (o : WordOf m w) (f : FreshPlaces m w ls ll rs rl) where
  sizes_pass : fresh_sizes w (places_of ls ll) (places_of rs rl) ≡ true
  unfolding fresh_sizes
  sizes_pass =
      let h : height f.right ≡ runs_of w (length w - 1) 0 0 = word_height m.symbols w empty f.right f.stacked in
      both_true (le-leb _ _ f.lefts) (both_true (le-leb _ _ f.rights) (le-leb (runs_of w (length w - 1) 0 0) (places_of rs rl) (omega (arith, h, f.room))))

  fresh_passes : fresh_check m s w (places_of ls ll) (places_of rs rl) ≡ Ok tt
  unfolding fresh_check pick
  fresh_passes = rw (table_check_accepts m s t, eq-eqb m.tapes 1 f.single, word-passes m w o, sizes_pass)

  pub chain_new_answers : (v : ChainSim) × (rs' : List ℕ) × (rl' : List ℕ) × (new_answer m s w ls ll rs rl ≡ made (Ok v) rs' rl')
  unfolding new_answer
  chain_new_answers =
      let x : Side = word_of w (side rs rl 0) in
      (fresh_sim m w x.count, x.symbols, x.lengths, ap (λ c. fresh_on c rs rl (made_with m w x)) fresh_passes)

-- ---- an engine value

pub run-accepts : (m : Machine) (s : List ℕ) (fuel : ℕ) (σ : Conf) → Passed m s σ → σ.sim.steps + fuel ≤ 2 ^ 62 → run_check m s fuel σ ≡ Ok tt
unfolding run_check pick
run-accepts m s fuel σ p limit = rw (engine_passes m s σ p, fuel_passes σ.sim.steps fuel limit)

module _ (m : Machine) (s : List ℕ) (σ : Conf) (t : ChainTaken m s σ) where
  taken : Passed m s σ
  unfolding places_fit
  taken = record {
    table = table_check_accepts m s t.table;
    single = t.single;
    places = both_true (le-leb _ _ t.lefts) (le-leb _ _ t.rights);
    fits = t.value;
  }

  pub chain_asked : engine_check m s σ ≡ Ok tt
  chain_asked = engine_passes m s σ taken

  pub chain_get_answers : (z : ℤ) → (x : Symbol) × (get_answer m s z σ ≡ Ok x)
  unfolding get_answer
  chain_get_answers z = (symbol_of (raised_cell σ (raised_of z)), rw chain_asked)

  pub chain_span_answers : (x : Option Span) × (extent_answer m s σ ≡ Ok x)
  unfolding extent_answer
  chain_span_answers = (span_of σ, rw chain_asked)

  pub chain_count_answers : (n : ℕ) × (count_answer m s σ ≡ Ok n)
  unfolding count_answer
  chain_count_answers = (count_of σ, rw chain_asked)

  pub chain_run_answers : (rule : Option State) (fuel : ℕ) → σ.sim.steps + fuel ≤ 2 ^ 62 → (τ : Conf) × (o : Outcome) × (run_answer m s rule fuel σ ≡ given τ (Ok o))
  unfolding run_answer
  chain_run_answers rule fuel limit =
      let e : End = run_of (task m s true rule) fuel σ in
      (e.at, e.outcome, ap (λ c. run_on c σ e) (run-accepts m s fuel σ taken limit))
