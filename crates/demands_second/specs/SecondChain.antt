-- THE SECOND DEMAND for the run-length engine. Each part is about the definitions that the contracts of its operations cite.
use Rattle.std.specs.Prelude.{◌≡◌, ◌↔◌, Bool, false, List, ℕ, ◌+◌, ◌≤◌, ◌<◌, ◌^◌, ℤ, pos, ◌+ℤ◌, length, get_or, ◌≤ℤ◌, ◌<ℤ◌, None, Ok, Option, Some}
use Rattle.notation.specs.Position.{dn}
use Rattle.symbol.specs.declared.State.{State}
use Rattle.symbol.specs.declared.Symbol.{Symbol}
use Rattle.outcome.specs.declared.NonHaltProof.{NonHaltProof}
use Rattle.outcome.specs.declared.Outcome.{Outcome}
use Rattle.outcome.specs.declared.Outcome.TheVariants.{NeverHalts, OutOfFuel, Full}
use Rattle.machine.specs.declared.Machine.{Machine}
use Rattle.table_laws.specs.WellFormed.{Bytes, WellFormed}
use Rattle.tape.specs.declared.Span.{Span}
use Rattle.tape.specs.Answers.{Spans}
use Rattle.table_machine.specs.TableMachine.{Table, Config, run, start_tape, start, Halted}
use Rattle.table_machine.specs.Tables.{table_of}
use Rattle.sim.specs.Model.Engine.{task}
use Rattle.sim_refines.specs.Counts.{Counts}
use Rattle.rle_records.specs.declared.Run.{Run}
use Rattle.rle.specs.declared.ChainSim.{ChainSim}
use Rattle.rle.specs.Model.Engine.{Conf, conf, left_of, right_of, plan_of, run_of, Macro, Go}
use Rattle.rle.specs.Fits.{engine_check, run_check}
use Rattle.rle.specs.Model.Operations.{given, run_answer, made, new_answer}
use Rattle.rle.specs.Model.Questions.{get_answer, extent_answer, count_answer, window_into}
use Rattle.rle.specs.Model.Records.{left_answer, left_into, right_answer, right_into}
use Rattle.rle_refines.specs.Meaning.{Stack, empty, stack_of, tape_of, config_of, Alike}
use Rattle.rle_refines.specs.Full.{height, Stacked}
use Rattle.rle_refines.specs.Statement.{FullWithin}
use Rattle.rle_refines.specs.Operations.{RunHolds}
use Rattle.demands_second.specs.Accepts.{WordOf, FreshPlaces, ChainTaken}
use Rattle.demands_second.specs.ChainClaims.{MacroStep, Macros, Lists}

pub record ChainEngine : Type 0 where
  -- ---- "For every table, word and engine value that document 01 accepts, with step totals up to 2^62 and while space lasts, answers and tapes equal the Rust's in
  -- differential runs, save its named departures, and both engines are proved equal to document 01's table machine.": these tables, words and engine values. The
  -- engine answers every input that document 01 accepts (Accepts); the other parts say that the answer is the table machine's

  -- a fresh engine; every word has a right stack
  pub accepts_new : (m : Machine) (s w ls ll rs rl : List ℕ) → WellFormed m s → WordOf m w → FreshPlaces m w ls ll rs rl
      → (v : ChainSim) × (rs' : List ℕ) × (rl' : List ℕ) × (new_answer m s w ls ll rs rl ≡ made (Ok v) rs' rl')
  pub right_stacks : (m : Machine) (w : List ℕ) → WordOf m w → (r : Stack) × Stacked m.symbols (start_tape w) empty r
  -- a run
  pub accepts_run : (m : Machine) (s : List ℕ) (σ : Conf) → ChainTaken m s σ → (rule : Option State) (fuel : ℕ) → σ.sim.steps + fuel ≤ 2 ^ 62
      → (τ : Conf) × (o : Outcome) × (run_answer m s rule fuel σ ≡ given τ (Ok o))
  -- the questions; `window` fills its slice (windows), and a slice of records must have a place for each run
  pub accepts_get : (m : Machine) (s : List ℕ) (σ : Conf) → ChainTaken m s σ → (z : ℤ) → (x : Symbol) × (get_answer m s z σ ≡ Ok x)
  pub accepts_span : (m : Machine) (s : List ℕ) (σ : Conf) → ChainTaken m s σ → (x : Option Span) × (extent_answer m s σ ≡ Ok x)
  pub accepts_count : (m : Machine) (s : List ℕ) (σ : Conf) → ChainTaken m s σ → (n : ℕ) × (count_answer m s σ ≡ Ok n)
  pub accepts_window : (m : Machine) (s : List ℕ) (σ : Conf) → ChainTaken m s σ → engine_check m s σ ≡ Ok tt
  pub accepts_left : (m : Machine) (s : List ℕ) (σ : Conf) → ChainTaken m s σ → (out : List Run) → height (stack_of (left_of σ)) ≤ length out
      → left_answer m s (length out) σ ≡ Ok (height (stack_of (left_of σ)))
  pub accepts_right : (m : Machine) (s : List ℕ) (σ : Conf) → ChainTaken m s σ → (out : List Run) → height (stack_of (right_of σ)) ≤ length out
      → right_answer m s (length out) σ ≡ Ok (height (stack_of (right_of σ)))
  -- ---- "and both engines are proved equal to document 01's table machine."

  -- "It starts in the start state, heads at 0, tape 0 holding the word from 0 rightward, all else blank.": a fresh engine holds that configuration, and is accepted
  pub fresh : (m : Machine) (s w ls ll rs rl : List ℕ) (v : ChainSim) (rs' rl' : List ℕ) → new_answer m s w ls ll rs rl ≡ made (Ok v) rs' rl'
      → (config_of (conf v ls ll rs' rl') ≡ start m.start w) × (engine_check m s (conf v ls ll rs' rl') ≡ Ok tt)
  -- an accepted run is a run of the table machine: configuration, step count, answer, stop rule, space; the engine handed back is accepted (RunHolds, Refines).
  -- "The stop rule is tested before the macro step, after fuel and before space."
  pub runs : (m : Machine) (s : List ℕ) → Bytes s → (rule : Option State) (fuel : ℕ) (σ τ : Conf) (o : Outcome)
      → run_answer m s rule fuel σ ≡ given τ (Ok o) → RunHolds m s rule fuel σ τ o
  -- "(none, or a `from` state, one not below n never matching)": with such a state a run answers as with none
  pub rules : (m : Machine) (s : List ℕ) → Bytes s → (p : State) (fuel : ℕ) (σ : Conf) → m.states ≤ p.0
      → run_answer m s (Some p) fuel σ ≡ run_answer m s None fuel σ
  -- where the answer is never, the table machine halts at no step
  pub never : (m : Machine) (s : List ℕ) → Bytes s → (rule : Option State) (fuel : ℕ) (σ τ : Conf) (n : ℕ) (p : NonHaltProof)
      → run_answer m s rule fuel σ ≡ given τ (Ok (NeverHalts n p)) → (j : ℕ) → ¬ (Halted (table_of m s) (run (table_of m s) j (config_of σ)))
  -- a macro step of n repeats is n steps of the table machine, head, lowest and highest included; n is as document 01 says; it counts as one (MacroStep)
  pub macro_steps : (m : Machine) (s : List ℕ) → Bytes s → (fuel : ℕ) (σ : Conf) → run_check m s fuel σ ≡ Ok tt → (proves : Bool) (rule : Option State) (j : Macro)
      → plan_of (task m s proves rule) fuel σ ≡ Go j → MacroStep (task m s proves rule) fuel σ j
  -- "`macro_steps` adds one a macro step": a run adds the number of its macro steps (Macros). Between two configurations there is only one such number
  pub macros : (m : Machine) (s : List ℕ) → Bytes s → (rule : Option State) (fuel : ℕ) (σ τ : Conf) (o : Outcome) → run_answer m s rule fuel σ ≡ given τ (Ok o)
      → (n : ℕ) × (τ.sim.macros ≡ σ.sim.macros + n) × Macros m (table_of m s) fuel (config_of σ) n (config_of τ)
  pub macros_one : (m : Machine) (d : Table) (fuel n n' : ℕ) (c e : Config) → Macros m d fuel c n e → Macros m d fuel c n' e → n ≡ n'
  -- "so it depends on how fuel was cut": fuel a and then b gives the same answer as a + b at once, and the same engine except for the macro steps and the places
  -- past the live runs (Alike)
  pub cuts : (m : Machine) (s : List ℕ) → Bytes s → (rule : Option State) (a b : ℕ) (σ τ υ ω : Conf) (n : ℕ) (o p : Outcome)
      → run_answer m s rule a σ ≡ given τ (Ok (OutOfFuel n)) → run_answer m s rule b τ ≡ given υ (Ok o) → run_answer m s rule (a + b) σ ≡ given ω (Ok p)
      → (o ≡ p) × Alike υ ω
  -- space: "Full exactly when the step's push needs a new run on a side whose live runs fill its lent places" (FullAt). A run without the never test and a stop
  -- rule, as the timeline makes it, is full exactly where one of the next `fuel` steps is; for `run` itself see FirstChain, parts full, full_exact, full_onward
  pub space : (m : Machine) (s : List ℕ) → Bytes s → (fuel : ℕ) (σ : Conf) → run_check m s fuel σ ≡ Ok tt
      → ((n : ℕ) × ((run_of (task m s false None) fuel σ).outcome ≡ Full n)) ↔ FullWithin (task m s false None) fuel σ
  -- a side has no runs exactly where every cell strictly beyond the head on that side is blank
  pub empty_left : (m : Machine) (s : List ℕ) (σ : Conf) → engine_check m s σ ≡ Ok tt
      → (σ.sim.tape.left ≡ 0) ↔ ((z : ℤ) → z <ℤ (tape_of σ).head → (tape_of σ).cell z ≡ 0)
  pub empty_right : (m : Machine) (s : List ℕ) (σ : Conf) → engine_check m s σ ≡ Ok tt
      → (σ.sim.tape.right ≡ 0) ↔ ((z : ℤ) → (tape_of σ).head <ℤ z → (tape_of σ).cell z ≡ 0)
  -- the live runs of the two sides are the stacks of the tape held; by the stack rule there are no other two
  pub stacks : (m : Machine) (s : List ℕ) (σ : Conf) → engine_check m s σ ≡ Ok tt → Stacked m.symbols (tape_of σ) (stack_of (left_of σ)) (stack_of (right_of σ))
  -- "`left()` and `right()` fill a lent slice of records: the runs of one side, topmost last, symbol and length together": the answer is their number, and the
  -- places past them are as they were (Lists)
  pub lefts : (m : Machine) (s : List ℕ) (σ : Conf) (out : List Run) (n : ℕ) → left_answer m s (length out) σ ≡ Ok n
      → Lists (stack_of (left_of σ)) n out (left_into m s σ out)
  pub rights : (m : Machine) (s : List ℕ) (σ : Conf) (out : List Run) (n : ℕ) → right_answer m s (length out) σ ≡ Ok n
      → Lists (stack_of (right_of σ)) n out (right_into m s σ out)
  -- "`get`, `non_blank`, `count_non_blank`, `window` .. answer over all of i64; a cell outside is blank": the questions read the table machine's tape. They give
  -- the cell at a position of 64 bits, the smallest range of the non-blank cells (Spans), and their number (Counts)
  pub gets : (m : Machine) (s : List ℕ) (σ : Conf) (z : ℤ) → dn z ≤ 2 ^ 63 → (x : Symbol) → get_answer m s z σ ≡ Ok x → x.0 ≡ (tape_of σ).cell z
  pub spans : (m : Machine) (s : List ℕ) (σ : Conf) (x : Option Span) → extent_answer m s σ ≡ Ok x → Spans (tape_of σ).cell x
  pub counts : (m : Machine) (s : List ℕ) (σ : Conf) (n : ℕ) → count_answer m s σ ≡ Ok n → Counts (tape_of σ).cell n
  -- "`window` fills its whole lent slice, positions past i64 blank": place j holds the cell at z + j, and past i64 the tape is blank
  pub windows : (m : Machine) (s : List ℕ) (σ : Conf) → engine_check m s σ ≡ Ok tt → (z : ℤ) → dn z ≤ 2 ^ 63 → (out : List ℕ)
      → (length (window_into m s z σ out) ≡ length out) × ((j : ℕ) → j < length out → get_or (window_into m s z σ out) j 0 ≡ (tape_of σ).cell (z +ℤ pos j))
  -- where the position z + j is 2^63 or more, the place holds 0
  pub windows_past : (m : Machine) (s : List ℕ) (σ : Conf) → engine_check m s σ ≡ Ok tt → (z : ℤ) → dn z ≤ 2 ^ 63 → (out : List ℕ) (j : ℕ) → j < length out
      → pos (2 ^ 63) ≤ℤ (z +ℤ pos j) → get_or (window_into m s z σ out) j 0 ≡ 0
