-- THE SECOND DEMAND for the plain engine. Each part is about the definitions that the contracts of its operations cite.
use Rattle.std.specs.Prelude.{◌≡◌, true, List, ℕ, ◌+◌, ◌≤◌, ◌<◌, ◌^◌, ℤ, pos, ◌+ℤ◌, length, get_or, ◌≤ℤ◌, None, Ok, Option, Some}
use Rattle.notation.specs.Position.{dn}
use Rattle.symbol.specs.declared.State.{State}
use Rattle.symbol.specs.declared.Symbol.{Symbol}
use Rattle.symbol.specs.declared.Dir.{Dir}
use Rattle.outcome.specs.declared.NonHaltProof.{NonHaltProof}
use Rattle.outcome.specs.declared.Outcome.{Outcome}
use Rattle.outcome.specs.declared.Outcome.TheVariants.{NeverHalts}
use Rattle.outcome.specs.declared.Status.{Status}
use Rattle.machine.specs.declared.Machine.{Machine}
use Rattle.table_laws.specs.WellFormed.{Bytes, WellFormed}
use Rattle.tape.specs.declared.Span.{Span}
use Rattle.tape.specs.Answers.{Finds, Spans}
use Rattle.table_machine.specs.TableMachine.{run, start, Halted}
use Rattle.table_machine.specs.Tables.{table_of}
use Rattle.sim.specs.declared.Simulator.{Simulator}
use Rattle.sim.specs.Model.Engine.{Conf, conf}
use Rattle.sim.specs.Model.Operations.{sim_fits, words_right, given, run_answer, fast_answer, step_given, step_answer, made, new_answer}
use Rattle.sim.specs.Model.Questions.{question_check, get_answer, extent_answer, count_answer, window_into, find_answer}
use Rattle.sim_refines.specs.Meaning.{config_of}
use Rattle.sim_refines.specs.Counts.{Counts}
use Rattle.sim_refines.specs.Operations.{HandedBack, RunHolds, StepHolds}
use Rattle.sim_refines.specs.Lent.{PastKept, SameLive, SameGiven, SameStepGiven}
use Rattle.timeline_rule.specs.declared.Call.{Call}
use Rattle.timeline_rule.specs.Model.Kind.{TimelineOf, call_on}
use Rattle.sim_slots.specs.Model.Kind.{plain_kind}
use Rattle.demands_second.specs.Accepts.{WordOf, FreshCells, PlainTaken, PackedOf}
use Rattle.demands_second.specs.PlainClaims.{tape_on}

pub record PlainEngine : Type 0 where
  -- ---- "For every table, word and engine value that document 01 accepts, with step totals up to 2^62 and while space lasts, answers and tapes equal the Rust's in
  -- differential runs, save its named departures, and both engines are proved equal to document 01's table machine.": these tables, words and engine values. The
  -- engine answers every input that document 01 accepts (Accepts); the other parts say that the answer is the table machine's

  -- a fresh engine
  pub accepts_new : (m : Machine) (s w c0 c1 c2 : List ℕ) → WellFormed m s → WordOf m w → FreshCells m w c0 c1 c2
      → (v : Simulator) × (d0 : List ℕ) × (d1 : List ℕ) × (d2 : List ℕ) × (new_answer m s w c0 c1 c2 ≡ made (Ok v) d0 d1 d2)
  -- a run, the fast run over the table's packed words, and a step, which counts as fuel 1
  pub accepts_run : (m : Machine) (s : List ℕ) (σ : Conf) → PlainTaken m s σ → (fuel : ℕ) → σ.sim.steps + fuel ≤ 2 ^ 62 → (rule : Option State)
      → (τ : Conf) × (o : Outcome) × (run_answer m s rule fuel σ ≡ given τ (Ok o))
  pub accepts_fast : (m : Machine) (s : List ℕ) (σ : Conf) → PlainTaken m s σ → (fuel : ℕ) → σ.sim.steps + fuel ≤ 2 ^ 62 → (words : List ℕ) → PackedOf m s words
      → (rule : Option State) → (τ : Conf) × (o : Outcome) × (fast_answer m s words rule fuel σ ≡ given τ (Ok o))
  pub accepts_step : (m : Machine) (s : List ℕ) (σ : Conf) → PlainTaken m s σ → σ.sim.steps + 1 ≤ 2 ^ 62
      → (τ : Conf) × (x : Status) × (step_answer m s σ ≡ step_given τ (Ok x))
  -- the five questions about a tape that the machine has; `window` fills its slice (windows)
  pub accepts_get : (m : Machine) (s : List ℕ) (σ : Conf) → PlainTaken m s σ → (i : ℕ) → i < m.tapes → (z : ℤ) → (x : Symbol) × (get_answer m s i z σ ≡ Ok x)
  pub accepts_span : (m : Machine) (s : List ℕ) (σ : Conf) → PlainTaken m s σ → (i : ℕ) → i < m.tapes → (x : Option Span) × (extent_answer m s i σ ≡ Ok x)
  pub accepts_count : (m : Machine) (s : List ℕ) (σ : Conf) → PlainTaken m s σ → (i : ℕ) → i < m.tapes → (n : ℕ) × (count_answer m s i σ ≡ Ok n)
  pub accepts_window : (m : Machine) (s : List ℕ) (σ : Conf) → PlainTaken m s σ → (i : ℕ) → i < m.tapes → question_check m s i σ ≡ Ok tt
  pub accepts_find : (m : Machine) (s : List ℕ) (σ : Conf) → PlainTaken m s σ → (i : ℕ) → i < m.tapes → (z : ℤ) (d : Dir)
      → (x : Option ℤ) × (find_answer m s i z d σ ≡ Ok x)
  -- ---- "and both engines are proved equal to document 01's table machine."

  -- "It starts in the start state, heads at 0, tape 0 holding the word from 0 rightward, all else blank.": a fresh engine holds that configuration, and fits
  pub fresh : (m : Machine) (s w c0 c1 c2 : List ℕ) (v : Simulator) (d0 d1 d2 : List ℕ) → new_answer m s w c0 c1 c2 ≡ made (Ok v) d0 d1 d2
      → (config_of m (conf v d0 d1 d2) ≡ start m.start w) × (sim_fits m v d0 d1 d2 ≡ true)
  -- an accepted run is a run of the table machine: configuration, step count, answer, stop rule, space (RunHolds, Refines).
  -- "`run`: halted, never, fuel, space, in that order, before each step. .. A run with a stop rule .. stops after the matching step."
  pub runs : (m : Machine) (s : List ℕ) → Bytes s → (rule : Option State) (fuel : ℕ) (σ τ : Conf) (o : Outcome)
      → run_answer m s rule fuel σ ≡ given τ (Ok o) → RunHolds m s rule fuel σ τ o
  -- "(none, or a `from` state, one not below n never matching)": with such a state a run answers as with none
  pub rules : (m : Machine) (s : List ℕ) → Bytes s → (p : State) (fuel : ℕ) (σ : Conf) → m.states ≤ p.0
      → run_answer m s (Some p) fuel σ ≡ run_answer m s None fuel σ
  -- "`step` makes one step without the middle two and answers running, halted or full.": one step of the table machine, or none where it has halted or lacks space
  pub steps : (m : Machine) (s : List ℕ) → Bytes s → (σ τ : Conf) (x : Status)
      → step_answer m s σ ≡ step_given τ (Ok x) → StepHolds m s σ τ x × HandedBack m σ τ
  -- where the answer is never, the table machine halts at no step
  pub never : (m : Machine) (s : List ℕ) → Bytes s → (rule : Option State) (fuel : ℕ) (σ τ : Conf) (n : ℕ) (p : NonHaltProof)
      → run_answer m s rule fuel σ ≡ given τ (Ok (NeverHalts n p)) → (j : ℕ) → ¬ (Halted (table_of m s) (run (table_of m s) j (config_of m σ)))
  -- "The fast run reads packed words and answers as `run` does.": with the table's packed words, refusals too; every accepted fast run is that run
  pub fast : (m : Machine) (s words : List ℕ) (rule : Option State) (fuel : ℕ) (σ : Conf) → words_right m s words ≡ true
      → fast_answer m s words rule fuel σ ≡ run_answer m s rule fuel σ
  pub fast_runs : (m : Machine) (s words : List ℕ) (rule : Option State) (fuel : ℕ) (σ τ : Conf) (o : Outcome)
      → fast_answer m s words rule fuel σ ≡ given τ (Ok o) → run_answer m s rule fuel σ ≡ given τ (Ok o)
  -- a state not below n matches nothing in the fast run either
  pub fast_rules : (m : Machine) (s words : List ℕ) → Bytes s → (p : State) (fuel : ℕ) (σ : Conf) → m.states ≤ p.0
      → fast_answer m s words (Some p) fuel σ ≡ fast_answer m s words None fuel σ
  -- "Bytes of the lent buffer past the length are never read": engines with one value, buffers of the same lengths and the same cells up to the length of each tape
  -- that the machine has (SameLive) get the same answer, refusals too, and are such engines again (SameGiven): runs, fast runs, steps, questions
  pub run_live : (m : Machine) (s : List ℕ) (rule : Option State) (fuel : ℕ) (σ τ : Conf) → SameLive m σ τ → SameGiven m (run_answer m s rule fuel σ) (run_answer m s rule fuel τ)
  pub fast_live : (m : Machine) (s words : List ℕ) (rule : Option State) (fuel : ℕ) (σ τ : Conf) → SameLive m σ τ
      → SameGiven m (fast_answer m s words rule fuel σ) (fast_answer m s words rule fuel τ)
  pub step_live : (m : Machine) (s : List ℕ) (σ τ : Conf) → SameLive m σ τ → SameStepGiven m (step_answer m s σ) (step_answer m s τ)
  pub get_live : (m : Machine) (s : List ℕ) (i : ℕ) (σ τ : Conf) → SameLive m σ τ → (z : ℤ) → get_answer m s i z σ ≡ get_answer m s i z τ
  pub span_live : (m : Machine) (s : List ℕ) (i : ℕ) (σ τ : Conf) → SameLive m σ τ → extent_answer m s i σ ≡ extent_answer m s i τ
  pub count_live : (m : Machine) (s : List ℕ) (i : ℕ) (σ τ : Conf) → SameLive m σ τ → count_answer m s i σ ≡ count_answer m s i τ
  pub window_live : (m : Machine) (s : List ℕ) (i : ℕ) (σ τ : Conf) → SameLive m σ τ → (z : ℤ) (out : List ℕ) → window_into m s i z σ out ≡ window_into m s i z τ out
  pub find_live : (m : Machine) (s : List ℕ) (i : ℕ) (σ τ : Conf) → SameLive m σ τ → (z : ℤ) (d : Dir) → find_answer m s i z d σ ≡ find_answer m s i z d τ
  -- "those past a call's final length stay": a fresh engine, a run, a fast run, a step and a timeline's call leave each buffer as it was past the final length of
  -- its tape (PastKept), whatever they answer
  pub fresh_past : (m : Machine) (s w c0 c1 c2 : List ℕ) (v : Simulator) (d0 d1 d2 : List ℕ) → new_answer m s w c0 c1 c2 ≡ made (Ok v) d0 d1 d2
      → PastKept c0 c1 c2 (conf v d0 d1 d2)
  pub run_past : (m : Machine) (s : List ℕ) (rule : Option State) (fuel : ℕ) (σ : Conf) → PastKept σ.c0 σ.c1 σ.c2 (run_answer m s rule fuel σ).at
  pub fast_past : (m : Machine) (s words : List ℕ) (rule : Option State) (fuel : ℕ) (σ : Conf) → PastKept σ.c0 σ.c1 σ.c2 (fast_answer m s words rule fuel σ).at
  pub step_past : (m : Machine) (s : List ℕ) (σ : Conf) → PastKept σ.c0 σ.c1 σ.c2 (step_answer m s σ).at
  pub call_past : (m : Machine) (s : List ℕ) (w : TimelineOf plain_kind) (c : Call) → PastKept w.engine.c0 w.engine.c1 w.engine.c2 (call_on plain_kind m s w c).1.engine
  -- "`get`, `non_blank`, `count_non_blank`, `window` and `find_non_blank` answer over all of i64; a cell outside is blank": the questions read tape i of the
  -- configuration held. They give the cell at a position, the smallest range of the non-blank cells (Spans), and their number (Counts)
  pub gets : (m : Machine) (s : List ℕ) (i : ℕ) (σ : Conf) (z : ℤ) (x : Symbol) → get_answer m s i z σ ≡ Ok x → x.0 ≡ (tape_on i (config_of m σ)).cell z
  pub spans : (m : Machine) (s : List ℕ) (i : ℕ) (σ : Conf) (x : Option Span) → extent_answer m s i σ ≡ Ok x → Spans (tape_on i (config_of m σ)).cell x
  pub counts : (m : Machine) (s : List ℕ) (i : ℕ) (σ : Conf) (n : ℕ) → count_answer m s i σ ≡ Ok n → Counts (tape_on i (config_of m σ)).cell n
  -- "`window` fills its whole lent slice, positions past i64 blank": place j holds the cell at z + j, and past i64 the tape is blank
  pub windows : (m : Machine) (s : List ℕ) (i : ℕ) (σ : Conf) → question_check m s i σ ≡ Ok tt → (z : ℤ) → dn z ≤ 2 ^ 63 → (out : List ℕ)
      → (length (window_into m s i z σ out) ≡ length out) × ((j : ℕ) → j < length out → get_or (window_into m s i z σ out) j 0 ≡ (tape_on i (config_of m σ)).cell (z +ℤ pos j))
  -- where the position z + j is 2^63 or more, the place holds 0
  pub windows_past : (m : Machine) (s : List ℕ) (i : ℕ) (σ : Conf) → question_check m s i σ ≡ Ok tt → (z : ℤ) → dn z ≤ 2 ^ 63 → (out : List ℕ) (j : ℕ) → j < length out
      → pos (2 ^ 63) ≤ℤ (z +ℤ pos j) → get_or (window_into m s i z σ out) j 0 ≡ 0
  -- "`find_non_blank` answers none exactly where there is no such cell": none, or the nearest (Finds)
  pub finds : (m : Machine) (s : List ℕ) (i : ℕ) (σ : Conf) (z : ℤ) (d : Dir) (x : Option ℤ) → find_answer m s i z d σ ≡ Ok x
      → Finds (tape_on i (config_of m σ)).cell z d x
