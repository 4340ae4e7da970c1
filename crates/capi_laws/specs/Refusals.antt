-- The effect of a refused call of a function exported with C linkage: "A refusal leaves everything lent or passed as it was." Definitions only.
-- Each part is about the definition that the contract of its function cites, for every value lent or passed. No call can write what is lent only for reading.
use Rattle.machine.specs.declared.Action.{Action}
use Rattle.tape.specs.declared.Span.{Span}
use Rattle.std.specs.Prelude.{◌≡◌, List, ℕ, ℤ, length, set, Err, None, Ok, Option, Result, Some, ⊤}
use Rattle.symbol.specs.declared.State.{State}
use Rattle.symbol.specs.declared.Symbol.{Symbol}
use Rattle.symbol.specs.declared.Dir.{Dir}
use Rattle.outcome.specs.declared.Outcome.{Outcome}
use Rattle.outcome.specs.declared.Refusal.{Refusal}
use Rattle.outcome.specs.Numbers.{refusal_number, place_of}
use Rattle.machine.specs.declared.Machine.{Machine}
use Rattle.machine.specs.Model.Check.{table_check, lookup_of}
use Rattle.machine.specs.Model.Packing.{pack_check, pack_into}
use Rattle.alphabet.specs.Model.{encode_check, encode_into}
use Rattle.table_text_reader.specs.Reading.{read_of, read_into}
use Rattle.table_text_writer.specs.Writing.{write_of, write_into}
use Rattle.sim.specs.Model.Engine as Plain
use Rattle.sim.specs.Model.Operations as Plains
use Rattle.sim.specs.Model.Questions as PlainAsks
use Rattle.rle_records.specs.declared.Run.{Run}
use Rattle.rle.specs.Model.Engine as Chain
use Rattle.rle.specs.Model.Records.{left_answer, left_into, right_answer, right_into}
use Rattle.rle.specs.Fits.{engine_check}
use Rattle.rle.specs.Model.Operations as Chains
use Rattle.rle.specs.Model.Questions as ChainAsks
use Rattle.timeline_rule.specs.declared.Call as TimelineCall
use Rattle.timeline_rule.specs.Model.Timeline as Times
use Rattle.timeline_rule.specs.Model.Kind.{Kind, TimelineOf, call_on, new_with}
use Rattle.sim_slots.specs.Model.Kind.{plain_kind}
use Rattle.rle_slots.specs.Model.Kind.{chain_kind}
use Rattle.sim_timeline.specs.Model as PlainTimes
use Rattle.rle_timeline.specs.Model as ChainTimes
use Rattle.capi_engines.specs.Model.Engines.{engine_of, chain_of, times_from}
use Rattle.capi_numbers.specs.Model.Answers.{result_code, result_out, unit_out, symbol_out, number_out, span_out, spot_out}
use Rattle.capi_numbers.specs.Model.Parts.{entry_out, machine_out}
use Rattle.capi_numbers.specs.Model.Timelines.{TimelineNew, timeline_new, timeline_new_call}
use Rattle.capi_sim.specs.Model.Calls.{Call, call, new_call, step_call, ran_call}
use Rattle.capi_sim.specs.Model.Timelines.{TimelineCall, timeline_call, moved_call}
use Rattle.capi_rle.specs.Model.Calls.{ChainCall, chain_call, chain_new_call, chain_ran_call}
use Rattle.capi_rle.specs.Model.Timelines.{ChainTimelineCall, chain_timeline_call, chain_moved_call}
use Rattle.demands_first.specs.FirstClaims.{refusal_of}
use Rattle.demands_first.specs.FirstTimeline.{of_reply}

-- ---- a refused call

-- "6 .. (lowest entry number given) .. 10 .. (first place given ..) .. 17 .. (first place)", and the places of 19 and 20: where the refusal names a place, place 0 of `out` holds it and the
-- rest is as it was; where it names none, all of `out` is as it was
pub record OutKept (why : Refusal) (before after : List ℕ) : Type 0 where
  pub named : (i : ℕ) → place_of why ≡ Some i → after ≡ set before 0 i
  pub unnamed : place_of why ≡ None → after ≡ before

-- `left` is all that a call leaves; `as_it_was o` is the refusal, with o in `out` and everything else as it was lent
pub record Unchanged {X : Type 0} (why : Refusal) (out : List ℕ) (as_it_was : List ℕ → X) (left : X) : Type 0 where
  pub after : List ℕ
  pub out_kept : OutKept why out after
  pub kept : left ≡ as_it_was after

-- `refusal` is that of the operation called, by the definition that its contract cites. The result is 0 exactly where the operation accepts. Otherwise it is the
-- number of the refusal, and everything lent is as it was.
pub record Refuses {X : Type 0} (refusal : Result ⊤ Refusal) (result : X → ℕ) (out : List ℕ) (as_it_was : ℕ → List ℕ → X) (left : X) : Type 0 where
  pub accepted : refusal ≡ Ok tt → result left ≡ 0
  pub unchanged : (why : Refusal) → refusal ≡ Err why → Unchanged why out (as_it_was (refusal_number why)) left

-- ---- one claim for each type of answer, with all that the call is lent for writing: `out`, and one slice, an engine or a timeline

abbrev pub Alone : Result ⊤ Refusal → (out : List ℕ) (left : ℕ × List ℕ) → Type 0
Alone refusal out left = Refuses refusal (λ (x : ℕ × List ℕ). x.0) out (λ n o. (n, o)) left

abbrev pub Checks : Result ⊤ Refusal → (out : List ℕ) → Type 0
Checks a out = Alone a out (result_code a, result_out unit_out a out)

abbrev pub Fills : Result ⊤ Refusal → (out before after : List ℕ) → Type 0
Fills a out before after = Refuses a (λ (x : ℕ × List ℕ × List ℕ). x.0) out (λ n o. (n, o, before)) (result_code a, result_out unit_out a out, after)

abbrev pub Looks : Result (Option Action) Refusal → (out : List ℕ) → Type 0
Looks a out = Alone (refusal_of a) out (result_code a, result_out entry_out a out)

abbrev pub Reads : Result Machine Refusal → (out before after : List ℕ) → Type 0
Reads a out before after = Refuses (refusal_of a) (λ (x : ℕ × List ℕ × List ℕ). x.0) out (λ n o. (n, o, before)) (result_code a, result_out machine_out a out, after)

abbrev pub Writes : Result ℕ Refusal → (out before after : List ℕ) → Type 0
Writes a out before after = Refuses (refusal_of a) (λ (x : ℕ × List ℕ × List ℕ). x.0) out (λ n o. (n, o, before)) (result_code a, result_out number_out a out, after)

abbrev pub Lists : Result ℕ Refusal → (out : List ℕ) (before after : List Run) → Type 0
Lists a out before after = Refuses (refusal_of a) (λ (x : ℕ × List ℕ × List Run). x.0) out (λ n o. (n, o, before)) (result_code a, result_out number_out a out, after)

abbrev pub Gets : Result Symbol Refusal → (out : List ℕ) → Type 0
Gets a out = Alone (refusal_of a) out (result_code a, result_out symbol_out a out)

abbrev pub Spans : Result (Option Span) Refusal → (out : List ℕ) → Type 0
Spans a out = Alone (refusal_of a) out (result_code a, result_out span_out a out)

abbrev pub Counts : Result ℕ Refusal → (out : List ℕ) → Type 0
Counts a out = Alone (refusal_of a) out (result_code a, result_out number_out a out)

abbrev pub Finds : Result (Option ℤ) Refusal → (out : List ℕ) → Type 0
Finds a out = Alone (refusal_of a) out (result_code a, result_out spot_out a out)

-- an engine, with its cells
module _ (state : ℕ) (engine out c0 c1 c2 : List ℕ) where
  abbrev pub Cells : Result ⊤ Refusal → Call → Type 0
  Cells refusal left = Refuses refusal (λ (x : Call). x.code) out (λ n o. call n state engine o c0 c1 c2) left

  abbrev pub Makes : Plains.Made → Type 0
  Makes g = Cells (refusal_of g.answer) (new_call g state engine out)

  abbrev pub Steps : Plains.StepGiven → Type 0
  Steps g = Cells (refusal_of g.answer) (step_call g engine out)

  abbrev pub Runs : Plains.Given → Type 0
  Runs g = Cells (refusal_of g.answer) (ran_call g engine out)

-- a run-length engine, with its run places
module _ (state cur : ℕ) (engine out ls ll rs rl : List ℕ) where
  abbrev pub Places : Result ⊤ Refusal → ChainCall → Type 0
  Places refusal left = Refuses refusal (λ (x : ChainCall). x.code) out (λ n o. chain_call n state cur engine o ls ll rs rl) left

  abbrev pub ChainMakes : Chains.Made → Type 0
  ChainMakes g = Places (refusal_of g.answer) (chain_new_call g state cur engine out ls ll)

  abbrev pub ChainRuns : Chains.Given → Type 0
  ChainRuns g = Places (refusal_of g.answer) (chain_ran_call g engine out)

-- a timeline's numbers and store, and its engine
abbrev pub Begins : (X : Kind) (times out store : List ℕ) → Times.Reply (TimelineOf X) × List ℕ → Type 0
Begins X times out store r =
    Refuses (of_reply r.0) (λ (x : TimelineNew). x.code) out (λ n o. timeline_new n times o store) (timeline_new_call X r times out)

abbrev pub Moves : (state : ℕ) (engine times out c0 c1 c2 store : List ℕ) → Times.Reply Outcome × TimelineOf plain_kind → Type 0
Moves state engine times out c0 c1 c2 store r =
    Refuses (of_reply r.0) (λ (x : TimelineCall). x.code) out (λ n o. timeline_call n state engine times o c0 c1 c2 store) (moved_call r engine times out)

abbrev pub ChainMoves : (state cur : ℕ) (engine times out ls ll rs rl store : List ℕ) → Times.Reply Outcome × TimelineOf chain_kind → Type 0
ChainMoves state cur engine times out ls ll rs rl store r =
    Refuses (of_reply r.0) (λ (x : ChainTimelineCall). x.code) out (λ n o. chain_timeline_call n state cur engine times o ls ll rs rl store)
    (chain_moved_call r engine times out)

-- ---- THE EXPORTED FUNCTIONS, each under its name without tm

pub record ExportsRefuse : Type 0 where
  pub check : (m : Machine) (s out : List ℕ) → Checks (table_check m s) out
  pub lookup : (m : Machine) (s : List ℕ) (q : State) (a0 a1 a2 : Symbol) (out : List ℕ) → Looks (lookup_of m s q a0 a1 a2) out
  pub pack : (m : Machine) (s words out : List ℕ) → Fills (pack_check m s (length words)) out words (pack_into m s words)
  pub encode : (glyphs flags word symbols out : List ℕ)
      → Fills (encode_check glyphs flags word (length symbols)) out symbols (encode_into glyphs flags word symbols)
  pub line_read : (line table out : List ℕ) → Reads (read_of line (length table)) out table (read_into line table)
  pub line_write : (m : Machine) (s line out : List ℕ) → Writes (write_of m s (length line)) out line (write_into m s line)
  -- ---- the plain engine
  pub sim_new : (m : Machine) (s w : List ℕ) (state : ℕ) (engine out c0 c1 c2 : List ℕ) → Makes state engine out c0 c1 c2 (Plains.new_answer m s w c0 c1 c2)
  pub sim_step : (m : Machine) (s : List ℕ) (state : ℕ) (engine out c0 c1 c2 : List ℕ)
      → Steps state engine out c0 c1 c2 (Plains.step_answer m s (Plain.conf (engine_of state engine) c0 c1 c2))
  pub sim_run : (m : Machine) (s : List ℕ) (rule : Option State) (fuel state : ℕ) (engine out c0 c1 c2 : List ℕ)
      → Runs state engine out c0 c1 c2 (Plains.run_answer m s rule fuel (Plain.conf (engine_of state engine) c0 c1 c2))
  pub sim_run_packed : (m : Machine) (s words : List ℕ) (rule : Option State) (fuel state : ℕ) (engine out c0 c1 c2 : List ℕ)
      → Runs state engine out c0 c1 c2 (Plains.fast_answer m s words rule fuel (Plain.conf (engine_of state engine) c0 c1 c2))
  pub sim_get : (m : Machine) (s : List ℕ) (i : ℕ) (z : ℤ) (σ : Plain.Conf) (out : List ℕ) → Gets (PlainAsks.get_answer m s i z σ) out
  pub sim_non_blank : (m : Machine) (s : List ℕ) (i : ℕ) (σ : Plain.Conf) (out : List ℕ) → Spans (PlainAsks.extent_answer m s i σ) out
  pub sim_count : (m : Machine) (s : List ℕ) (i : ℕ) (σ : Plain.Conf) (out : List ℕ) → Counts (PlainAsks.count_answer m s i σ) out
  pub sim_window : (m : Machine) (s : List ℕ) (i : ℕ) (z : ℤ) (σ : Plain.Conf) (cells out : List ℕ)
      → Fills (PlainAsks.question_check m s i σ) out cells (PlainAsks.window_into m s i z σ cells)
  pub sim_find : (m : Machine) (s : List ℕ) (i : ℕ) (z : ℤ) (d : Dir) (σ : Plain.Conf) (out : List ℕ) → Finds (PlainAsks.find_answer m s i z d σ) out
  -- ---- the run-length engine
  pub chain_new : (m : Machine) (s w : List ℕ) (state cur : ℕ) (engine out ls ll rs rl : List ℕ)
      → ChainMakes state cur engine out ls ll rs rl (Chains.new_answer m s w ls ll rs rl)
  pub chain_run : (m : Machine) (s : List ℕ) (rule : Option State) (fuel state cur : ℕ) (engine out ls ll rs rl : List ℕ)
      → ChainRuns state cur engine out ls ll rs rl (Chains.run_answer m s rule fuel (Chain.conf (chain_of state cur engine) ls ll rs rl))
  pub chain_get : (m : Machine) (s : List ℕ) (z : ℤ) (σ : Chain.Conf) (out : List ℕ) → Gets (ChainAsks.get_answer m s z σ) out
  pub chain_non_blank : (m : Machine) (s : List ℕ) (σ : Chain.Conf) (out : List ℕ) → Spans (ChainAsks.extent_answer m s σ) out
  pub chain_count : (m : Machine) (s : List ℕ) (σ : Chain.Conf) (out : List ℕ) → Counts (ChainAsks.count_answer m s σ) out
  pub chain_window : (m : Machine) (s : List ℕ) (z : ℤ) (σ : Chain.Conf) (cells out : List ℕ)
      → Fills (engine_check m s σ) out cells (ChainAsks.window_into m s z σ cells)
  pub chain_left : (m : Machine) (s : List ℕ) (σ : Chain.Conf) (runs : List Run) (out : List ℕ) → Lists (left_answer m s (length runs) σ) out runs (left_into m s σ runs)
  pub chain_right : (m : Machine) (s : List ℕ) (σ : Chain.Conf) (runs : List Run) (out : List ℕ) → Lists (right_answer m s (length runs) σ) out runs (right_into m s σ runs)
  -- ---- the timelines over both engines
  pub sim_timeline_new : (m : Machine) (s : List ℕ) (most every : ℕ) (σ : Plain.Conf) (times out store : List ℕ)
      → Begins plain_kind times out store (new_with plain_kind m s most every σ store)
  pub sim_timeline_call : (m : Machine) (s : List ℕ) (state : ℕ) (engine times out c0 c1 c2 store : List ℕ) (c : TimelineCall.Call)
      → Moves state engine times out c0 c1 c2 store
      (call_on plain_kind m s (PlainTimes.with_lent (PlainTimes.tl (engine_of state engine) (times_from times)) c0 c1 c2 store) c)
  pub chain_timeline_new : (m : Machine) (s : List ℕ) (most every : ℕ) (σ : Chain.Conf) (times out store : List ℕ)
      → Begins chain_kind times out store (new_with chain_kind m s most every σ store)
  pub chain_timeline_call_holds : (m : Machine) (s : List ℕ) (state cur : ℕ) (engine times out ls ll rs rl store : List ℕ) (c : TimelineCall.Call)
      → ChainMoves state cur engine times out ls ll rs rl store
      (call_on chain_kind m s (ChainTimes.with_lent (ChainTimes.tl (chain_of state cur engine) (times_from times)) ls ll rs rl store) c)
