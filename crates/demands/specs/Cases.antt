-- THE STARRED CASES of document 01: "The starred cases below are proved together as one table about the definitions". The contracts cite these definitions.
use Rattle.std.specs.Prelude.{◌≡◌, refl, List, [], ◌∷◌, ℕ, ◌+◌, ◌^◌, Some}
use Rattle.notation.specs.Choice.{pick, both}
use Rattle.notation.specs.Scan.{all_in, first_fail}
use Rattle.notation.specs.Fill.{fill_from}
use Rattle.symbol.specs.Kinds.{symbol_of, state_of}
use Rattle.symbol.specs.declared.Dir.TheVariants.{R}
use Rattle.outcome.specs.declared.NonHaltProof.TheVariants.{StayLoop, ChainToInfinity}
use Rattle.outcome.specs.declared.Outcome.TheVariants.{Halted, OutOfFuel, NeverHalts}
use Rattle.machine.specs.declared.Machine.{Machine}
use Rattle.machine.specs.Layout.{action_at, entry_at, single_of}
use Rattle.machine.specs.Model.Check.{entry_ok, entries_check, size_check, table_check}
use Rattle.machine.specs.Model.Packing.{action_word, pack_word}
use Rattle.machine.specs.Model.Word.{symbols_check, word_check}
use Rattle.tape_cells.specs.Growth.{extra}
use Rattle.tape.specs.Model.Moves.{blanked, laid, moved_up, fresh_of, read_of, leaves, room_for, grown_by, shift_of, move_of, act_of}
use Rattle.tape.specs.Fits.{tape_fits}
use Rattle.tape.specs.Model.Questions.{blank_beyond}
use Rattle.sim.specs.Model.Engine.{stays, stays_all, loop_of, judge_of, look_on, entry_of, look_with, rooms_of, step_of, matches, run_with, run_of}
use Rattle.sim.specs.Model.Operations.{bare_sim, hand_back, sizes_fit, sim_fits, value_check, fuel_fits, fuel_check, run_check, run_answer, fresh_sizes, fresh_check, new_answer}
use Rattle.rle_stack.specs.Model.{symbol_under, ahead_of, grown_of, push_of, lacks, take_of, run_fits, runs_fit, sum_of}
use Rattle.rle.specs.Model.Engine as Chain
use Rattle.rle.specs.Fits as Fits
use Rattle.rle.specs.Model.Operations as Chains
use Rattle.rle_refines.specs.Meaning.{empty, over}
use Rattle.demands.specs.CaseTables.{machine, listing, walker, stayer, writer, pair, keeper}
use Rattle.demands.specs.CaseRuns.{ended, refused, plain, chain, chain_with, stacks, stacks_of}

-- a value of document 01, beside the model's: an answer (a refusal by its number), one with the number of macro steps, a fresh engine's stacks, or a packed word
pub record Case : Type 1 where
  pub of : Type 0
  pub says : of
  pub asked : of

abbrev pub case : {A : Type 0} → A → A → Case
case {A} a b = record { of = A; says = a; asked = b }

abbrev pub one : ℕ → Machine
one n = machine 1 2 n

abbrev pub starred : List Case
starred =
    -- "The listing's table, blank word: fuel 5 out of fuel at 5; fuel 6 halted at 6."
    case (ended (OutOfFuel 5)) (plain (one 3) listing [] 5)
    ∷ case (ended (OutOfFuel 5)) (chain (one 3) listing [] 5)
    ∷ case (ended (Halted 6 (state_of 2))) (plain (one 3) listing [] 6)
    ∷ case (ended (Halted 6 (state_of 2))) (chain (one 3) listing [] 6)
    -- "State 0 on blank writes 1, moves R, stays in 0: fuel 0 or 2^62 never at 0; 2^62 + 1 refused 13."
    ∷ case (ended (NeverHalts 0 (ChainToInfinity (state_of 0) R))) (plain (one 1) walker [] 0)
    ∷ case (ended (NeverHalts 0 (ChainToInfinity (state_of 0) R))) (chain (one 1) walker [] 0)
    ∷ case (ended (NeverHalts 0 (ChainToInfinity (state_of 0) R))) (plain (one 1) walker [] (2 ^ 62))
    ∷ case (ended (NeverHalts 0 (ChainToInfinity (state_of 0) R))) (chain (one 1) walker [] (2 ^ 62))
    ∷ case (refused 13) (plain (one 1) walker [] (2 ^ 62 + 1))
    ∷ case (refused 13) (chain (one 1) walker [] (2 ^ 62 + 1))
    -- the same with no run place on the left: the never test comes before the test for space
    ∷ case (ended (NeverHalts 0 (ChainToInfinity (state_of 0) R)), 0) (chain_with 0 (one 1) walker [] 10 [])
    -- "Blank rewritten, N, same state: StayLoop at 0." "Blank to 1, N, 1 undefined: halted at 1."
    ∷ case (ended (NeverHalts 0 (StayLoop (state_of 0)))) (plain (one 1) stayer [] 10)
    ∷ case (ended (NeverHalts 0 (StayLoop (state_of 0)))) (chain (one 1) stayer [] 10)
    ∷ case (ended (Halted 1 (state_of 0))) (plain (one 1) writer [] 10)
    ∷ case (ended (Halted 1 (state_of 0))) (chain (one 1) writer [] 10)
    -- "Two tapes both moving R on blanks, same state, fuel 10: out of fuel at 10."; the run-length engine refuses two tapes with 8
    ∷ case (ended (OutOfFuel 10)) (plain (machine 2 2 1) pair [] 10)
    ∷ case (refused 8) (chain (machine 2 2 1) pair [] 10)
    -- "Word 1 1 0: right stack one run, symbol 1, length 1. 0 0 0: both empty."
    ∷ case (stacks empty (over 1 1 empty)) (stacks_of (one 1) keeper (1 ∷ 1 ∷ 0 ∷ []))
    ∷ case (stacks empty empty) (stacks_of (one 1) keeper (0 ∷ 0 ∷ 0 ∷ []))
    -- "Word 1 1 1 1, 1 kept moving R, blank undefined: halted at 4, one macro step; fuel 2 twice, two."
    ∷ case (ended (Halted 4 (state_of 0))) (plain (one 1) keeper (1 ∷ 1 ∷ 1 ∷ 1 ∷ []) 10)
    ∷ case (ended (Halted 4 (state_of 0)), 1) (chain_with 8 (one 1) keeper (1 ∷ 1 ∷ 1 ∷ 1 ∷ []) 10 [])
    ∷ case (ended (Halted 4 (state_of 0)), 2) (chain_with 8 (one 1) keeper (1 ∷ 1 ∷ 1 ∷ 1 ∷ []) 2 (2 ∷ []))
    -- "Packed 1, R, next 1, stride 2: 8,590,000,385."
    ∷ case 8590000385 (pack_word (Some (single_of (symbol_of 1) R (state_of 1))) 2)
    ∷ []

-- the two values of every case are equal
infixr 5 ◌also◌
pub data AllRight : List Case → Type 1 where
  done : AllRight []
  ◌also◌ : {A : Type 0} {a b : A} {rest : List Case} → a ≡ b → AllRight rest → AllRight (case a b ∷ rest)

pub starred_cases : AllRight starred
unfolding run_answer run_check fuel_check value_check table_check size_check entries_check entry_ok all_in first_fail pick both sizes_fit sim_fits tape_fits fuel_fits new_answer fresh_check fresh_sizes word_check symbols_check fresh_of blanked laid fill_from bare_sim hand_back run_of run_with look_with look_on entry_of entry_at action_at judge_of loop_of stays_all stays blank_beyond read_of rooms_of room_for leaves extra step_of act_of move_of grown_by moved_up shift_of matches Chains.run_answer Chains.new_answer Chains.fresh_check Chains.fresh_sizes Chains.runs_of Chains.laid_of Fits.run_check Fits.engine_check Fits.value_check Fits.places_fit Fits.chain_fits Fits.counts_fit Fits.head_fits Fits.reach_fits Fits.side_fits Chain.run_of Chain.run_within Chain.plan_of Chain.turn_of Chain.turn_on Chain.proved_of Chain.fueled_of Chain.loops_for Chain.proof_of Chain.full_for Chain.chain_for Chain.macro_to Chain.carry_of action_word symbol_under ahead_of grown_of push_of lacks take_of run_fits runs_fit sum_of
starred_cases =
    refl also refl also refl also refl also refl also refl also refl also refl also refl also refl also refl also
    refl also refl also refl also refl also refl also refl also refl also refl also refl also refl also refl also refl also done
