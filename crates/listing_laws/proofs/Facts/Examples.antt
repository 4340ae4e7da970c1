-- The outputs for document 01's input and for one other, computed from the definitions. Assumes nothing.
use Rattle.std.specs.Prelude.{◌≡◌, refl}
use Rattle.listing_text.specs.Text.{bytes}
use Rattle.notation.specs.Choice.{pick, both}
use Rattle.notation.specs.Scan.{all_in, first_fail}
use Rattle.notation.specs.ScanDown.{count_fails}
use Rattle.notation.specs.Fill.{fill_from}
use Rattle.notation.specs.Position.{◌⊖◌}
use Rattle.machine.specs.Layout.{action_at, entry_at}
use Rattle.machine.specs.Model.Check.{entry_ok, entries_check, size_check, table_check}
use Rattle.machine.specs.Model.Word.{symbols_check, word_check}
use Rattle.tape_cells.specs.Growth.{extra}
use Rattle.tape.specs.Model.Moves.{blanked, laid, moved_up, fresh_of, read_of, leaves, room_for, grown_by, shift_of, move_of, act_of}
use Rattle.tape.specs.Fits.{tape_fits}
use Rattle.tape.specs.Model.Questions.{blank_beyond, count_of}
use Rattle.sim.specs.Model.Engine.{look_with, rooms_of, step_of, matches, run_of, run_with, stays, stays_all, loop_of, judge_of, look_on, entry_of}
use Rattle.sim.specs.Model.Operations.{bare_sim, hand_back, sim_fits, value_check, engine_check, fuel_check, run_check, new_answer, sizes_fit, fuel_fits, fresh_sizes, fresh_check}
use Rattle.store_bytes.specs.Bytes.{get16, get32, get64, put16, put32, put64}
use Rattle.store_bytes.specs.Model.{slot_of, put_slot, move_slot, thin_by}
use Rattle.timeline_rule.specs.Model.Timeline.{new_ok, times_ok, ended, thinned, recorded, record_due, advance_to, go_on, go_back, stay, go_to, call_check, call, new_check, new}
use Rattle.timeline_rule.specs.Model.Kind.{new_on, call_on}
use Rattle.sim_slots.specs.Model.Advance.{ran_from, advance_of}
use Rattle.sim_slots.specs.Model.Slots.{put_tape, put_held, put_if, put_sim, pack_of, tape_at, sim_in, holds_one, fill_if, filled, unpack_of}
use Rattle.listing_text.specs.Pieces.{onto, pieces, same_list}
use Rattle.listing_text.specs.Numbers.{digits, number, on_num, below}
use Rattle.listing_text.specs.Show.{show_on, show, show_ℤ}
use Rattle.listing_lines.specs.Forms.{on_some, machine_ok, machine_line, move, entry_line, symbols_of, word_of, call_line, place, given, define}
use Rattle.listing_reader.specs.Listing.{nothing, line, at_end, on_next, read_from, listing}
use Rattle.listing_rows.specs.Rows.{row_of, rows_on, refused_line, row_line, row_lines, output}
use Rattle.listing.specs.Output.{blank_cells, blank_store, turned, answer_on, answer_with, answer_of, answer_for, answer_to}

pub record Examples : Type 0 where
  -- document 01's input
  pub whole : answer_to (bytes "tapes symbols states start\n1 2 3 0\nstate read write move next\n0 0 1 R 1\n0 1 1 L 1\n1 0 1 L 0\n1 1 1 R 2\nword\n\ncall number\nseek 3\nforward 100\nback 2\nseek 0\n")
      ≡ bytes "answer steps state head low high score\nfuel 3 1 -1 -1 1 2\nhalted 6 2 0 -2 1 4\nfuel 4 0 -2 -2 1 3\nfuel 0 0 0 0 0 0\n"
  -- state 0 on blank writes 1, moves R and stays in 0: a slot recorded at step 16, a call back, a target over 2^62
  pub walker : answer_to (bytes "tapes symbols states start\n1 2 1 0\nstate read write move next\n0 0 1 R 0\nword\n\ncall number\nseek 0\nseek 20\nback 1\nforward 4611686018427387904\n")
      ≡ bytes "answer steps state head low high score\nnever 0 0 0 0 0 0\nnever 20 0 20 0 20 20\nnever 19 0 19 0 19 19\nrefused 13\n"

pub examples : Examples
unfolding get16 get32 get64 put16 put32 put64 pick both all_in first_fail count_fails fill_from ◌⊖◌ action_at entry_at entry_ok entries_check size_check table_check symbols_check word_check extra blanked laid moved_up fresh_of read_of leaves room_for grown_by shift_of move_of act_of tape_fits blank_beyond count_of look_with rooms_of step_of matches run_of run_with stays stays_all loop_of judge_of look_on entry_of bare_sim hand_back sim_fits value_check engine_check fuel_check run_check new_answer sizes_fit fuel_fits fresh_sizes fresh_check slot_of put_slot move_slot thin_by new_ok times_ok ended thinned recorded record_due advance_to go_on go_back stay go_to call_check call new_check new new_on call_on ran_from advance_of put_tape put_held put_if put_sim pack_of tape_at sim_in holds_one fill_if filled unpack_of onto pieces same_list digits number on_num below show_on show show_ℤ on_some machine_ok machine_line move entry_line symbols_of word_of call_line place given define nothing line at_end on_next read_from listing row_of rows_on refused_line row_line row_lines output blank_cells blank_store turned answer_on answer_with answer_of answer_for answer_to
examples = record { whole = refl; walker = refl }
