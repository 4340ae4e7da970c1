-- Computed examples: the customer's line, and lines that are refused. Assumes nothing.
use Rattle.std.specs.Prelude.{◌≡◌, refl, [], ◌∷◌, replicate, Err, Ok}
use Rattle.notation.specs.Choice.{pick, both}
use Rattle.notation.specs.Scan.{all_in, first_fail}
use Rattle.notation.specs.Fill.{fill_from}
use Rattle.outcome.specs.declared.Refusal.TheVariants as Why
use Rattle.machine.specs.Layout.{action_at, entry_at}
use Rattle.machine.specs.Model.Check.{entry_ok, entries_check, size_check, table_check}
use Rattle.table_text_form.specs.Form.{may_end, is_full, row_ends, entry_begins, step, ends, scan, form_of}
use Rattle.table_text_reader.specs.Reading.{has_byte, entry_in, table_byte, read_of, read_into}
use Rattle.table_text_rows.specs.Rows.{row_undefined, lettered_rows, has_line}
use Rattle.table_text_writer.specs.Writing.{line_byte, write_of, write_into}
use Rattle.table_text_laws.specs.Example.{example_line, example_machine, example_table}

pub line_read : (read_of example_line 48 ≡ Ok example_machine) × (read_into example_line (replicate 48 7) ≡ example_table)
unfolding read_of read_into form_of scan step ends may_end is_full row_ends entry_begins has_byte entry_in table_byte first_fail fill_from pick both
line_read = (refl, refl)

pub line_written : (write_of example_machine example_table 13 ≡ Ok 13) × (write_into example_machine example_table (replicate 13 7) ≡ example_line)
unfolding write_of write_into table_check size_check entries_check entry_ok row_undefined lettered_rows has_line line_byte entry_at action_at all_in first_fail fill_from pick both
line_written = (refl, refl)

-- `1--`, `--B` and `1RB_` are malformed at their second, third and fourth byte, the empty line at its end
pub malformed : (read_of (49 ∷ 45 ∷ 45 ∷ []) 48 ≡ Err (Why.MalformedLine 1)) × (read_of (45 ∷ 45 ∷ 66 ∷ []) 48 ≡ Err (Why.MalformedLine 2))
    × (read_of (49 ∷ 82 ∷ 66 ∷ 95 ∷ []) 48 ≡ Err (Why.MalformedLine 3)) × (read_of [] 48 ≡ Err (Why.MalformedLine 0))
unfolding read_of form_of scan step ends may_end is_full row_ends entry_begins pick both
malformed = (refl, refl, refl, refl)

-- 1RB1LC_1LA1RZ has no row C
pub lacking : read_of (49 ∷ 82 ∷ 66 ∷ 49 ∷ 76 ∷ 67 ∷ 95 ∷ 49 ∷ 76 ∷ 65 ∷ 49 ∷ 82 ∷ 90 ∷ []) 48 ≡ Err (Why.LineLacks 5)
unfolding read_of form_of scan step ends may_end is_full row_ends entry_begins has_byte first_fail pick both
lacking = refl
