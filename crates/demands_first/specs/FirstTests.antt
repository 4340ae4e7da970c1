-- The tests of each operation, in document 01's order. Definitions only.
use Rattle.std.specs.Prelude.{Bool, true, false, List, [], ◌∷◌, ◌++◌, ℕ, ◌+◌, ◌-◌, ◌*◌, ◌^◌, eqb, ltb, leb, length, Err, Ok, Result}
use Rattle.notation.specs.Choice.{pick, both}
use Rattle.notation.specs.Scan.{all_in}
use Rattle.outcome.specs.declared.Refusal.TheVariants as Why
use Rattle.machine.specs.declared.Machine.{Machine}
use Rattle.machine.specs.Layout.{entry_count}
use Rattle.machine.specs.Model.Check.{within, entry_ok}
use Rattle.machine.specs.Model.Word.{symbol_in}
use Rattle.alphabet.specs.Model.{allowed_at}
use Rattle.table_text_form.specs.Form.{form_of}
use Rattle.table_text_rows.specs.Rows.{lettered_rows, has_line}
use Rattle.table_text_reader.specs.Reading.{has_byte}
use Rattle.run_checks.specs.Model.Sizes.{words_right}
use Rattle.sim.specs.Model.Engine as Plain
use Rattle.sim.specs.Model.Operations.{sim_fits}
use Rattle.rle_stack.specs.Model.{places_of}
use Rattle.rle.specs.Model.Engine as Chain
use Rattle.rle.specs.Fits.{chain_fits}
use Rattle.rle.specs.Model.Operations as Chains
use Rattle.demands_first.specs.FirstClaims.{Test, or, lowest}

-- "Table check, first in every operation that takes one: 1 tapes not 1 to 3; 2 symbols not 1 to 256; 3 states not 1 to 65,536; 4 start not below states; 5 table
-- not 8 × n × k^t bytes; 6 an entry off its layout, or a state or symbol out of range (lowest entry number given)."
abbrev pub table_tests : Machine → List ℕ → List Test
table_tests m s =
    or (within 1 3 m.tapes) Why.Tapes
    ∷ or (within 1 256 m.symbols) Why.Symbols
    ∷ or (within 1 65536 m.states) Why.States
    ∷ or (ltb m.start m.states) Why.Start
    ∷ or (eqb (length s) (8 * entry_count m)) Why.TableSize
    ∷ or (all_in (entry_ok m s) (entry_count m) 0) (Why.Entry (lowest (entry_ok m s) (entry_count m)))
    ∷ []

-- "Packing: 7 for several tapes, 18 for too short an output."
abbrev pub pack_tests : Machine → List ℕ → (room : ℕ) → List Test
pack_tests m s room =
    table_tests m s
    ++ or (eqb m.tapes 1) Why.PackedWords
    ∷ or (leb (entry_count m) room) Why.OutputSize
    ∷ []

-- "9 word over 1,048,576; 10 a word symbol not below k (first place given ..)"
abbrev pub word_tests : (k : ℕ) → List ℕ → List Test
word_tests k w =
    or (leb (length w) 1048576) Why.WordLength
    ∷ or (all_in (symbol_in k w) (length w) 0) (Why.WordSymbol (lowest (symbol_in k w) (length w)))
    ∷ []

-- "Encoder: 17 glyph not allowed (first place), 18 output shorter than the word." (FirstTables.encode_glyph says what allowed_at tests)
abbrev pub encode_tests : (glyphs flags word : List ℕ) (room : ℕ) → List Test
encode_tests glyphs flags word room =
    or (all_in (allowed_at glyphs flags word) (length word) 0) (Why.Glyph (lowest (allowed_at glyphs flags word) (length word)))
    ∷ or (leb (length word) room) Why.OutputSize
    ∷ []

-- ---- the one-line form, in document 02's words

abbrev pub is_formed : Result (ℕ × ℕ) ℕ → Bool
is_formed (Ok (rows, k)) = true
is_formed (Err i) = false

abbrev pub rows_of : Result (ℕ × ℕ) ℕ → ℕ
rows_of (Ok (rows, k)) = rows
rows_of (Err i) = 0

abbrev pub symbols_of : Result (ℕ × ℕ) ℕ → ℕ
symbols_of (Ok (rows, k)) = k
symbols_of (Err i) = 0

abbrev pub malformed_at : Result (ℕ × ℕ) ℕ → ℕ
malformed_at (Ok (rows, k)) = 0
malformed_at (Err i) = i

-- "19 malformed line (first byte that no line of the form has after those before it, or the length if it ends early), 20 a letter other than Z, or a digit, that
-- the line's rows lack, .. then 18 for a short buffer, in that order": the table has Z's row beside those of the line
abbrev pub read_tests_of : Result (ℕ × ℕ) ℕ → List ℕ → (room : ℕ) → List Test
read_tests_of x line room =
    or (is_formed x) (Why.MalformedLine (malformed_at x))
    ∷ or (all_in (has_byte (rows_of x) (symbols_of x) line) (length line) 0) (Why.LineLacks (lowest (has_byte (rows_of x) (symbols_of x) line) (length line)))
    ∷ or (leb (8 * ((rows_of x + 1) * symbols_of x)) room) Why.OutputSize
    ∷ []

abbrev pub read_tests : List ℕ → (room : ℕ) → List Test
read_tests line room = read_tests_of (form_of line) line room

-- "21 a table with several tapes, symbols not 2 to 10, lettered rows not 1 to 25, a start other than 0, an N move, or an undefined row before the last, then 18
-- for a short buffer, in that order, after the table check for writing"
abbrev pub write_tests : Machine → List ℕ → (room : ℕ) → List Test
write_tests m s room =
    table_tests m s
    ++ or (has_line m s) Why.NoLine
    ∷ or (leb (lettered_rows m s * (3 * m.symbols + 1) - 1) room) Why.OutputSize
    ∷ []

-- ---- refusals 11 and 13, by their numbers

-- x is not below `low` and not above `high`
abbrev pub between : (low x high : ℕ) → Bool
between low x high = both (leb low x) (leb x high)

-- "Tapes the machine lacks need none.": a test of tape i, counted from 0
abbrev pub on_tape : (i : ℕ) → Machine → Bool → Bool
on_tape i m test = pick (ltb i m.tapes) test true

-- "11 a cells buffer under word + 32 (other tapes 32) or over 2^30"
abbrev pub fresh_cells : Machine → (word n0 n1 n2 : ℕ) → Bool
fresh_cells m word n0 n1 n2 =
    both (between (word + 32) n0 (2 ^ 30)) (both (on_tape 1 m (between 32 n1 (2 ^ 30))) (on_tape 2 m (between 32 n2 (2 ^ 30))))

-- "11 for the upper sizes": "a cells buffer .. over 2^30"
abbrev pub cells_up_to : Machine → (n0 n1 n2 : ℕ) → Bool
cells_up_to m n0 n1 n2 = both (leb n0 (2 ^ 30)) (both (on_tape 1 m (leb n1 (2 ^ 30))) (on_tape 2 m (leb n2 (2 ^ 30))))

-- the same: "a run side over 1,048,576"
abbrev pub places_up_to : (lefts rights : ℕ) → Bool
places_up_to lefts rights = both (leb lefts 1048576) (leb rights 1048576)

-- "13 steps + fuel over 2^62"
abbrev pub step_limit : (steps fuel : ℕ) → Bool
step_limit steps fuel = leb (steps + fuel) (2 ^ 62)

-- ---- the plain engine

-- "Fresh engine: .. 9 ..; 10 ..; 11 a cells buffer under word + 32 (other tapes 32) or over 2^30"
abbrev pub plain_new_tests : Machine → (s w c0 c1 c2 : List ℕ) → List Test
plain_new_tests m s w c0 c1 c2 =
    table_tests m s
    ++ word_tests m.symbols w
    ++ or (fresh_cells m (length w) (length c0) (length c1) (length c2)) Why.BufferSize
    ∷ []

module _ (m : Machine) (s : List ℕ) (σ : Plain.Conf) where
  -- "11 for the upper sizes; 12 an engine value that doesn't fit"
  abbrev pub plain_sizes : Test
  plain_sizes = or (cells_up_to m (length σ.c0) (length σ.c1) (length σ.c2)) Why.BufferSize

  abbrev pub plain_fits : Test
  plain_fits = or (sim_fits m σ.sim σ.c0 σ.c1 σ.c2) Why.Misfit

  -- "Step, run, fast run: .. 11 ..; 12 ..; 13 steps + fuel over 2^62 (a step counts as fuel 1)"
  abbrev pub plain_run_tests : (fuel : ℕ) → List Test
  plain_run_tests fuel = table_tests m s ++ plain_sizes ∷ plain_fits ∷ or (step_limit σ.sim.steps fuel) Why.StepLimit ∷ []

  -- "7 packed words not the table's (fast run; more than one tape also counts)" (FirstPlain.packed_words says what words_right tests)
  abbrev pub plain_fast_tests : (words : List ℕ) → (fuel : ℕ) → List Test
  plain_fast_tests words fuel =
      table_tests m s
      ++ or (words_right m s words) Why.PackedWords
      ∷ plain_sizes ∷ plain_fits ∷ or (step_limit σ.sim.steps fuel) Why.StepLimit ∷ []

  -- "Tape questions: 8, 11, 12 (also a tape number not below t)"
  abbrev pub plain_ask_tests : (tape : ℕ) → List Test
  plain_ask_tests i = table_tests m s ++ plain_sizes ∷ or (both plain_fits.holds (ltb i m.tapes)) Why.Misfit ∷ []

-- ---- the run-length engine: "8 more than one tape (chain only)"

abbrev pub one_tape : Machine → Test
one_tape m = or (eqb m.tapes 1) Why.SeveralTapes

-- "11 .. fewer right run places than the word's right stack has runs, or a run side over 1,048,576" (FirstChain.new_sizes says what fresh_sizes tests)
abbrev pub chain_new_tests : Machine → (s w ls ll rs rl : List ℕ) → List Test
chain_new_tests m s w ls ll rs rl =
    table_tests m s
    ++ one_tape m
    ∷ word_tests m.symbols w
    ++ or (Chains.fresh_sizes w (places_of ls ll) (places_of rs rl)) Why.BufferSize
    ∷ []

module _ (m : Machine) (s : List ℕ) (σ : Chain.Conf) where
  -- "Tape questions: 8, 11, 12"
  abbrev pub chain_ask_tests : List Test
  chain_ask_tests = table_tests m s ++ one_tape m ∷ or (places_up_to (places_of σ.ls σ.ll) (places_of σ.rs σ.rl)) Why.BufferSize ∷ or (chain_fits m σ) Why.Misfit ∷ []

  -- "then 18 for too short a record slice"
  abbrev pub chain_list_tests : (count room : ℕ) → List Test
  chain_list_tests count room = chain_ask_tests ++ or (leb count room) Why.OutputSize ∷ []

  -- ".. 8; 11 for the upper sizes; 12 ..; 13 steps + fuel over 2^62"
  abbrev pub chain_run_tests : (fuel : ℕ) → List Test
  chain_run_tests fuel = chain_ask_tests ++ or (step_limit σ.sim.steps fuel) Why.StepLimit ∷ []

-- ---- the listing: "18 for too short an output", as document 01 says for packing; the longest listing has a names line of 39 bytes and 64 rows of 136

abbrev pub list_tests : (room : ℕ) → List Test
list_tests room = or (leb 8743 room) Why.OutputSize ∷ []
