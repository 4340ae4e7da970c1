-- PACKING: "Packing and unpacking a one-tape entry gives the entry", and a packed table holds the word of each entry. Assumes nothing.
use Rattle.std.specs.Prelude.{◌≡◌, List, ℕ, ◌*◌, ◌^◌, ◌<◌, eqb, None, Option, Some}
use Rattle.std.proofs.Math.Path.{refl, sym, ap}
use Rattle.std.proofs.Common.{◌∙◌}
use native.Mathlib.Omega.{arith}
use borrow.Author.Tests.{ne_eqb}
use Rattle.notation.specs.Choice.{pick}
use Rattle.notation.proofs.Facts.Tests.{pick_true, pick_false}
use Rattle.symbol.specs.Kinds.{symbol_of, state_of}
use Rattle.symbol.specs.declared.Dir.TheVariants.{R}
use Rattle.machine.specs.declared.Machine.{Machine}
use Rattle.machine.specs.declared.Action.{Action}
use Rattle.machine.specs.Layout.{dir_of, single_of}
use Rattle.machine.proofs.Facts.Packed.{number_small, fit_parts}
use Rattle.machine.specs.Model.Packing.{undefined_word, action_word, pack_word, word_row, word_action, word_entry}
use Rattle.table_laws.specs.WellFormed.{ActionOf, EntryOf, WellFormed}
use Rattle.table_laws.proofs.Facts.Entries.{number-move}
use Rattle.table_laws.proofs.Facts.SingleTape.{rows_fit, single}

-- document 01's example: write 1, move R, next state 1, stride 2
pub packed_example : pack_word (Some (single_of (symbol_of 1) R (state_of 1))) 2 ≡ 8590000385
unfolding action_word pick
packed_example = refl

-- ---- one entry, for any stride whose rows fit 32 bits

module _ (a : Action) (stride : ℕ) (write : a.write0.0 < 256) (next : a.next.0 < 65536) (fits : a.next.0 * stride < 2 ^ 32) where
  -- the word of an action with one tape unpacks to that action
  pub word_unpacks : a ≡ single_of a.write0 a.dir0 a.next → word_entry (action_word a stride) ≡ Some a
  unfolding word_entry word_action
  word_unpacks one =
      let p = fit_parts a stride write next fits in
      let d = number_small a.dir0 in
      let low = p.dir_is in
      let defined : action_word a stride ≡ undefined_word → ⊥ = λ e. omega arith in
      pick_false _ _ _ (ne_eqb _ _ defined)
      ∙ ap Some ((λ i. single_of (symbol_of (p.write_is i)) ((ap dir_of p.dir_is ∙ number-move a.dir0) i) (state_of (p.next_is i))) ∙ sym one)

-- ---- every entry of a well-formed table with one tape

module _ (m : Machine) (s : List ℕ) (w : WellFormed m s) (one : m.tapes ≡ 1) where
  pub packed_entry_unpacks : (e : Option Action) → EntryOf m e → word_entry (pack_word e m.symbols) ≡ e
  unfolding word_entry
  packed_entry_unpacks None o = pick_true (eqb undefined_word undefined_word) None (Some (word_action undefined_word)) refl
  packed_entry_unpacks (Some a) o =
      let n = w 3 in
      let k = w 2 in
      word_unpacks a m.symbols (omega (arith, o.write0_in)) (omega (arith, o.next_in)) (rows_fit m s w a o) (single m s w one a o)

  -- the row of a word is the number of the next state's first entry
  pub packed_row : (a : Action) → ActionOf m a → word_row (pack_word (Some a) m.symbols) ≡ a.next.0 * m.symbols
  packed_row a o =
      let n = w 3 in
      let k = w 2 in
      (fit_parts a m.symbols (omega (arith, o.write0_in)) (omega (arith, o.next_in)) (rows_fit m s w a o)).row_is
