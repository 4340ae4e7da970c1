-- Document 01's listing, and inputs that differ from it in one place: what each asks for, or its first bad line, computed. Assumes nothing.
use Rattle.std.specs.Prelude.{ℕ, zero, suc, ◌≡◌, refl, List, [], ◌∷◌, ◌++◌, take}
use Rattle.notation.specs.Choice.{pick, both}
use Rattle.timeline_rule.specs.declared.Call.{Call}
use Rattle.timeline_rule.specs.declared.Call.TheVariants.{Seek, Forward, Back}
use Rattle.listing_text.specs.Text.{bytes}
use Rattle.listing_text.specs.Pieces.{onto, pieces, same_list}
use Rattle.listing_text.specs.Numbers.{digits, number, on_num, below}
use Rattle.listing_lines.specs.Forms.{on_some, machine_ok, machine_line, move, entry_line, symbols_of, word_of, call_line, place, given, define}
use Rattle.listing_reader.specs.Listing.{nothing, line, Listing, refused, asked, at_end, on_next, read_from, listing}

-- ---- the parts of document 01's input

abbrev pub names : List ℕ
names = bytes "tapes symbols states start\n"

abbrev pub up_to3 : List ℕ
up_to3 = names ++ bytes "1 2 3 0\nstate read write move next\n"

abbrev pub up_to7 : List ℕ
up_to7 = up_to3 ++ bytes "0 0 1 R 1\n0 1 1 L 1\n1 0 1 L 0\n1 1 1 R 2\n"

abbrev pub up_to10 : List ℕ
up_to10 = up_to7 ++ bytes "word\n\ncall number\n"

-- the same text n times over
unfoldable pub times : ℕ → List ℕ → List ℕ
times zero s = []
times (suc n) s = s ++ times n s

-- ---- what is compared: the bad line, 0 where there is none; the six entries of the table; word, calls

unfoldable pub bad_line : Listing → ℕ
bad_line (refused n) = n
bad_line (asked x) = 0

unfoldable pub entries : Listing → List ℕ
entries (refused n) = []
entries (asked x) = take 48 x.table

unfoldable pub word : Listing → List ℕ
word (refused n) = []
word (asked x) = x.word

unfoldable pub calls : Listing → List Call
calls (refused n) = []
calls (asked x) = x.calls

pub record Examples : Type 0 where
  -- document 01's input
  pub whole_table : entries (listing (up_to10 ++ bytes "seek 3\nforward 100\nback 2\nseek 0\n"))
      ≡ 1 ∷ 1 ∷ 0 ∷ 1 ∷ 0 ∷ 0 ∷ 25 ∷ 0 ∷ 1 ∷ 1 ∷ 0 ∷ 1 ∷ 0 ∷ 0 ∷ 24 ∷ 0 ∷ 1 ∷ 0 ∷ 0 ∷ 1 ∷ 0 ∷ 0 ∷ 24 ∷ 0 ∷ 1 ∷ 2 ∷ 0 ∷ 1 ∷ 0 ∷ 0 ∷ 25 ∷ 0
      ∷ 0 ∷ 0 ∷ 0 ∷ 0 ∷ 0 ∷ 0 ∷ 0 ∷ 0 ∷ 0 ∷ 0 ∷ 0 ∷ 0 ∷ 0 ∷ 0 ∷ 0 ∷ 0 ∷ []
  pub whole_calls : calls (listing (up_to10 ++ bytes "seek 3\nforward 100\nback 2\nseek 0\n")) ≡ Seek 3 ∷ Forward 100 ∷ Back 2 ∷ Seek 0 ∷ []
  -- "Entry lines come in any order; there may be none"
  pub any_order : entries (listing (up_to3 ++ bytes "1 1 1 R 2\n0 1 1 L 1\n1 0 1 L 0\n0 0 1 R 1\nword\n\ncall number\n")) ≡ entries (listing up_to10)
  pub no_entries : bad_line (listing (up_to3 ++ bytes "word\n\ncall number\n")) ≡ 0
  -- "the last newline may be missing"; "no call lines"; a call's number of 64 bits; a word
  pub unended : calls (listing (up_to10 ++ bytes "seek 3")) ≡ Seek 3 ∷ []
  pub no_calls : bad_line (listing up_to10) ≡ 0
  pub largest : calls (listing (up_to10 ++ bytes "seek 18446744073709551615\n")) ≡ Seek 18446744073709551615 ∷ []
  pub some_word : word (listing (up_to7 ++ bytes "word\n1 0 1\ncall number\n")) ≡ 1 ∷ 0 ∷ 1 ∷ []
  pub calls_64 : bad_line (listing (up_to10 ++ times 64 (bytes "back 2\n"))) ≡ 0
  -- bad lines
  pub empty : bad_line (listing []) ≡ 1
  pub space_after : bad_line (listing (bytes "tapes symbols states start \n")) ≡ 1
  pub two_tapes : bad_line (listing (names ++ bytes "2 2 3 0\n")) ≡ 2
  pub entries_513 : bad_line (listing (names ++ bytes "1 1 513 0\n")) ≡ 2
  pub zero_before : bad_line (listing (up_to3 ++ bytes "0 0 1 R 1\n0 01 1 L 1\n")) ≡ 5
  pub two_spaces : bad_line (listing (up_to3 ++ bytes "0 0 1 R 1\n0  1 1 L 1\n")) ≡ 5
  pub symbol_k : bad_line (listing (up_to3 ++ bytes "0 0 1 R 1\n0 2 1 L 1\n")) ≡ 5
  pub second_giving : bad_line (listing (up_to3 ++ bytes "0 0 1 R 1\n0 1 1 L 1\n1 0 1 L 0\n0 1 1 R 2\nword\n")) ≡ 7
  pub no_word : bad_line (listing up_to7) ≡ 8
  pub no_word_line : bad_line (listing (up_to7 ++ bytes "word\n")) ≡ 9
  pub bytes_81 : bad_line (listing (up_to7 ++ bytes "word\n" ++ times 40 (bytes "1 ") ++ bytes "1\n")) ≡ 9
  pub over_64_bits : bad_line (listing (up_to10 ++ bytes "seek 18446744073709551616\n")) ≡ 11
  pub empty_line : bad_line (listing (up_to10 ++ bytes "seek 3\n\n")) ≡ 12
  pub call_65 : bad_line (listing (up_to10 ++ times 65 (bytes "back 2\n"))) ≡ 75

pub examples : Examples
unfolding listing read_from line at_end nothing on_next pick both onto pieces same_list digits number below on_num machine_ok machine_line move entry_line symbols_of word_of call_line place given define on_some times bad_line entries word calls
examples =
    record {
      whole_table = refl;
      whole_calls = refl;
      any_order = refl;
      no_entries = refl;
      unended = refl;
      no_calls = refl;
      largest = refl;
      some_word = refl;
      calls_64 = refl;
      empty = refl;
      space_after = refl;
      two_tapes = refl;
      entries_513 = refl;
      zero_before = refl;
      two_spaces = refl;
      symbol_k = refl;
      second_giving = refl;
      no_word = refl;
      no_word_line = refl;
      bytes_81 = refl;
      over_64_bits = refl;
      empty_line = refl;
      call_65 = refl;
    }
