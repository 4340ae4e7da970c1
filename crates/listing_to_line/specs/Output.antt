-- THE OUTPUT: from the bytes of the input to the bytes that are printed. Definitions only.
use Rattle.outcome.specs.declared.Refusal.{Refusal}
use Rattle.std.specs.Prelude.{ℕ, List, ◌++◌, take, replicate, Err, Ok, Result}
use Rattle.outcome.specs.Numbers.{refusal_number}
use Rattle.machine.specs.declared.Machine.{Machine}
use Rattle.table_text_writer.specs.Writing.{write_of, write_into}
use Rattle.listing_text.specs.Text.{bytes}
use Rattle.listing_text.specs.Show.{show}
use Rattle.listing_reader.specs.Listing.{table_in, Listing, refused, asked, listing}

-- ---- the line of a table, or the number of the refusal

abbrev pub text_for : Result ℕ Refusal → (line : List ℕ) → List ℕ
text_for (Ok n) l = take n l ++ bytes "\n"
text_for (Err why) l = bytes "refused table " ++ show (refusal_number why) ++ bytes "\n"

-- 774 bytes are enough for 25 rows of 10 entries
abbrev pub blank_line : List ℕ
blank_line = replicate 774 0

unfoldable pub line_of : Machine → (table : List ℕ) → List ℕ
line_of m s = text_for (write_of m s 774) (write_into m s blank_line)

-- ---- the answer

-- "A bad line .. prints only `refused` and the line number"; the word and the calls are left out
unfoldable pub answer_for : Listing → List ℕ
answer_for (refused n) = bytes "refused " ++ show n ++ bytes "\n"
answer_for (asked x) = line_of x.machine (table_in x)

unfoldable pub answer_to : (input : List ℕ) → List ℕ
answer_to input = answer_for (listing input)
