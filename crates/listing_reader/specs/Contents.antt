-- WHAT `read` HANDS BACK: what the listing asks for, or the number of its first bad line, and all places of the three arrays. Definitions only.
use Rattle.std.specs.Prelude.{ℕ, ◌-◌, List, [], ◌∷◌, ◌++◌, leb, length, replicate, Err, Ok, Result}
use Rattle.notation.specs.Choice.{pick}
use Rattle.timeline_rule.specs.declared.Call.{Call}
use Rattle.timeline_rule.specs.declared.Call.TheVariants.{Seek}
use Rattle.listing_text.specs.Pieces.{lines}
use Rattle.listing_lines.specs.Forms.{word_before}
use Rattle.listing_reader.specs.declared.Due.{Due}
use Rattle.listing_reader.specs.declared.Due.TheVariants.{Names, Numbers, Columns, Entries, Word, Heading, Calls}
use Rattle.listing_reader.specs.declared.Reader.{Reader}
use Rattle.listing_reader.specs.declared.Contents.{Contents}
use Rattle.listing_reader.specs.Listing.{Sofar, nothing, line, Listing, refused, asked, on_next, listing}

-- ---- how far the input is read: to its end, or into its first bad line

-- the word after a bad line: a bad word line gives its symbols before the first bad one
unfoldable pub word_left : Due → Sofar → List ℕ → List ℕ
word_left Names x l = x.word
word_left Numbers x l = x.word
word_left Columns x l = x.word
word_left Entries x l = x.word
word_left Word x l = word_before x.machine.symbols l
word_left Heading x l = x.word
word_left Calls x l = x.word

-- what has been read after a bad line: only a bad word line changes it
unfoldable pub broken_off : Due → Sofar → List ℕ → Sofar
broken_off d x l = record { machine = x.machine; table = x.table; word = word_left d x l; calls = x.calls }

unfoldable pub read_up_to : Due → Sofar → List (List ℕ) → Sofar
read_up_to d x [] = x
read_up_to d x (l ∷ ls) =
    pick (leb (length l) 80)
    (on_next (line d x l) (broken_off d x l) λ d' x'. read_up_to d' x' ls)
    x

unfoldable pub last_read : List ℕ → Sofar
last_read s = read_up_to Names nothing (lines s)

-- ---- in arrays

-- n places: the first hold xs, all others hold `blank`
unfoldable pub filled : {A : Type 0} → (n : ℕ) (blank : A) → List A → List A
filled n blank xs = xs ++ replicate (n - length xs) blank

-- 512 entries of eight bytes, 81 symbols, 64 calls; a seek to step 0 fills the places of calls that were not read
unfoldable pub places_of : Sofar → List ℕ × List ℕ × List Call
places_of x = (x.table, filled 81 0 x.word, filled 64 (Seek 0) x.calls)

-- ---- what the input asks for: the machine, the number of symbols in the word, and the number of calls

abbrev pub reader_of : Sofar → Reader
reader_of x = record { due = Calls; machine = x.machine; word = length x.word; calls = length x.calls }

unfoldable pub parsed_of : Listing → Result Reader ℕ
parsed_of (refused n) = Err n
parsed_of (asked x) = Ok (reader_of x)

unfoldable pub contents_of : (input : List ℕ) → Contents
contents_of s =
    record {
      parsed = parsed_of (listing s);
      table = (places_of (last_read s)).0;
      word = (places_of (last_read s)).1;
      calls = (places_of (last_read s)).2;
    }
