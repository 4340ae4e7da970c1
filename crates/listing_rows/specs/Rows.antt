-- THE ROWS OF THE OUTPUT of document 01 ("Listing"): the row of each call on the plain engine's timeline, and its bytes. Definitions only.
use Rattle.outcome.specs.declared.Refusal.{Refusal}
use Rattle.std.specs.Prelude.{ℕ, List, [], ◌∷◌, ◌++◌, ℤ, get_or, Err, Ok, Result}
use Rattle.notation.specs.Position.{◌⊖◌}
use Rattle.outcome.specs.declared.Outcome.{Outcome}
use Rattle.outcome.specs.Numbers.{outcome_number, refusal_number}
use Rattle.machine.specs.declared.Machine.{Machine}
use Rattle.tape.specs.Model.Moves.{held}
use Rattle.tape.specs.Model.Questions.{count_of}
use Rattle.sim.specs.declared.Simulator.{Simulator}
use Rattle.timeline_rule.specs.declared.Call.{Call}
use Rattle.timeline_rule.specs.Model.Timeline.{Reply, refused, answered}
use Rattle.timeline_rule.specs.Model.Kind.{TimelineOf, call_on}
use Rattle.sim_slots.specs.Model.Kind.{plain_kind}
use Rattle.listing_text.specs.Text.{bytes}
use Rattle.listing_text.specs.Show.{show, show_ℤ}

-- ---- what a row holds

-- the answer and "Fields after `answer`: step count, state, head, lowest, highest, non-blank cells of tape 0"; or a refusal's number
pub data Row : Type 0 where
  row : Outcome → (steps state : ℕ) (head low high : ℤ) (score : ℕ) → Row
  turned_away : ℕ → Row

-- the row of a call, from its answer, the engine after it, and the cells of tape 0
unfoldable pub row_of : Reply Outcome → Simulator → (cells : List ℕ) → Row
row_of (refused why) v c = turned_away (refusal_number why)
row_of (answered o) v c =
    row o v.steps v.state.0 (v.t0.head ⊖ v.t0.origin) (v.t0.lowest ⊖ v.t0.origin) (v.t0.highest ⊖ v.t0.origin)
    (count_of (held v.t0 c))

-- a row for each call, and the timeline after the last; each call takes the timeline that the call before it returned
unfoldable pub rows_on : Machine → (table : List ℕ) → TimelineOf plain_kind → List Call → List Row × TimelineOf plain_kind
rows_on m s w [] = ([], w)
rows_on m s w (c ∷ cs) =
    let r : Reply Outcome × TimelineOf plain_kind = call_on plain_kind m s w c in
    let rest : List Row × TimelineOf plain_kind = rows_on m s r.1 cs in
    (row_of r.0 r.1.engine.sim r.1.engine.c0 ∷ rest.0, rest.1)

-- the rows alone
abbrev pub rows_of : Machine → (table : List ℕ) → TimelineOf plain_kind → List Call → List Row
rows_of m s w cs = (rows_on m s w cs).0

-- the cells and the store of a timeline, which are lent
abbrev pub lent_in : TimelineOf plain_kind → List ℕ × List ℕ × List ℕ × List ℕ
lent_in w = (w.engine.c0, w.engine.c1, w.engine.c2, w.store)

-- the code's answer to a call, as a reply of the model
abbrev pub reply_of : Result Outcome Refusal → Reply Outcome
reply_of (Err why) = refused why
reply_of (Ok o) = answered o

-- ---- its bytes

-- the word for an outcome, by its number; no call on a timeline has a stop rule, so no call answers Stopped
abbrev pub words : List (List ℕ)
words = bytes "halted" ∷ bytes "fuel" ∷ bytes "never" ∷ bytes "fuel" ∷ bytes "full" ∷ []

abbrev pub said : Outcome → List ℕ
said o = get_or words (outcome_number o) []

-- "`refused` and the line number", or "the refusal's number"
unfoldable pub refused_line : ℕ → List ℕ
refused_line n = bytes "refused " ++ show n ++ bytes "\n"

unfoldable pub row_line : Row → List ℕ
row_line (row o n q h l u c) =
    said o ++ (32 ∷ show n) ++ (32 ∷ show q) ++ (32 ∷ show_ℤ h) ++ (32 ∷ show_ℤ l) ++ (32 ∷ show_ℤ u) ++ (32 ∷ show c) ++ bytes "\n"
row_line (turned_away n) = refused_line n

unfoldable pub row_lines : List Row → List ℕ
row_lines [] = []
row_lines (r ∷ rs) = row_line r ++ row_lines rs

abbrev pub names_line : List ℕ
names_line = bytes "answer steps state head low high score\n"

-- the most bytes of a row, with its newline
abbrev pub row_most : ℕ
row_most = 136

-- the names line, and the rows
unfoldable pub output : List Row → List ℕ
output rs = names_line ++ row_lines rs
