-- A listing without a bad line is answered by rows: neither the fresh engine nor the timeline is refused. Assumes nothing.
use Rattle.std.specs.Prelude.{◌≡◌, refl, false, ℕ, ◌+◌, ◌/◌, ◌≤◌, length, replicate, Ok}
use Rattle.std.proofs.Math.Path.{ap}
use Rattle.std.proofs.Common.{◌∙◌, arith, le-leb, le-ltb}
use Rattle.std.proofs.Math.Bool.{true}
use mathlib.Core.List.{List, []}
use Rattle.std.proofs.lemmas.List.{length-replicate}
use Rattle.notation.specs.Choice.{pick, both}
use Rattle.notation.proofs.Facts.Tests.{both_true, pick_false}
use Rattle.outcome.specs.declared.Refusal.TheVariants as Why
use Rattle.machine.specs.declared.Machine.{Machine}
use Rattle.machine.specs.Model.Check.{demand, checked_on, table_check}
use Rattle.machine.specs.Model.Word.{word_check}
use Rattle.tape.specs.Model.Moves.{fresh_of}
use Rattle.tape.proofs.Facts.Cells.{length_fresh}
use Rattle.sim.specs.Model.Engine.{Conf, conf}
use Rattle.sim.specs.Model.Operations.{has1, has2, blank_tape, fresh_sim, made_with, fresh_sizes, fresh_check, fresh_on, new_answer, engine_check}
use Rattle.timeline_rule.specs.Model.Timeline.{answered, new_ok, first_check, new_check, born, on_new, new}
use Rattle.timeline_rule.specs.Model.Kind.{TimelineOf, ops_for, new_on}
use Rattle.store_bytes.specs.Model.{slot_count}
use Rattle.sim_slots.specs.Model.Slots.{slot_size}
use Rattle.sim_slots.proofs.Facts.RoundTrip.{check_holds}
use Rattle.sim_slots.specs.Model.Kind.{create_of, plain_kind, made_on}
use Rattle.sim_timeline_laws.proofs.Facts.Fresh.{fresh_passed}
use Rattle.listing_reader.specs.Listing.{Sofar, table_in, listing, asked}
use Rattle.listing_reader.proofs.Facts.Accepted.{Kept, asked_kept, asked_good, asked_word}
use Rattle.listing_rows.specs.Rows.{rows_of, output}
use Rattle.listing.specs.Output.{blank_cells, blank_store, on_reply, turned, answer_on, answer_with, answer_of, answer_for, answer_to}
use Rattle.listing_laws.specs.Rows.{Begins}

-- ---- 4,096 cells, and a store of 9 slots

abbrev cells : List ℕ
cells = replicate 4096 0

cells_long : length cells ≡ 4096
cells_long = length-replicate {A = ℕ} 4096 0

store_long : length blank_store ≡ 38016
unfolding blank_store
store_long = length-replicate {A = ℕ} 38016 0

-- ---- the fresh engine of a machine of one tape

module _ (m : Machine) (s w : List ℕ) (one : m.tapes ≡ 1) (short : length w ≤ 40) (good : table_check m s ≡ Ok tt) (word : word_check m.symbols w ≡ Ok tt) where
  lacks1 : has1 m ≡ false
  lacks1 = le-ltb 1 m.tapes (omega (arith, one))

  lacks2 : has2 m ≡ false
  lacks2 = le-ltb 2 m.tapes (omega (arith, one))

  sizes : fresh_sizes m (length w) 4096 0 0 ≡ true
  unfolding fresh_sizes
  sizes = both_true (both_true (le-leb (length w + 32) 4096 (omega arith)) refl) (both_true (pick_false (has1 m) _ true lacks1) (pick_false (has2 m) _ true lacks2))

  passes : fresh_check m s w (length cells) 0 0 ≡ Ok tt
  unfolding fresh_check pick
  passes = ap (λ n. fresh_check m s w n 0 0) cells_long ∙ (λ i. checked_on (good i) (checked_on (word i) (demand (sizes i) Why.BufferSize (Ok tt))))

  abbrev engine : Conf
  engine = conf (fresh_sim m (fresh_of w cells) (blank_tape (has1 m) []) (blank_tape (has2 m) [])) (fresh_of w cells).cells (blank_tape (has1 m) []).cells (blank_tape (has2 m) []).cells

  made_is : new_answer m s w cells [] [] ≡ made_with m (fresh_of w cells) (blank_tape (has1 m) []) (blank_tape (has2 m) [])
  unfolding new_answer
  made_is = ap (λ c. fresh_on c cells [] [] (made_with m (fresh_of w cells) (blank_tape (has1 m) []) (blank_tape (has2 m) []))) passes

  created : create_of m s w blank_cells ≡ answered engine
  unfolding blank_cells
  created = ap made_on made_is

  fits : engine_check m s engine ≡ Ok tt
  fits = check_holds m s engine (fresh_passed m s w cells [] [] _ _ _ _ made_is)

  sized : slot_size m engine ≡ 4224
  sized =
      let l : length (fresh_of w cells).cells ≡ 4096 = length_fresh w cells ∙ cells_long in
      omega (arith, l, pick_false (has1 m) (length (blank_tape (has1 m) []).cells) 0 lacks1, pick_false (has2 m) (length (blank_tape (has2 m) []).cells) 0 lacks2)

  slots : slot_count (slot_size m engine) blank_store ≡ 9
  slots = λ i. store_long i / sized i

  -- ---- its timeline

  accepts : new_check (ops_for plain_kind m s engine) 8 16 engine blank_store ≡ Ok tt
  unfolding new_check new_ok both pick
  accepts = λ i. checked_on (fits i) (first_check 8 16 (slots i))

  abbrev timeline : TimelineOf plain_kind
  timeline = born (ops_for plain_kind m s engine) 8 16 engine blank_store

  begins : new_on plain_kind m s 8 16 engine blank_store ≡ answered timeline
  unfolding new_on new
  begins = ap (λ c. on_new (ops_for plain_kind m s engine) c timeline) accepts

-- ---- the theorem: the names line and the rows of the calls, on a timeline over the fresh engine

module _ (s : List ℕ) (x : Sofar) (e : listing s ≡ asked x) where
  abbrev table : List ℕ
  table = table_in x

  pub asked_begins : Begins x.machine table x.word
  asked_begins =
      let k : Kept x = asked_kept s x e in
      record {
        engine = engine x.machine table x.word k.good.one k.short (asked_good s x e) (asked_word s x e);
        timeline = timeline x.machine table x.word k.good.one k.short (asked_good s x e) (asked_word s x e);
        created = created x.machine table x.word k.good.one k.short (asked_good s x e) (asked_word s x e);
        begun = begins x.machine table x.word k.good.one k.short (asked_good s x e) (asked_word s x e);
      }

  pub asked_rows : answer_to s ≡ output (rows_of x.machine table asked_begins.timeline x.calls)
  unfolding answer_to answer_for answer_of answer_with answer_on
  asked_rows = ap answer_for e
      ∙ ap (λ r. on_reply r turned (answer_on x.machine table blank_store x.calls)) asked_begins.created
      ∙ ap (λ r. on_reply r turned (λ w. output (rows_of x.machine table w x.calls))) asked_begins.begun
