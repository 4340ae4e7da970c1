-- Facts for the code of the listing, one for each return. Assumes nothing.
use Rattle.std.specs.Prelude.{ℕ, ◌+◌, ◌≤◌, ◌<◌, ◌≡◌, List, ◌++◌, Err, Ok, Result, ⊤}
use Rattle.std.proofs.Math.Path.{refl, sym, subst}
use Rattle.std.proofs.Common.{ap, ◌∙◌, arith, lt-ltb, le-ltb}
use Rattle.std.proofs.Math.ListN.{length, drop}
use Rattle.std.proofs.Math.Seq.{paste, take-length}
use Rattle.notation.specs.Choice.{pick}
use Rattle.outcome.specs.declared.Refusal.{Refusal}
use Rattle.outcome.specs.declared.Refusal.TheVariants as Why
use Rattle.outcome.specs.Numbers.{refusal_number}
use Rattle.machine.specs.declared.Machine.{Machine}
use Rattle.sim.specs.declared.Simulator.{Simulator}
use Rattle.sim.specs.Model.Engine.{Conf, conf}
use Rattle.sim.specs.Model.Operations.{engine_check, made, new_answer}
use Rattle.timeline_rule.specs.declared.Call.{Call}
use Rattle.timeline_rule.specs.Model.Timeline.{refused, answered, new_check, on_new, new}
use Rattle.timeline_rule.specs.Model.Kind.{TimelineOf, ops_for, new_on, new_with}
use Rattle.timeline_rule.proofs.Facts.NewCases.{new_passed}
use Rattle.sim_slots.specs.Model.Kind.{Lent, plain_kind}
use Rattle.sim_timeline.specs.declared.Timeline.{Timeline}
use Rattle.sim_timeline.specs.Model.{with_lent, begun}
use Rattle.listing_text.specs.Model.{Wrote}
use Rattle.listing_text.proofs.Facts.PrintCases.{wrote_then, wrote-put}
use Rattle.listing_reader.specs.declared.Reader.{Reader}
use Rattle.listing_reader.specs.declared.Contents.{Contents}
use Rattle.listing_reader.specs.Contents.{contents_of}
use Rattle.listing_reader.specs.Invariants.{sofar}
use Rattle.listing_reader.proofs.Facts.Accepted.{contents_bad, contents_asked}
use Rattle.listing_rows.specs.Rows.{rows_of, row_lines, refused_line, names_line, output}
use Rattle.listing.specs.Output.{output_most, turned, answer_on, answer_with, answer_of, answer_for, answer_to, list_of, PrintedIn}

-- ---- a refusal's line

pub wrote-turned : {o : List ℕ} {o' : List ℕ} {r : ℕ} (why : Refusal) (n : ℕ) → n ≡ refusal_number why → Wrote o 0 (refused_line n) o' r × (r ≤ 0 + 29) → Wrote o 0 (turned why) o' r
unfolding turned
wrote-turned why n e w = rw (← e) w.0

-- ---- a new timeline

module _ (m : Machine) (s c0 c1 c2 store t : List ℕ) (sim : Simulator) (f : Result Timeline Refusal) (says : begun f c0 c1 c2 t ≡ new_with plain_kind m s 8 16 (conf sim c0 c1 c2) store) where
  abbrev e : Conf
  e = conf sim c0 c1 c2

  none_is : (why : Refusal) → f ≡ Err why → new_on plain_kind m s 8 16 e store ≡ refused why
  unfolding new_with
  none_is why z = sym (ap (λ y. y.0) (ap (λ (x : Result Timeline Refusal). begun x c0 c1 c2 t) (sym z) ∙ says))

  made_is : (v : Timeline) → f ≡ Ok v → new_on plain_kind m s 8 16 e store ≡ answered (with_lent v c0 c1 c2 t)
  unfolding new_with
  made_is v z = sym (ap (λ y. y.0) (ap (λ (x : Result Timeline Refusal). begun x c0 c1 c2 t) (sym z) ∙ says))

  new_says : (c : Result ⊤ Refusal) (b w : TimelineOf plain_kind) → on_new (ops_for plain_kind m s e) c b ≡ answered w → (c ≡ Ok tt) × (b ≡ w)
  new_says (Ok tt) b w q = (refl, cc)
  new_says (Err why) b w q = let z : ◌≡◌ {A = ℕ} 0 1 = cc in absurd (omega arith)

  pub new_fits : (v : Timeline) → f ≡ Ok v → engine_check m s (conf v.engine c0 c1 c2) ≡ Ok tt
  unfolding new_on new
  new_fits v z =
      let q = new_says (new_check (ops_for plain_kind m s e) 8 16 e store) _ _ (made_is v z) in
      subst (λ (w : TimelineOf plain_kind). engine_check m s w.engine ≡ Ok tt) q.1 (new_passed plain_kind m s 8 16 e store _ refl q.0)

  module _ (calls : List Call) {o o' : List ℕ} {r : ℕ} where
    pub new_turned : (why : Refusal) (n : ℕ) → f ≡ Err why → n ≡ refusal_number why → Wrote o 0 (refused_line n) o' r × (r ≤ 0 + 29) → Wrote o 0 (answer_on m s store calls e) o' r
    unfolding answer_on
    new_turned why n z p w = rw (none_is why z) (wrote-turned why n p w)

    pub new_rows : (v : Timeline) (o₁ : List ℕ) (r₁ : ℕ) → f ≡ Ok v → (r₁ ≡ 0 + 39) × (o₁ ≡ paste o 0 names_line 39) → 39 ≤ length o
        → Wrote o₁ r₁ (row_lines (rows_of m s (with_lent v c0 c1 c2 t) calls)) o' r → Wrote o 0 (answer_on m s store calls e) o' r
    unfolding answer_on output
    new_rows v o₁ r₁ z p h w = rw (made_is v z) (wrote_then (wrote-put o 0 names_line o₁ r₁ names_line refl p (omega arith)) w)

-- ---- the fresh engine

module _ (m : Machine) (s word : List ℕ) (lent : Lent) (store : List ℕ) (calls : List Call) (d0 d1 d2 : List ℕ) (f : Result Simulator Refusal)
    (says : made f d0 d1 d2 ≡ new_answer m s word lent.c0 lent.c1 lent.c2) {o o' : List ℕ} {r : ℕ} where
  pub fresh_turned : (why : Refusal) (n : ℕ) → f ≡ Err why → n ≡ refusal_number why → Wrote o 0 (refused_line n) o' r × (r ≤ 0 + 29) → Wrote o 0 (answer_with m s word lent store calls) o' r
  unfolding answer_with
  fresh_turned why n z p w = rw (← says, z) (wrote-turned why n p w)

  pub fresh_made : (v : Simulator) → f ≡ Ok v → Wrote o 0 (answer_on m s store calls (conf v d0 d1 d2)) o' r → Wrote o 0 (answer_with m s word lent store calls) o' r
  unfolding answer_with
  fresh_made v z w = rw (← says, z) w

-- ---- what was read

module _ (input : List ℕ) (g : Contents) (says : g ≡ contents_of input) {o o' : List ℕ} {r : ℕ} where
  pub read_bad : (n : ℕ) → g.parsed ≡ Err n → Wrote o 0 (refused_line n) o' r × (r ≤ 0 + 29) → Wrote o 0 (answer_to input) o' r
  unfolding answer_to answer_for
  read_bad n z q = rw (contents_bad input g says n z) q.0

  pub read_asked : (x : Reader) → g.parsed ≡ Ok x → Wrote o 0 (answer_of (sofar x g.table g.word g.calls)) o' r → Wrote o 0 (answer_to input) o' r
  unfolding answer_to answer_for
  read_asked x z q = rw (contents_asked input g says x z) q

-- ---- the whole

paste_first : (o bs : List ℕ) → paste o 0 bs (length bs) ≡ bs ++ drop (length bs) o
paste_first o bs = let z : 0 + length bs ≡ length bs = omega arith in rw (z, take-length bs)

module _ (input out : List ℕ) where
  pub list_short : length out < output_most → (Err Why.OutputSize, out) ≡ list_of input out
  unfolding list_of pick
  list_short h = rw (lt-ltb (length out) output_most h)

  pub list_long : (out' : List ℕ) (r : ℕ) → output_most ≤ length out → Wrote out 0 (answer_to input) out' r → (Ok r, out') ≡ list_of input out
  unfolding list_of pick
  list_long out' r h w =
      let z : r ≡ length (answer_to input) = omega (arith, w.ends) in
      let y : out' ≡ answer_to input ++ drop (length (answer_to input)) out = w.text ∙ paste_first out (answer_to input) in
      rw (le-ltb (length out) output_most h) (λ i. (Ok (z i), y i))

pub printed_in : (r : Result ℕ Refusal) (n long : ℕ) → r ≡ Ok n → PrintedIn r long → n ≤ long
printed_in r n long z p = rw z at p
