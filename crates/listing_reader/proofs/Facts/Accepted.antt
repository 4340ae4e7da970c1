-- The table and the word of an accepted listing pass the checks of every operation that takes them. Assumes nothing.
use Rattle.std.specs.Prelude.{ℕ, suc, zero, ◌+◌, ◌*◌, ◌-◌, ◌^◌, ◌≤◌, ◌<◌, List, [], ◌∷◌, leb, ltb, length, get_or, replicate, Err, None, Ok, Option, Some}
use Rattle.std.proofs.Math.Path.{◌≡◌, refl, ap}
use Rattle.std.proofs.Common.{sym, ◌∙◌, subst, arith, pow-suc, length-append, get_or-take, length-take-le}
use Rattle.std.proofs.Math.Nat.{pow-zero}
use Rattle.std.proofs.lemmas.List.{length-replicate}
use Rattle.std.proofs.Math.Seq.{take-append_seam}
use borrow.Author.Tests.{leb-true, ltb-true, lt-ltb, le-leb}
use Rattle.notation.proofs.Facts.Tests.{pick_true, pick_cases}
use Rattle.notation.proofs.Facts.Scan.{clean_none}
use Rattle.notation.specs.Limits.{word_most}
use Rattle.outcome.specs.declared.Refusal.TheVariants as Why
use Rattle.machine.specs.declared.Machine.{Machine}
use Rattle.machine.specs.Layout.{entry_count}
use Rattle.machine.specs.Model.Check.{answer_at, table_check}
use Rattle.machine.specs.Model.Word.{symbol_in, symbols_check, word_check}
use Rattle.table_laws.specs.WellFormed.{LaidOut, WellFormed}
use Rattle.table_laws.proofs.Facts.CheckExact.{table_check_accepts}
use Rattle.timeline_rule.specs.declared.Call.TheVariants.{Seek}
use Rattle.listing_text.specs.Pieces.{same_list, lines}
use Rattle.listing_text.proofs.Facts.Chain.{pick_inv}
use Rattle.listing_lines.specs.Forms.{first_line, columns_line, word_line, heading_line, on_some, machine_line, entry_line, word_of, call_line, given}
use Rattle.listing_lines.proofs.Facts.Forms.{Good, good_small, machine_good, rule_ok}
use Rattle.listing_reader.specs.declared.Due.{Due}
use Rattle.listing_reader.specs.declared.Due.TheVariants.{Names, Numbers, Columns, Entries, Word, Heading, Calls}
use Rattle.listing_reader.specs.declared.Reader.{Reader}
use Rattle.listing_reader.specs.declared.Contents.{Contents}
use Rattle.listing_reader.specs.Listing.{Sofar, table_in, nothing, Next, on, bad, line, Listing, refused, asked, at_end, on_next, read_from, listing}
use Rattle.listing_reader.specs.Contents.{broken_off, read_up_to, last_read, filled, places_of, reader_of, parsed_of, contents_of}
use Rattle.listing_reader.specs.Invariants.{sofar, ReaderOk}
use Rattle.listing_reader.proofs.Facts.Word.{AllBelow, word_good}
use Rattle.listing_reader.proofs.Facts.Table.{Laid, laid_blank, define_length, laid_define}

-- ---- the invariant of the lines after line 2

pub record Kept (x : Sofar) : Type 0 where
  pub good : Good x.machine
  pub long : length x.table ≡ 4096
  pub laid : Laid x.machine x.table
  pub in_range : AllBelow x.machine.symbols x.word
  pub short : length x.word ≤ 40
  pub few_calls : length x.calls ≤ 64

abbrev pub Ready : Due → Sofar → Type 0
Ready Names x = x ≡ nothing
Ready Numbers x = x ≡ nothing
Ready Columns x = Kept x
Ready Entries x = Kept x
Ready Word x = Kept x
Ready Heading x = Kept x
Ready Calls x = Kept x

abbrev pub ReadyNext : Next → Type 0
ReadyNext (on d x) = Ready d x
ReadyNext bad = Unit {0}

pub some_cases : {A B : Type 0} (o : Option B) (out : A) (go : B → A) (P : A → Type 0) → P out → ((b : B) → o ≡ Some b → P (go b)) → P (on_some o out go)
unfolding on_some
some_cases (Some b) out go P p f = f b refl
some_cases None out go P p f = p

first_kept : (m : Machine) → Good m → Kept (record { machine = m; table = nothing.table; word = nothing.word; calls = nothing.calls })
unfolding nothing
first_kept m g =
    record {
      good = g;
      long = length-replicate {A = ℕ} 4096 0;
      laid = laid_blank m g;
      in_range = λ i h. absurd (omega arith);
      short = omega arith;
      few_calls = omega arith;
    }

pub keeps : (d : Due) (x : Sofar) (l : List ℕ) → length l ≤ 80 → Ready d x → ReadyNext (line d x l)
unfolding line
keeps Names x l h r = pick_cases (same_list l first_line) (on Numbers x) bad ReadyNext (λ _. r) (λ _. tt)
keeps Numbers x l h r =
    some_cases (machine_line l) bad _ ReadyNext tt
    (λ m e. rw r (first_kept m (machine_good l m e)))
keeps Columns x l h r = pick_cases (same_list l columns_line) (on Entries x) bad ReadyNext (λ _. r) (λ _. tt)
keeps Entries x l h r =
    pick_cases (same_list l word_line) (on Word x) _ ReadyNext (λ _. r)
    (λ _. some_cases (entry_line x.machine l) bad _ ReadyNext tt
    (λ e q. pick_cases (given x.machine x.table e) bad _ ReadyNext (λ _. tt)
    (λ _.
    record {
      good = r.good;
      long = define_length x.machine x.table e r.good (rule_ok x.machine l e q) r.long;
      laid = laid_define x.machine x.table e r.good (rule_ok x.machine l e q) r.long r.laid;
      in_range = r.in_range;
      short = r.short;
      few_calls = r.few_calls;
    })))
keeps Word x l h r =
    some_cases (word_of x.machine.symbols l) bad _ ReadyNext tt
    (λ w q.
    let k = word_good x.machine.symbols l w h q in
    record { good = r.good; long = r.long; laid = r.laid; in_range = k.0; short = k.1; few_calls = r.few_calls })
keeps Heading x l h r = pick_cases (same_list l heading_line) (on Calls x) bad ReadyNext (λ _. r) (λ _. tt)
keeps Calls x l h r =
    pick_cases (ltb (length x.calls) 64) _ bad ReadyNext
    (λ q. some_cases (call_line l) bad _ ReadyNext tt
    (λ c _.
    record {
      good = r.good;
      long = r.long;
      laid = r.laid;
      in_range = r.in_range;
      short = r.short;
      few_calls = omega (arith, length-append x.calls (c ∷ []), ltb-true (length x.calls) 64 q);
    }))
    (λ _. tt)

-- ---- the whole listing

abbrev KeptListing : Listing → Type 0
KeptListing (refused n) = Unit {0}
KeptListing (asked x) = Kept x

end_kept : (n : ℕ) (d : Due) (x : Sofar) → Ready d x → KeptListing (at_end n d x)
unfolding at_end
end_kept n Names x r = tt
end_kept n Numbers x r = tt
end_kept n Columns x r = tt
end_kept n Entries x r = tt
end_kept n Word x r = tt
end_kept n Heading x r = tt
end_kept n Calls x r = r

next_kept : (y : Next) (n : ℕ) (go : Due → Sofar → Listing) → ReadyNext y → ((d : Due) (x : Sofar) → Ready d x → KeptListing (go d x)) → KeptListing (on_next y (refused n) go)
unfolding on_next
next_kept (on d x) n go r f = f d x r
next_kept bad n go r f = tt

read_kept : (n : ℕ) (d : Due) (x : Sofar) (ls : List (List ℕ)) → Ready d x → KeptListing (read_from n d x ls)
unfolding read_from
read_kept n d x [] r = end_kept n d x r
read_kept n d x (l ∷ ls) r =
    pick_cases (leb (length l) 80) _ (refused n) KeptListing
    (λ q. next_kept (line d x l) n _ (keeps d x l (leb-true (length l) 80 q) r) (λ d' x' r'. read_kept (n + 1) d' x' ls r'))
    (λ _. tt)

pub asked_kept : (s : List ℕ) (x : Sofar) → listing s ≡ asked x → Kept x
unfolding listing
asked_kept s x e = subst KeptListing e (read_kept 1 Names nothing (lines s) refl)

-- ---- the checks

module _ (x : Sofar) (k : Kept x) where
  one_tape_holds : entry_count x.machine ≡ x.machine.states * x.machine.symbols
  one_tape_holds =
      let e : x.machine.symbols ^ 1 ≡ x.machine.symbols = pow-suc x.machine.symbols 0 ∙ ap (λ n. n * x.machine.symbols) (pow-zero x.machine.symbols) ∙ omega arith in
      ap (λ n. x.machine.states * n) (ap (λ t. x.machine.symbols ^ t) k.good.one ∙ e)

  kept_formed : WellFormed x.machine (table_in x)
  kept_formed zero = tt
  kept_formed (suc zero) = (omega (arith, k.good.one), omega (arith, k.good.one))
  kept_formed (suc (suc zero)) = (k.good.some_symbols, k.good.few_symbols)
  kept_formed (suc (suc (suc zero))) = (k.good.some_states, k.good.few_states)
  kept_formed (suc (suc (suc (suc zero)))) = k.good.start_in
  kept_formed (suc (suc (suc (suc (suc zero))))) =
      length-take-le (8 * (x.machine.states * x.machine.symbols)) x.table (omega (arith, k.long, k.good.few)) ∙ ap (λ n. 8 * n) (sym one_tape_holds)
  kept_formed (suc (suc (suc (suc (suc (suc zero)))))) = λ i h.
      let q : i < x.machine.states * x.machine.symbols = omega (arith, h, one_tape_holds) in
      let old : LaidOut x.machine x.table i = k.laid i q in
      record {
        entry = old.entry;
        of_machine = old.of_machine;
        written = λ j l. get_or-take (8 * (x.machine.states * x.machine.symbols)) x.table (8 * i + j) 0 (omega arith) ∙ old.written j l;
      }
  kept_formed (suc (suc (suc (suc (suc (suc (suc n))))))) = tt

module _ (s : List ℕ) (x : Sofar) (e : listing s ≡ asked x) where
  pub asked_good : table_check x.machine (table_in x) ≡ Ok tt
  asked_good = table_check_accepts x.machine (table_in x) (kept_formed x (asked_kept s x e))

  pub asked_word : word_check x.machine.symbols x.word ≡ Ok tt
  unfolding word_check symbols_check
  asked_word =
      let k : Kept x = asked_kept s x e in
      pick_true _ _ _ (le-leb (length x.word) word_most (omega (arith, k.short)))
      ∙ ap (answer_at Why.WordSymbol) (clean_none (symbol_in x.machine.symbols x.word) (length x.word) 0
      (λ i a b. lt-ltb (get_or x.word i 0) x.machine.symbols (k.in_range i (omega arith))))

-- ---- the parts of what `read` returns

no_asked : {n : ℕ} {x : Sofar} → refused n ≡ asked x → ⊥
no_asked p = let z : ◌≡◌ {A = ℕ} 0 1 = cc in omega arith

-- an input without a bad line is read to its end
end_read : (n : ℕ) (d : Due) (x y : Sofar) → at_end n d x ≡ asked y → x ≡ y
unfolding at_end
end_read n Names x y p = absurd (no_asked p)
end_read n Numbers x y p = absurd (no_asked p)
end_read n Columns x y p = absurd (no_asked p)
end_read n Entries x y p = absurd (no_asked p)
end_read n Word x y p = absurd (no_asked p)
end_read n Heading x y p = absurd (no_asked p)
end_read n Calls x y p = cc

up_to_end : (n : ℕ) (d : Due) (x : Sofar) (ls : List (List ℕ)) (y : Sofar) → read_from n d x ls ≡ asked y → read_up_to d x ls ≡ y
unfolding read_from read_up_to on_next
up_to_end n d x [] y p = end_read n d x y p
up_to_end n d x (l ∷ ls) y p =
    let q = pick_inv (leb (length l) 80) _ no_asked p in
    pick_true (leb (length l) 80) _ x q.0 ∙ by (λ d' x' e. up_to_end (n + 1) d' x' ls y e) (line d x l) q.1
  where
    by : ((d' : Due) (x' : Sofar) → read_from (n + 1) d' x' ls ≡ asked y → read_up_to d' x' ls ≡ y)
        → (z : Next) → on_next z (refused n) (λ d' x'. read_from (n + 1) d' x' ls) ≡ asked y → on_next z (broken_off d x l) (λ d' x'. read_up_to d' x' ls) ≡ y
    by rest (on d' x') e = rest d' x' e
    by rest bad e = absurd (no_asked e)

-- the arrays contain what the input asks for
asked_back : (x : Sofar) → sofar (reader_of x) (places_of x).0 (places_of x).1 (places_of x).2 ≡ x
unfolding sofar places_of filled
asked_back x = λ i. record {
  machine = x.machine;
  table = x.table;
  word = take-append_seam x.word (replicate (81 - length x.word) 0) i;
  calls = take-append_seam x.calls (replicate (64 - length x.calls) (Seek 0)) i;
}

module _ (s : List ℕ) (r : Contents) (e : r ≡ contents_of s) where
  parsed_is : r.parsed ≡ parsed_of (listing s)
  unfolding contents_of
  parsed_is = ap (λ (g : Contents). g.parsed) e

  pub contents_bad : (n : ℕ) → r.parsed ≡ Err n → listing s ≡ refused n
  unfolding parsed_of
  contents_bad n z = by (listing s) (sym parsed_is ∙ z)
    where
      by : (l : Listing) → parsed_of l ≡ Err n → l ≡ refused n
      by (refused k) p = cc
      by (asked x) p = let y : ◌≡◌ {A = ℕ} 0 1 = cc in absurd (omega arith)

  asked_of : (x : Reader) → r.parsed ≡ Ok x → (y : Sofar) × (listing s ≡ asked y) × (reader_of y ≡ x)
  unfolding parsed_of
  asked_of x z = by (listing s) refl (sym parsed_is ∙ z)
    where
      by : (l : Listing) → listing s ≡ l → parsed_of l ≡ Ok x → (y : Sofar) × (listing s ≡ asked y) × (reader_of y ≡ x)
      by (refused n) q p = let y : ◌≡◌ {A = ℕ} 0 1 = cc in absurd (omega arith)
      by (asked y) q p = (y, q, cc)

  pub contents_asked : (x : Reader) → r.parsed ≡ Ok x → listing s ≡ asked (sofar x r.table r.word r.calls)
  unfolding contents_of last_read listing
  contents_asked x z =
      let a = asked_of x z in
      let u : last_read s ≡ a.0 = up_to_end 1 Names nothing (lines s) a.0 a.1 in
      a.1 ∙ ap asked (sym (asked_back a.0))
      ∙ (λ i. asked (sofar (a.2 i) (places_of (sym u i)).0 (places_of (sym u i)).1 (places_of (sym u i)).2))
      ∙ (λ i. asked (sofar x (sym e i).table (sym e i).word (sym e i).calls))

  pub contents_ok : (x : Reader) → r.parsed ≡ Ok x → ReaderOk x
  contents_ok x z =
      let a = asked_of x z in
      let k : Kept a.0 = asked_kept s a.0 a.1 in
      subst ReaderOk a.2 (record { small = good_small k.good; word_ok = omega (arith, k.short); calls_ok = k.few_calls })
