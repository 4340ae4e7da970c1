-- The turns of the reader that write a lent slice, one fact for each path through them. Assumes nothing.
use Prim.Native.Nat.{ℕ, ◌+◌, ◌≤◌, ◌<◌}
use Rattle.std.specs.Prelude.{◌≡◌, refl, Bool, true, false, length, drop, set, None, Option, Some}
use Rattle.std.proofs.Common.{sym, ◌∙◌, arith, add-one, length-take-le}
use Rattle.std.proofs.Math.Path.{ap}
use mathlib.Core.List.{List}
use Rattle.std.proofs.Math.ListN.{take}
use Rattle.std.proofs.Math.Seq.{take_at, take-suc-set}
use borrow.Author.Tests.{lt-ltb, le-ltb}
use Rattle.notation.specs.Choice.{pick}
use Rattle.timeline_rule.specs.declared.Call.{Call}
use Rattle.listing_text.specs.Pieces.{same_list}
use Rattle.listing_lines.specs.declared.Rule.{Rule}
use Rattle.listing_lines.specs.Forms.{word_line, on_some, entry_line, word_of, word_before, call_line, given, define}
use Rattle.listing_lines.specs.Model.{count_of, over, read_word, CountOk}
use Rattle.listing_reader.specs.declared.Due.TheVariants.{Entries, Word, Heading, Calls}
use Rattle.listing_reader.specs.declared.Reader.{Reader}
use Rattle.listing_reader.specs.Listing.{line}
use Rattle.listing_reader.specs.Invariants.{sofar, next_of, call_put, ReaderOk}
use Rattle.listing_reader.proofs.Facts.Word.{word-whole}

-- ---- an entry line that defines an entry, or finds it given

module _ (x : Reader) (t w : List ℕ) (c : List Call) (l : List ℕ) (b : Bool) (n : b ≡ same_list l word_line) (nz : b ≡ false)
    (r : Option Rule) (f : r ≡ entry_line x.machine l) (e : Rule) (q : r ≡ Some e) (g : Bool) (t' : List ℕ)
    (p : (g ≡ given x.machine t e) × (t' ≡ pick g t (define x.machine t e))) where
  pub entries_given : g ≡ true → next_of None t' w c ≡ line Entries (sofar x t w c) l
  unfolding line next_of sofar pick on_some
  entries_given z = simp (← n, nz, ← f, q, ← p.0, z)

  pub entries_on : g ≡ false
      → next_of (Some (record { due = Entries; machine = x.machine; word = x.word; calls = x.calls })) t' w c ≡ line Entries (sofar x t w c) l
  unfolding line next_of sofar pick on_some
  entries_on z = simp (← n, nz, ← f, q, ← p.0, z) (rw (p.1, z))

-- an entry that was given before leaves the table unchanged
pub given-left : (g : Bool) (t d t' : List ℕ) → t' ≡ pick g t d → g ≡ true → t' ≡ t
unfolding pick
given-left g t d t' p z = simp z at p

-- ---- the word line

no_count : {n : ℕ} → Some n ≡ None → ⊥
no_count p = let z : ◌≡◌ {A = ℕ} 0 1 = cc in omega arith

count_bad : (o : Option (List ℕ)) → count_of o ≡ None → o ≡ None
unfolding count_of
count_bad (Some v) p = absurd (no_count p)
count_bad None p = refl

count_some : (o : Option (List ℕ)) (n : ℕ) → count_of o ≡ Some n → (v : List ℕ) × (o ≡ Some v) × (length v ≡ n)
unfolding count_of
count_some (Some v) n p = (v, refl, cc)
count_some None n p = absurd (no_count (sym p))

module _ (x : Reader) (w l : List ℕ) (r : Option ℕ) (w' : List ℕ) (e : (r, w') ≡ read_word x.machine.symbols l w) where
  counted : r ≡ count_of (word_of x.machine.symbols l)
  unfolding read_word
  counted = ap (λ (p : Option ℕ × List ℕ). p.0) e

  pub word_left_holds : w' ≡ over (word_before x.machine.symbols l) w
  unfolding read_word
  word_left_holds = ap (λ (p : Option ℕ × List ℕ). p.1) e

  module _ (t : List ℕ) (c : List Call) where
    pub word_turn_bad : r ≡ None → next_of None t w' c ≡ line Word (sofar x t w c) l
    unfolding line next_of sofar on_some
    word_turn_bad q = simp (count_bad (word_of x.machine.symbols l) (sym counted ∙ q))

    pub word_turn_on : (n : ℕ) → r ≡ Some n
        → next_of (Some (record { due = Heading; machine = x.machine; word = n; calls = x.calls })) t w' c ≡ line Word (sofar x t w c) l
    unfolding line next_of sofar on_some
    word_turn_on n q =
        let z = count_some (word_of x.machine.symbols l) n (sym counted ∙ q) in
        let v : List ℕ = z.0 in
        let y : take n w' ≡ v = ap (take n) word_left_holds ∙ ap (λ u. take n (over u w)) (word-whole x.machine.symbols l v z.1) ∙ take_at v (drop (length v) w) n z.2 in
        simp (z.1, y)

pub count_on_lem : (r : Option ℕ) (n : ℕ) → r ≡ Some n → CountOk r → n ≤ 81
count_on_lem r n e o = rw e at o

-- ---- a call line

module _ (x : Reader) (t w : List ℕ) (c : List Call) (l : List ℕ) (room : 64 ≤ length c) where
  pub calls_full : ReaderOk x → 64 ≤ x.calls → next_of None t w c ≡ line Calls (sofar x t w c) l
  unfolding line next_of sofar pick
  calls_full ok h = simp (length-take-le x.calls c (omega (arith, ok.calls_ok)), le-ltb x.calls 64 h)

  module _ (r : Option Call) (e : r ≡ call_line l) (h : x.calls < 64) where
    pub calls_bad : r ≡ None → next_of None t w c ≡ line Calls (sofar x t w c) l
    unfolding line next_of sofar pick on_some
    calls_bad q = simp (length-take-le x.calls c (omega arith), lt-ltb x.calls 64 h, ← e, q)

    pub calls_on : (k : Call) (c' : List Call) → c' ≡ set c x.calls k → r ≡ Some k
        → next_of (Some (record { due = Calls; machine = x.machine; word = x.word; calls = x.calls + 1 })) t w c' ≡ line Calls (sofar x t w c) l
    unfolding line next_of sofar pick on_some
    calls_on k c' p q =
        simp (length-take-le x.calls c (omega arith), lt-ltb x.calls 64 h, ← e, q) (rw (p, add-one x.calls, take-suc-set c x.calls k (omega arith)))

pub call-left : (r o : Option Call) (n : ℕ) (c : List Call) (k : Call) (c' : List Call) → r ≡ o → r ≡ Some k → c' ≡ set c n k → c' ≡ call_put o n c
call-left r o n c k c' e q p = rw (← e, q) p
