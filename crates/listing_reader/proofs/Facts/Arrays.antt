-- The places of the three arrays, line after line: the first hold what was read, the others hold 0. Assumes nothing.
use Prim.Native.Nat.{ℕ, zero, suc, ◌-◌, ◌≤◌, ◌<◌}
use Rattle.std.specs.Prelude.{◌≡◌, refl, ltb, drop, replicate, None, Option, Some}
use Rattle.std.proofs.Math.Path.{sym, ap}
use Rattle.std.proofs.Common.{◌∙◌, subst, arith, length-append, length-take-le, ltb-true}
use mathlib.Core.List.{List, [], ◌∷◌, ◌++◌}
use Rattle.std.proofs.Math.ListN.{length, set}
use Rattle.std.proofs.lemmas.List.{set_at}
use Rattle.std.proofs.Math.Seq.{append_snoc}
use Rattle.notation.proofs.Facts.Tests.{pick_cases}
use Rattle.timeline_rule.specs.declared.Call.{Call}
use Rattle.timeline_rule.specs.declared.Call.TheVariants.{Seek}
use Rattle.listing_text.specs.Pieces.{same_list}
use Rattle.listing_lines.specs.Forms.{first_line, columns_line, word_line, heading_line, on_some, machine_line, entry_line, word_of, word_before, call_line, given}
use Rattle.listing_lines.specs.Model.{over}
use Rattle.listing_reader.specs.declared.Due.{Due}
use Rattle.listing_reader.specs.declared.Due.TheVariants.{Names, Numbers, Columns, Entries, Word, Heading, Calls}
use Rattle.listing_reader.specs.declared.Reader.{Reader}
use Rattle.listing_reader.specs.Listing.{Sofar, Next, on, bad, line}
use Rattle.listing_reader.specs.Contents.{word_left, broken_off, filled, places_of}
use Rattle.listing_reader.specs.Invariants.{sofar, call_put, Leaves}
use Rattle.listing_reader.proofs.Facts.Word.{word-whole}

-- ---- arrays

abbrev zeros : ℕ → List ℕ
zeros n = replicate n 0

drop-zeros : (n m : ℕ) → drop n (zeros m) ≡ zeros (m - n)
drop-zeros zero m = let z : m ≡ m - 0 = omega arith in ap zeros z
drop-zeros (suc n) zero = let z : 0 ≡ 0 - suc n = omega arith in ap zeros z
drop-zeros (suc n) (suc m) = let z : m - n ≡ suc m - suc n = omega arith in drop-zeros n m ∙ ap zeros z

-- v written over zeros
over_zeros : (n : ℕ) (v : List ℕ) → over v (filled n 0 []) ≡ filled n 0 v
unfolding filled
over_zeros n v =
    let z : n - 0 ≡ n = omega arith in
    ap (λ (k : ℕ). v ++ drop (length v) (zeros k)) z ∙ ap (λ (u : List ℕ). v ++ u) (drop-zeros (length v) n)

one_blank : {A : Type 0} (a : A) (n : ℕ) → 1 ≤ n → replicate n a ≡ a ∷ replicate (n - 1) a
one_blank a zero h = absurd (omega arith)
one_blank a (suc n) h = let z : n ≡ suc n - 1 = omega arith in ap (λ (k : ℕ). a ∷ replicate k a) z

-- one more call
put-filled : (cs : List Call) (k : Call) (m : ℕ) → length cs < m → set (filled m (Seek 0) cs) (length cs) k ≡ filled m (Seek 0) (cs ++ (k ∷ []))
unfolding filled
put-filled cs k m h =
    let j : ℕ = m - length cs in
    let z : j - 1 ≡ m - length (cs ++ (k ∷ [])) = omega (arith, length-append cs (k ∷ [])) in
    ap (λ (u : List Call). set (cs ++ u) (length cs) k) (one_blank (Seek 0) j (omega arith))
    ∙ set_at cs (Seek 0) (replicate (j - 1) (Seek 0)) k (length cs) refl
    ∙ ap (λ (n : ℕ). cs ++ k ∷ replicate n (Seek 0)) z
    ∙ sym (append_snoc cs k (replicate (m - length (cs ++ (k ∷ []))) (Seek 0)))

-- ---- what a good line says

-- no word is read before the word line
abbrev pub Unheard : Due → Sofar → Type 0
Unheard Names y = y.word ≡ []
Unheard Numbers y = y.word ≡ []
Unheard Columns y = y.word ≡ []
Unheard Entries y = y.word ≡ []
Unheard Word y = y.word ≡ []
Unheard Heading y = Unit {0}
Unheard Calls y = Unit {0}

abbrev CallsBy : Due → Sofar → List ℕ → Sofar → Type 0
CallsBy Names y l z = z.calls ≡ y.calls
CallsBy Numbers y l z = z.calls ≡ y.calls
CallsBy Columns y l z = z.calls ≡ y.calls
CallsBy Entries y l z = z.calls ≡ y.calls
CallsBy Word y l z = z.calls ≡ y.calls
CallsBy Heading y l z = z.calls ≡ y.calls
CallsBy Calls y l z = (k : Call) × (call_line l ≡ Some k) × (length y.calls < 64) × (z.calls ≡ y.calls ++ (k ∷ []))

abbrev Said : Due → Sofar → List ℕ → Next → Type 0
Said d y l bad = Unit {0}
Said d y l (on d' z) = (z.word ≡ word_left d y l) × CallsBy d y l z × (Unheard d y → Unheard d' z)

some_said : {A B : Type 0} (o : Option B) (out : A) (go : B → A) (P : A → Type 0) → P out → ((b : B) → o ≡ Some b → P (go b)) → P (on_some o out go)
unfolding on_some
some_said (Some b) out go P p f = f b refl
some_said None out go P p f = p

said : (d : Due) (y : Sofar) (l : List ℕ) → Said d y l (line d y l)
unfolding line word_left
said Names y l = pick_cases (same_list l first_line) (on Numbers y) bad (Said Names y l) (λ _. (refl, refl, λ u. u)) (λ _. tt)
said Numbers y l = some_said (machine_line l) bad _ (Said Numbers y l) tt (λ m e. (refl, refl, λ u. u))
said Columns y l = pick_cases (same_list l columns_line) (on Entries y) bad (Said Columns y l) (λ _. (refl, refl, λ u. u)) (λ _. tt)
said Entries y l =
    pick_cases (same_list l word_line) (on Word y) _ (Said Entries y l) (λ _. (refl, refl, λ u. u))
    (λ _. some_said (entry_line y.machine l) bad _ (Said Entries y l) tt
    (λ e q. pick_cases (given y.machine y.table e) bad _ (Said Entries y l) (λ _. tt) (λ _. (refl, refl, λ u. u))))
said Word y l =
    some_said (word_of y.machine.symbols l) bad _ (Said Word y l) tt
    (λ w e. (sym (word-whole y.machine.symbols l w e), refl, λ _. tt))
said Heading y l = pick_cases (same_list l heading_line) (on Calls y) bad (Said Heading y l) (λ _. (refl, refl, λ _. tt)) (λ _. tt)
said Calls y l =
    pick_cases (ltb (length y.calls) 64) _ bad (Said Calls y l)
    (λ q. some_said (call_line l) bad _ (Said Calls y l) tt (λ k e. (refl, (k, e, ltb-true (length y.calls) 64 q, refl), λ _. tt)))
    (λ _. tt)

-- ---- the places hold what was read

pub record Placed (y : Sofar) (w : List ℕ) (c : List Call) : Type 0 where
  pub word_is : w ≡ filled 81 0 y.word
  pub calls_are : c ≡ filled 64 (Seek 0) y.calls

module _ (x : Reader) (t w : List ℕ) (c : List Call) (l t' w' : List ℕ) (c' : List Call) (p : Placed (sofar x t w c) w c) (room : x.calls ≤ length c) where
  abbrev y : Sofar
  y = sofar x t w c

  -- the word, also where the line is bad
  word_placed : (d : Due) (r : Option Reader) → Unheard d y → Leaves d r x l t w c t' w' c' → w' ≡ filled 81 0 (word_left d y l)
  unfolding word_left sofar
  word_placed Names r u q = q.1 ∙ p.word_is
  word_placed Numbers r u q = q.1 ∙ p.word_is
  word_placed Columns r u q = q.1 ∙ p.word_is
  word_placed Entries r u q = q.1 ∙ p.word_is
  word_placed Word r u q =
      let v : List ℕ = word_before x.machine.symbols l in
      q.1 ∙ ap (over v) (p.word_is ∙ ap (filled 81 0) u) ∙ over_zeros 81 v
  word_placed Heading r u q = q.1 ∙ p.word_is
  word_placed Calls r u q = q.1 ∙ p.word_is

  -- the calls where the line is good
  calls_placed : (d : Due) (v : Reader) (z : Sofar) → CallsBy d y l z → Leaves d (Some v) x l t w c t' w' c' → c' ≡ filled 64 (Seek 0) z.calls
  unfolding sofar
  calls_placed Names v z k q = q.2 ∙ p.calls_are ∙ ap (filled 64 (Seek 0)) (sym k)
  calls_placed Numbers v z k q = q.2 ∙ p.calls_are ∙ ap (filled 64 (Seek 0)) (sym k)
  calls_placed Columns v z k q = q.2 ∙ p.calls_are ∙ ap (filled 64 (Seek 0)) (sym k)
  calls_placed Entries v z k q = q.2 ∙ p.calls_are ∙ ap (filled 64 (Seek 0)) (sym k)
  calls_placed Word v z k q = q.2 ∙ p.calls_are ∙ ap (filled 64 (Seek 0)) (sym k)
  calls_placed Heading v z k q = q.2 ∙ p.calls_are ∙ ap (filled 64 (Seek 0)) (sym k)
  calls_placed Calls v z k q =
      let n : x.calls ≡ length y.calls = sym (length-take-le x.calls c room) in
      q.2
      ∙ ap (λ o. call_put o x.calls c) k.1
      ∙ ap (λ i. set c i k.0) n
      ∙ ap (λ u. set u (length y.calls) k.0) p.calls_are
      ∙ put-filled y.calls k.0 64 k.2
      ∙ ap (filled 64 (Seek 0)) (sym k.3)

  -- a good line
  module _ (v : Reader) (u : Unheard x.due y) (q : Leaves x.due (Some v) x l t w c t' w' c') where
    goes : (d : Due) (z : Sofar) → on d z ≡ line x.due y l → Said x.due y l (on d z)
    goes d z e = subst (Said x.due y l) (sym e) (said x.due y l)

    pub placed_next : (d : Due) (z : Sofar) → on d z ≡ line x.due y l → Placed z w' c' × Unheard d z
    placed_next d z e =
        let s = goes d z e in (
          record {
            word_is = word_placed x.due (Some v) u q ∙ ap (filled 81 0) (sym s.0);
            calls_are = calls_placed x.due v z s.1 q;
          },
          s.2 u,
        )

  -- a bad line
  table_kept : (d : Due) → Leaves d None x l t w c t' w' c' → t' ≡ t
  table_kept Names q = q.0
  table_kept Numbers q = q.0
  table_kept Columns q = q.0
  table_kept Entries q = q.0
  table_kept Word q = q.0
  table_kept Heading q = q.0
  table_kept Calls q = q.0

  calls_kept : (d : Due) → Leaves d None x l t w c t' w' c' → c' ≡ c
  calls_kept Names q = q.2
  calls_kept Numbers q = q.2
  calls_kept Columns q = q.2
  calls_kept Entries q = q.2
  calls_kept Word q = q.2
  calls_kept Heading q = q.2
  calls_kept Calls q = q.2

  pub placed_bad : (d : Due) → Unheard d y → Leaves d None x l t w c t' w' c' → (t', w', c') ≡ places_of (broken_off d y l)
  unfolding places_of broken_off sofar
  placed_bad d u q = λ i. (table_kept d q i, word_placed d None u q i, (calls_kept d q ∙ p.calls_are) i)

-- where nothing more is read
pub placed_end : (x : Reader) (t w : List ℕ) (c : List Call) → Placed (sofar x t w c) w c → (t, w, c) ≡ places_of (sofar x t w c)
unfolding places_of sofar
placed_end x t w c p = λ i. (t, p.word_is i, p.calls_are i)
