-- Only the first 64 KiB of the input decide: a listing has at most 582 good lines, so its first bad line shows within 47,223 bytes. Assumes nothing.
use Rattle.std.specs.Prelude.{ℕ, zero, suc, ◌+◌, ◌*◌, ◌-◌, ◌≤◌, ◌<◌, ◌≡◌, refl, true, false, List, [], ◌∷◌, eqb, leb, ltb, length, take, drop}
use Rattle.std.proofs.Common.{sym, ap, ◌∙◌, subst, arith, length-append, take_all, take-take, length-take-le, leb-true, ltb-true, eq-eqb, ne_eqb}
use Rattle.std.proofs.Math.Decide.{ℕ_discrete, dec_lt}
use Rattle.std.proofs.lemmas.Bool.{eqb-false}
use Rattle.notation.specs.Choice.{pick}
use Rattle.notation.proofs.Facts.Tests.{by_test, pick_true, pick_false, pick_cases}
use Rattle.store_bytes.proofs.Facts.Slots.{part-drop}
use Rattle.machine.specs.declared.Machine.{Machine}
use Rattle.machine.specs.Layout.{flag_at}
use Rattle.table_laws.proofs.Facts.Entries.{flag_is}
use Rattle.listing_text.specs.Pieces.{same_list, lines}
use Rattle.listing_text.specs.Model.{up_to}
use Rattle.listing_text.proofs.Facts.PieceCases.{up_to_le, pieces_cut}
use Rattle.listing_lines.specs.declared.Rule.{Rule}
use Rattle.listing_lines.specs.Forms.{first_line, columns_line, word_line, heading_line, machine_line, entry_line, word_of, call_line, number_in, place, given, define}
use Rattle.listing_lines.specs.Model.{RuleOk}
use Rattle.listing_lines.proofs.Facts.Forms.{Good, good_small, rule_ok, number_ok}
use Rattle.listing_reader.specs.declared.Due.{Due}
use Rattle.listing_reader.specs.declared.Due.TheVariants.{Names, Numbers, Columns, Entries, Word, Heading, Calls}
use Rattle.listing_reader.specs.Listing.{Sofar, nothing, Next, on, bad, line, refused, on_next, read_from, listing}
use Rattle.listing_reader.proofs.Facts.ParseCases.{read_at, parse_long}
use Rattle.listing_reader.proofs.Facts.Table.{define_same, define_other}
use Rattle.listing_reader.proofs.Facts.Accepted.{Ready, ReadyNext, some_cases, keeps}

-- ---- how many good lines can still follow

-- the number of the first n places whose entry is not yet given
unfoldable blanks : List ℕ → ℕ → ℕ
blanks t zero = 0
blanks t (suc n) = pick (eqb (flag_at t n) 1) 0 1 + blanks t n

blanks_le : (t : List ℕ) (n : ℕ) → blanks t n ≤ n
unfolding blanks
blanks_le t zero = omega arith
blanks_le t (suc n) =
    let h : blanks t n ≤ n = blanks_le t n in
    pick_cases (eqb (flag_at t n) 1) 0 1 (λ k. k + blanks t n ≤ suc n) (λ _. omega arith) (λ _. omega arith)

blanks-same : (t u : List ℕ) (n : ℕ) → ((i : ℕ) → i < n → flag_at u i ≡ flag_at t i) → blanks u n ≡ blanks t n
unfolding blanks
blanks-same t u zero f = refl
blanks-same t u (suc n) f =
    rw (f n (omega arith), blanks-same t u n (λ i h. f i (omega arith)))

blanks_less : (t u : List ℕ) (n p : ℕ) → p < n → (flag_at t p ≡ 1 → ⊥) → flag_at u p ≡ 1 → ((i : ℕ) → ¬ (i ≡ p) → flag_at u i ≡ flag_at t i)
    → blanks u n < blanks t n
unfolding blanks pick
blanks_less t u zero p h a b f = absurd (omega arith)
blanks_less t u (suc n) p h a b f = by (ℕ_discrete n p) (λ q. blanks_less t u n p q a b f)
  where
    by : Dec (n ≡ p) → (p < n → blanks u n < blanks t n) → pick (eqb (flag_at u n) 1) 0 1 + blanks u n < pick (eqb (flag_at t n) 1) 0 1 + blanks t n
    by (yes z) r =
        let s : blanks u n ≡ blanks t n = blanks-same t u n (λ i q. f i (λ e. omega arith)) in
        let x : eqb (flag_at u n) 1 ≡ true = eq-eqb (flag_at u n) 1 (rw z b) in
        let y : eqb (flag_at t n) 1 ≡ false = ne_eqb (flag_at t n) 1 (rw z a) in
        rw (x, y) (omega arith)
    by (no z) r = rw (f n z) (omega (arith, r (omega (arith, z))))

abbrev left : Due → Sofar → ℕ
left Names x = 582
left Numbers x = 581
left Columns x = 580
left Entries x = 67 + blanks x.table 512
left Word x = 66
left Heading x = 65
left Calls x = 64 - length x.calls

abbrev FewerNext : ℕ → Next → Type 0
FewerNext c (on d x) = left d x < c
FewerNext c bad = Unit {0}

entry-fewer : (m : Machine) (t : List ℕ) (e : Rule) → Good m → RuleOk m e → length t ≡ 4096 → given m t e ≡ false → blanks (define m t e) 512 < blanks t 512
unfolding given place
entry-fewer m t e g o long q =
    blanks_less t (define m t e) 512 (number_in m e) (number_ok m e (good_small g) o)
    (eqb-false _ 1 q)
    (sym (flag_is (define m t e) (number_in m e)) ∙ define_same m t e g o long 0 (omega arith))
    (λ i z. sym (flag_is (define m t e) i) ∙ define_other m t e g o long i z 0 (omega arith) ∙ flag_is t i)

fewer : (d : Due) (x : Sofar) (l : List ℕ) → Ready d x → FewerNext (left d x) (line d x l)
unfolding line
fewer Names x l r = pick_cases (same_list l first_line) (on Numbers x) bad (FewerNext 582) (λ _. omega arith) (λ _. tt)
fewer Numbers x l r = some_cases (machine_line l) bad _ (FewerNext 581) tt (λ m e. omega arith)
fewer Columns x l r = pick_cases (same_list l columns_line) (on Entries x) bad (FewerNext 580) (λ _. omega (arith, blanks_le x.table 512)) (λ _. tt)
fewer Entries x l r =
    let c : ℕ = 67 + blanks x.table 512 in
    pick_cases (same_list l word_line) (on Word x) _ (FewerNext c) (λ _. omega arith)
    (λ _. some_cases (entry_line x.machine l) bad _ (FewerNext c) tt
    (λ e q. pick_cases (given x.machine x.table e) bad _ (FewerNext c) (λ _. tt)
    (λ z. omega (arith, entry-fewer x.machine x.table e r.good (rule_ok x.machine l e q) r.long z))))
fewer Word x l r = some_cases (word_of x.machine.symbols l) bad _ (FewerNext 66) tt (λ w e. omega arith)
fewer Heading x l r = pick_cases (same_list l heading_line) (on Calls x) bad (FewerNext 65) (λ _. omega arith) (λ _. tt)
fewer Calls x l r =
    pick_cases (ltb (length x.calls) 64) _ bad (FewerNext (64 - length x.calls))
    (λ q. some_cases (call_line l) bad _ (FewerNext (64 - length x.calls)) tt
    (λ c _. omega (arith, length-append x.calls (c ∷ []), ltb-true (length x.calls) 64 q)))
    (λ _. tt)

-- ---- the first line of an input that is cut

up_to_in : (sep b : ℕ) (s : List ℕ) → up_to sep s < b → b ≤ length s → up_to sep (take b s) ≡ up_to sep s
unfolding up_to
up_to_in sep zero s h g = absurd (omega arith)
up_to_in sep (suc b) [] h g = refl
up_to_in sep (suc b) (c ∷ s) h g =
    by_test (eqb c sep)
    (λ t. pick_true _ _ _ t ∙ sym (pick_true _ _ _ t))
    (λ t.
    let u : up_to sep s < b = omega (arith, pick_false (eqb c sep) 0 (suc (up_to sep s)) t) in
    ap (λ n. pick (eqb c sep) 0 (suc n)) (up_to_in sep b s u (omega arith)))

up_to_out : (sep b : ℕ) (s : List ℕ) → b ≤ up_to sep s → up_to sep (take b s) ≡ b
unfolding up_to
up_to_out sep zero s h = refl
up_to_out sep (suc b) [] h = absurd (omega arith)
up_to_out sep (suc b) (c ∷ s) h =
    by_test (eqb c sep)
    (λ t. absurd (omega (arith, pick_true (eqb c sep) 0 (suc (up_to sep s)) t)))
    (λ t.
    let u : b ≤ up_to sep s = omega (arith, pick_false (eqb c sep) 0 (suc (up_to sep s)) t) in
    pick_false _ _ _ t ∙ ap suc (up_to_out sep b s u))

-- a first line over 80 bytes
long_line : (n : ℕ) (d : Due) (x : Sofar) (s : List ℕ) → 80 < up_to 10 s → read_from n d x (lines s) ≡ refused n
unfolding read_at
long_line n d x s h =
    let e : up_to 10 s ≡ 0 + up_to 10 s = omega arith in
    sym (parse_long s 0 (up_to 10 s) e (omega (arith, up_to_le 10 s)) n d x (read_from n d x (lines s)) refl (omega arith))

line_same : (n : ℕ) (d : Due) (x : Sofar) (l : List ℕ) (a b : List (List ℕ))
    → (length l ≤ 80 → (d' : Due) (x' : Sofar) → line d x l ≡ on d' x' → read_from (n + 1) d' x' a ≡ read_from (n + 1) d' x' b)
    → read_from n d x (l ∷ a) ≡ read_from n d x (l ∷ b)
unfolding read_from on_next
line_same n d x l a b f =
    by_test (leb (length l) 80)
    (λ t. ap (λ y. pick (leb (length l) 80) y (refused n)) (by (line d x l) refl (leb-true (length l) 80 t)))
    (λ t. pick_false _ _ _ t ∙ sym (pick_false _ _ _ t))
  where
    by : (y : Next) → line d x l ≡ y → length l ≤ 80
        → on_next y (refused n) (λ d' x'. read_from (n + 1) d' x' a) ≡ on_next y (refused n) (λ d' x'. read_from (n + 1) d' x' b)
    by (on d' x') e h = f h d' x' e
    by bad e h = refl

-- an input that is cut past its first newline
cut_lines : (b : ℕ) (s : List ℕ) → up_to 10 s < b → b ≤ length s
    → lines (take b s) ≡ take (up_to 10 s) s ∷ lines (take (b - suc (up_to 10 s)) (drop (suc (up_to 10 s)) s))
cut_lines b s h g =
    let u : up_to 10 (take b s) ≡ up_to 10 s = up_to_in 10 b s h g in
    let l : length (take b s) ≡ b = length-take-le b s g in
    let e : suc (up_to 10 s) + (b - suc (up_to 10 s)) ≡ b = omega arith in
    pieces_cut 10 [] (take b s) (omega arith)
    ∙ ap (λ n. take n (take b s) ∷ lines (drop (suc n) (take b s))) u
    ∙ ap (λ p. p ∷ lines (drop (suc (up_to 10 s)) (take b s))) (take-take (up_to 10 s) b s (omega arith))
    ∙ ap (λ p. take (up_to 10 s) s ∷ lines p) (sym (part-drop (suc (up_to 10 s)) (b - suc (up_to 10 s)) s (omega arith) ∙ ap (λ n. drop (suc (up_to 10 s)) (take n s)) e))

-- ---- b bytes decide where at most c good lines can still follow: each takes at most 81 bytes, and a bad line shows within 81

module _ (c b n : ℕ) (d : Due) (x : Sofar) (s : List ℕ) (r : Ready d x) (h : left d x ≤ c) (g : 81 * c + 81 ≤ b) where
  turn : ((k : ℕ) (d' : Due) (x' : Sofar) (u : List ℕ) → Ready d' x' → left d' x' < c → 81 * c ≤ k → read_from (n + 1) d' x' (lines (take k u)) ≡ read_from (n + 1) d' x' (lines u))
      → read_from n d x (lines (take b s)) ≡ read_from n d x (lines s)
  turn rest = whole (dec_lt b (length s)) (dec_lt (up_to 10 s) b)
    where
      on_line : up_to 10 s < b → b < length s → length (take (up_to 10 s) s) ≤ 80 → (d' : Due) (x' : Sofar) → line d x (take (up_to 10 s) s) ≡ on d' x'
          → read_from (n + 1) d' x' (lines (take (b - suc (up_to 10 s)) (drop (suc (up_to 10 s)) s))) ≡ read_from (n + 1) d' x' (lines (drop (suc (up_to 10 s)) s))
      on_line z q k d' x' e =
          let f : left d' x' < left d x = subst (FewerNext (left d x)) e (fewer d x (take (up_to 10 s) s) r) in
          let u : up_to 10 s ≤ 80 = omega (arith, length-take-le (up_to 10 s) s (omega arith)) in
          rest (b - suc (up_to 10 s)) d' x' (drop (suc (up_to 10 s)) s) (subst ReadyNext e (keeps d x (take (up_to 10 s) s) k r)) (omega arith) (omega arith)

      whole : Dec (b < length s) → Dec (up_to 10 s < b) → read_from n d x (lines (take b s)) ≡ read_from n d x (lines s)
      whole (no q) z = ap (λ t. read_from n d x (lines t)) (take_all b s (omega (arith, q)))
      whole (yes q) (no z) =
          long_line n d x (take b s) (omega (arith, z, up_to_out 10 b s (omega (arith, z)))) ∙ sym (long_line n d x s (omega (arith, z)))
      whole (yes q) (yes z) =
          ap (read_from n d x) (cut_lines b s z (omega arith))
          ∙ line_same n d x (take (up_to 10 s) s) _ _ (on_line z q)
          ∙ sym (ap (read_from n d x) (pieces_cut 10 [] s (omega arith)))

near : (c b n : ℕ) (d : Due) (x : Sofar) (s : List ℕ) → Ready d x → left d x ≤ c → 81 * c + 81 ≤ b
    → read_from n d x (lines (take b s)) ≡ read_from n d x (lines s)
near zero b n d x s r h g = turn zero b n d x s r h g (λ k d' x' u r' l g'. absurd (omega arith))
near (suc c) b n d x s r h g = turn (suc c) b n d x s r h g (λ k d' x' u r' l g'. near c k (n + 1) d' x' u r' (omega arith) (omega arith))

-- the first 65,536 bytes of an input decide
pub first_64k : (s : List ℕ) → listing (take 65536 s) ≡ listing s
unfolding listing
first_64k s = near 582 65536 1 Names nothing s refl (omega arith) (omega arith)
