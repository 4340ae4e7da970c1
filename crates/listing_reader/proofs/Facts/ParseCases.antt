-- The reader's loop over the lines, one fact for each path through it. Assumes nothing.
use Rattle.std.specs.Prelude.{ℕ, suc, ◌+◌, ◌-◌, ◌≤◌, ◌<◌, min, ◌≡◌, refl, List, [], ◌∷◌, take, drop, replicate, Err, None, Ok, Option, Result, Some}
use Rattle.std.proofs.Math.Path.{sym, ap}
use Rattle.std.proofs.Common.{◌∙◌, arith, drop_of_length-le, drop-drop, length-take-le}
use Rattle.std.proofs.Math.Decide.{dec_lt}
use Rattle.std.proofs.Math.ListN.{length, length-drop}
use Rattle.std.proofs.Math.Seq.{drop-length, take_all}
use borrow.Author.Tests.{le-leb, lt-leb}
use Rattle.notation.specs.Choice.{pick}
use Rattle.listing_text.specs.Pieces.{lines, pieces}
use Rattle.listing_text.specs.Model.{up_to}
use Rattle.listing_text.proofs.Facts.PieceCases.{up_to_le, pieces_cut, lines_last}
use Rattle.timeline_rule.specs.declared.Call.{Call}
use Rattle.timeline_rule.specs.declared.Call.TheVariants.{Seek}
use Rattle.listing_reader.specs.declared.Due.{Due}
use Rattle.listing_reader.specs.declared.Due.TheVariants.{Names, Calls}
use Rattle.listing_reader.specs.declared.Reader.{Reader}
use Rattle.listing_reader.specs.Listing.{Sofar, Next, on, line, Listing, refused, at_end, on_next, read_from, nothing, listing}
use Rattle.listing_reader.specs.Contents.{broken_off, read_up_to, last_read, filled, places_of, parsed_of, contents_of}
use Rattle.listing_reader.specs.Invariants.{sofar, next_of, Leaves, ReaderOk, TurnOk, LentOk}
use Rattle.listing_reader.proofs.Facts.Arrays.{Unheard, Placed, placed_next, placed_bad, placed_end}

-- the listing from index `at` on, where n, d and x are the result of the lines before it
unfoldable pub read_at : ℕ → Due → Sofar → List ℕ → ℕ → Listing
read_at n d x s at = read_from n d x (lines (drop at s))

-- what is read from index `at` on
unfoldable pub read_on : Due → Sofar → List ℕ → ℕ → Sofar
read_on d x s at = read_up_to d x (lines (drop at s))

-- the line at `at`, and the lines after it
module _ (s : List ℕ) (at e : ℕ) (f : e ≡ at + up_to 10 (drop at s)) (h : at < length s) where
  len : length (take (e - at) (drop at s)) ≡ e - at
  len = length-take-le (e - at) (drop at s) (omega (arith, length-drop at s, up_to_le 10 (drop at s)))

  line_cut : e < length s → lines (drop at s) ≡ take (e - at) (drop at s) ∷ lines (drop (e + 1) s)
  line_cut g =
      let d : e - at ≡ up_to 10 (drop at s) = omega arith in
      let j : at + suc (up_to 10 (drop at s)) ≡ e + 1 = omega arith in
      rw (d, ← j, ← drop-drop (suc (up_to 10 (drop at s))) at s) (pieces_cut 10 [] (drop at s) (omega (arith, length-drop at s)))

  line_last : length s ≤ e → lines (drop at s) ≡ take (e - at) (drop at s) ∷ lines (drop (length s) s)
  unfolding pieces
  line_last g =
      rw (drop-length s, take_all (e - at) (drop at s) (omega (arith, length-drop at s)))
      (lines_last (drop at s) (omega (arith, length-drop at s, up_to_le 10 (drop at s))) (λ z. omega (arith, length-drop at s)))

  line_turn : (a : ℕ) → a ≡ min (e + 1) (length s) → lines (drop at s) ≡ take (e - at) (drop at s) ∷ lines (drop a s)
  line_turn a p = go (dec_lt e (length s))
    where
      go : Dec (e < length s) → lines (drop at s) ≡ take (e - at) (drop at s) ∷ lines (drop a s)
      go (yes q) = let z : a ≡ e + 1 = omega arith in rw z (line_cut q)
      go (no q) = let z : a ≡ length s = omega (arith, q) in rw z (line_last (omega (arith, q)))

  module _ (n : ℕ) (d : Due) (x : Sofar) (y : Listing) (p : read_at n d x s at ≡ y) where
    turn : (a : ℕ) → a ≡ min (e + 1) (length s) → read_from n d x (take (e - at) (drop at s) ∷ lines (drop a s)) ≡ y
    unfolding read_at
    turn a k = rw (line_turn a k) at p

    pub parse_long : 80 < e - at → refused n ≡ y
    unfolding read_from pick
    parse_long g = simp (len, lt-leb (e - at) 80 g) at (turn (min (e + 1) (length s)) refl)

    parse_bad : (r : Option Reader) (t w : List ℕ) (c : List Call) → next_of r t w c ≡ line d x (take (e - at) (drop at s)) → r ≡ None → e - at ≤ 80 → refused n ≡ y
    unfolding read_from pick next_of on_next
    parse_bad r t w c q z g = simp (len, le-leb (e - at) 80 g, ← q, z) at (turn (min (e + 1) (length s)) refl)

    parse_next : (r : Option Reader) (t w : List ℕ) (c : List Call) (v : Reader) (a : ℕ) → next_of r t w c ≡ line d x (take (e - at) (drop at s)) → r ≡ Some v → e - at ≤ 80
        → a ≡ min (e + 1) (length s) → read_at (n + 1) v.due (sofar v t w c) s a ≡ y
    unfolding read_from read_at pick next_of on_next
    parse_next r t w c v a q z g k = simp (len, le-leb (e - at) 80 g, ← q, z) at (turn a k)

  -- the same for what is read
  module _ (d : Due) (x y : Sofar) (p : read_on d x s at ≡ y) where
    turn_on_holds : (a : ℕ) → a ≡ min (e + 1) (length s) → read_up_to d x (take (e - at) (drop at s) ∷ lines (drop a s)) ≡ y
    unfolding read_on
    turn_on_holds a k = rw (line_turn a k) at p

    read_long : 80 < e - at → x ≡ y
    unfolding read_up_to pick
    read_long g = simp (len, lt-leb (e - at) 80 g) at (turn_on_holds (min (e + 1) (length s)) refl)

    read_bad : (r : Option Reader) (t w : List ℕ) (c : List Call) → next_of r t w c ≡ line d x (take (e - at) (drop at s)) → r ≡ None → e - at ≤ 80 → broken_off d x (take (e - at) (drop at s)) ≡ y
    unfolding read_up_to pick next_of on_next
    read_bad r t w c q z g = simp (len, le-leb (e - at) 80 g, ← q, z) at (turn_on_holds (min (e + 1) (length s)) refl)

    read_next : (r : Option Reader) (t w : List ℕ) (c : List Call) (v : Reader) (a : ℕ) → next_of r t w c ≡ line d x (take (e - at) (drop at s)) → r ≡ Some v → e - at ≤ 80
        → a ≡ min (e + 1) (length s) → read_on v.due (sofar v t w c) s a ≡ y
    unfolding read_up_to read_on pick next_of on_next
    read_next r t w c v a q z g k = simp (len, le-leb (e - at) 80 g, ← q, z) at (turn_on_holds a k)

parse_end : (s : List ℕ) (at n : ℕ) (d : Due) (x : Sofar) (y : Listing) → length s ≤ at → read_at n d x s at ≡ y → at_end n d x ≡ y
unfolding read_at read_from pieces
parse_end s at n d x y h p = simp (drop_of_length-le s {i = at} h) at p

read_end : (s : List ℕ) (at : ℕ) (d : Due) (x y : Sofar) → length s ≤ at → read_on d x s at ≡ y → x ≡ y
unfolding read_on read_up_to pieces
read_end s at d x y h p = simp (drop_of_length-le s {i = at} h) at p

-- ---- `take_line` and `finish`: which line is due
pub at-due : (d d' : Due) (x : Sofar) (l : List ℕ) (m : Next) → d ≡ d' → m ≡ line d' x l → m ≡ line d x l
at-due d d' x l m e p = rw e p

pub leaves_at : (d d' : Due) (r : Option Reader) (x : Reader) (l t w : List ℕ) (c : List Call) (t' w' : List ℕ) (c' : List Call) → d ≡ d' → Leaves d' r x l t w c t' w' c' → Leaves d r x l t w c t' w' c'
leaves_at d d' r x l t w c t' w' c' e p = rw e p

module _ (n : ℕ) (x : Reader) (t w : List ℕ) (c : List Call) where
  pub end_due : (d : Due) (y : Result Reader ℕ) → x.due ≡ d → y ≡ parsed_of (at_end n d (sofar x t w c)) → y ≡ parsed_of (at_end n x.due (sofar x t w c))
  unfolding sofar
  end_due d y e p = rw e p

  -- only the call lines are due
  pub end_asked : x.due ≡ Calls → x.word ≤ length w → x.calls ≤ length c → Ok x ≡ parsed_of (at_end n Calls (sofar x t w c))
  unfolding parsed_of at_end sofar
  end_asked e h g =
      let k : x.word ≡ length (take x.word w) = sym (length-take-le x.word w h) in
      let m : x.calls ≡ length (take x.calls c) = sym (length-take-le x.calls c g) in
      λ i. Ok (record { due = e i; machine = x.machine; word = k i; calls = m i })

-- ---- the loop's invariant

on_ok : (r : Option Reader) (y : Reader) → r ≡ Some y → TurnOk r → ReaderOk y
on_ok r y e o = rw e at o

pub record ParseInv (s t₀ w₀ : List ℕ) (c₀ : List Call) (t w : List ℕ) (c : List Call) (x : Reader) (at n : ℕ) : Type 0 where
  pub at_in : at ≤ length s
  pub n_small : n ≤ at + 1
  pub ok : ReaderOk x
  pub lent : LentOk (length t) (length w) (length c)
  pub same_t : length t ≡ length t₀
  pub same_w : length w ≡ length w₀
  pub same_c : length c ≡ length c₀
  pub same : read_at n x.due (sofar x t w c) s at ≡ listing s
  pub read : read_on x.due (sofar x t w c) s at ≡ last_read s
  pub placed : Placed (sofar x t w c) w c
  pub unheard : Unheard x.due (sofar x t w c)

abbrev pub start : Reader
start = record { due = Names; machine = record { tapes = 0; symbols = 0; states = 0; start = 0 }; word = 0; calls = 0 }

pub inv_start : (s t w : List ℕ) (c : List Call) → t ≡ replicate 4096 0 → w ≡ replicate 81 0 → c ≡ replicate 64 (Seek 0) → LentOk (length t) (length w) (length c) → ParseInv s t w c t w c start 0 1
unfolding read_at read_on listing last_read nothing sofar filled
inv_start s t w c e g f l =
    record {
      at_in = omega arith;
      n_small = omega arith;
      ok = record { small = record { few_symbols = omega arith; few_states = omega arith; few = omega arith }; word_ok = omega arith; calls_ok = omega arith };
      lent = l;
      same_t = refl;
      same_w = refl;
      same_c = refl;
      same = rw e;
      read = rw e;
      placed = record { word_is = g; calls_are = f };
      unheard = refl;
    }

-- what the code answers, and the lent slices afterwards
abbrev pub Stopped : (s : List ℕ) → Result Reader ℕ → (t w : List ℕ) (c : List Call) → Type 0
Stopped s r t w c = (r ≡ parsed_of (listing s)) × ((t, w, c) ≡ places_of (last_read s))

module _ (s t₀ w₀ : List ℕ) (c₀ : List Call) (t w : List ℕ) (c : List Call) (x : Reader) (at n : ℕ) (i : ParseInv s t₀ w₀ c₀ t w c x at n) where
  calls_in : x.calls ≤ length c
  calls_in = omega (arith, i.ok.calls_ok, i.lent.calls_long)

  module _ (e : ℕ) (f : e ≡ at + up_to 10 (drop at s)) (h : at < length s) where
    pub long_parsed : 80 < e - at → Err n ≡ parsed_of (listing s)
    unfolding parsed_of
    long_parsed g = ap parsed_of (parse_long s at e f h n x.due (sofar x t w c) (listing s) i.same g)

    pub long_places : 80 < e - at → (t, w, c) ≡ places_of (last_read s)
    long_places g = placed_end x t w c i.placed ∙ ap places_of (read_long s at e f h x.due (sofar x t w c) (last_read s) i.read g)

    module _ (r : Option Reader) (t' w' : List ℕ) (c' : List Call) (q : next_of r t' w' c' ≡ line x.due (sofar x t w c) (take (e - at) (drop at s)))
        (z : Leaves x.due r x (take (e - at) (drop at s)) t w c t' w' c') (g : e - at ≤ 80) where
      pub bad_parsed : r ≡ None → Err n ≡ parsed_of (listing s)
      unfolding parsed_of
      bad_parsed b = ap parsed_of (parse_bad s at e f h n x.due (sofar x t w c) (listing s) i.same r t' w' c' q b g)

      pub bad_places : r ≡ None → (t', w', c') ≡ places_of (last_read s)
      bad_places b =
          let k : Leaves x.due None x (take (e - at) (drop at s)) t w c t' w' c' = rw b at z in
          placed_bad x t w c (take (e - at) (drop at s)) t' w' c' i.placed calls_in x.due i.unheard k
          ∙ ap places_of (read_bad s at e f h x.due (sofar x t w c) (last_read s) i.read r t' w' c' q b g)

      pub inv_next : (v : Reader) (a : ℕ) → TurnOk r → r ≡ Some v → a ≡ min (e + 1) (length s)
          → length t' ≡ length t → length w' ≡ length w → length c' ≡ length c → ParseInv s t₀ w₀ c₀ t' w' c' v a (n + 1)
      unfolding next_of
      inv_next v a o b k lt lw lc =
          let m : Leaves x.due (Some v) x (take (e - at) (drop at s)) t w c t' w' c' = rw b at z in
          let j : on v.due (sofar v t' w' c') ≡ line x.due (sofar x t w c) (take (e - at) (drop at s)) = rw b at q in
          let u = placed_next x t w c (take (e - at) (drop at s)) t' w' c' i.placed calls_in v i.unheard m v.due (sofar v t' w' c') j in
          record {
            at_in = omega arith;
            n_small = omega (arith, i.n_small);
            ok = on_ok r v b o;
            lent = record { table_long = omega (arith, i.lent.table_long); word_long = omega (arith, i.lent.word_long); calls_long = omega (arith, i.lent.calls_long) };
            same_t = lt ∙ i.same_t;
            same_w = lw ∙ i.same_w;
            same_c = lc ∙ i.same_c;
            same = parse_next s at e f h n x.due (sofar x t w c) (listing s) i.same r t' w' c' v a q b g k;
            read = read_next s at e f h x.due (sofar x t w c) (last_read s) i.read r t' w' c' v a q b g k;
            placed = u.0;
            unheard = u.1;
          }

  pub stop_end : length s ≤ at → (r : Result Reader ℕ) → ((t w : List ℕ) (k : List Call) → x.word ≤ length w → x.calls ≤ length k → r ≡ parsed_of (at_end n x.due (sofar x t w k))) → Stopped s r t w c
  stop_end h r q = (
    q t w c (omega (arith, i.ok.word_ok, i.lent.word_long)) calls_in ∙ ap parsed_of (parse_end s at n x.due (sofar x t w c) (listing s) h i.same),
    placed_end x t w c i.placed ∙ ap places_of (read_end s at x.due (sofar x t w c) (last_read s) h i.read),
  )

pub read_all : (s : List ℕ) (r : Result Reader ℕ) (t w : List ℕ) (c : List Call) → Stopped s r t w c → record { parsed = r; table = t; word = w; calls = c } ≡ contents_of s
unfolding contents_of
read_all s r t w c p = λ i. record { parsed = p.0 i; table = (p.1 i).0; word = (p.1 i).1; calls = (p.1 i).2 }
