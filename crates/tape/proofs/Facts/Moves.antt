-- What a fresh tape has, and what a write and a move keep: the buffer's length, what the functions assume, and what fits. Assumes nothing.
use Rattle.std.specs.Prelude.{◌≡◌, refl, true, false, List, ℕ, ◌+◌, ◌-◌, ◌≤◌, ◌<◌, ltb, set}
use Rattle.std.proofs.Common.{sym, ◌∙◌, arith, ltb-true, length-set, get_or-set_same, get_or-set_other}
use Rattle.std.proofs.Math.Decide.{dec_lt, ℕ_discrete}
use Rattle.std.proofs.lemmas.Bool.{eqb-false}
use Rattle.std.proofs.Math.ListN.{length, get_or}
use Rattle.notation.specs.Choice.{pick}
use Rattle.notation.proofs.Facts.Tests.{pick_cases}
use Rattle.notation.specs.Limits.{cells_most}
use Rattle.symbol.specs.declared.Dir.{Dir}
use Rattle.symbol.specs.declared.Dir.TheVariants.{L, R, N}
use Rattle.tape.specs.declared.Tape.{Tape}
use Rattle.tape_cells.specs.Growth.{extra}
use Rattle.tape_cells.proofs.Facts.Growth.{extra_room, extra-within}
use Rattle.tape.specs.Model.Moves.{Held, held, fresh_of, no_tape, read_of, write_of, leaves, room_for, grown_by, grow_of, shift_of, shifted, move_of, act_of}
use Rattle.tape.specs.Fits.{tape_fits, TapeFits, TapeOk, TapeSafe}
use Rattle.tape.proofs.Facts.Fits.{fits_says, fits_ok}
use Rattle.tape.proofs.Facts.MoveCases.{room_says, grown_stays}
use Rattle.tape.proofs.Facts.Cells.{length_fresh, fresh_low, fresh_word, fresh_high, length_grown, GrownCell, old, new_low, new_high, grown_holds}

-- the same for the numbers and the buffer together
abbrev pub HeldOk : Held → Type 0
HeldOk h = TapeOk h.tape h.cells

abbrev pub HeldFits : ℕ → Held → Type 0
HeldFits k h = TapeFits k h.tape h.cells

-- ---- a fresh tape

module _ (k : ℕ) (w c : List ℕ) (room : 32 + length w ≤ length c) where
  pub fresh_fits : 1 ≤ k → ((i : ℕ) → i < length w → get_or w i 0 < k) → HeldFits k (fresh_of w c)
  unfolding fresh_of
  fresh_fits p s = record {
    least = omega arith;
    most = omega (arith, length_fresh w c);
    head_in = omega arith;
    origin_in = omega arith;
    low_head = omega arith;
    head_high = omega arith;
    high_in = omega arith;
    symbols = λ i b. at i b (dec_lt i 16) (dec_lt i (16 + length w));
  }
    where
      at : (i : ℕ) → i < 32 + length w → Dec (i < 16) → Dec (i < 16 + length w) → get_or (fresh_of w c).cells i 0 < k
      at i b (yes q) d = rw (fresh_low w c room i q) p
      at i b (no q) (yes r) = rw (fresh_word w c room i (omega arith) r) (s (i - 16) (omega arith))
      at i b (no q) (no r) = rw (fresh_high w c room i (omega arith) b) p

-- ---- a tape that the machine lacks

pub none_safe : (c : List ℕ) → TapeSafe no_tape c
none_safe c = record { ok = omega arith; sized = λ h. absurd (omega arith) }

pub none_reads : (c : List ℕ) → read_of (held no_tape c) ≡ 0
unfolding read_of pick
none_reads c = refl

pub none_room : (cap : ℕ) → room_for no_tape cap N ≡ true
unfolding room_for leaves pick
none_room cap = refl

pub none_acts : (c : List ℕ) (w : ℕ) (d : Dir) → act_of (held no_tape c) w d ≡ held no_tape c
unfolding act_of pick
none_acts c w d = refl

-- ---- the buffer's length

pub length-grow : (h : Held) (d : Dir) → length (grow_of h d).cells ≡ length h.cells
length-grow h d = length_grown (extra h.tape.len (length h.cells)) h d

pub length-move : (h : Held) (d : Dir) → length (move_of h d).cells ≡ length h.cells
unfolding move_of
length-move h d = pick_cases (leaves h.tape d) (grow_of h d) h (λ g. length g.cells ≡ length h.cells) (λ t. length-grow h d) (λ t. refl)

pub length-act : (h : Held) (w : ℕ) (d : Dir) → length (act_of h w d).cells ≡ length h.cells
unfolding act_of
length-act h w d = pick_cases (ltb h.tape.head h.tape.len) (move_of (write_of h w) d) h (λ g. length g.cells ≡ length h.cells)
    (λ t. length-move (write_of h w) d ∙ simp length-set)
    (λ t. refl)

-- ---- what the functions assume

shift_ok : (t : Tape) (c : List ℕ) (d : Dir) → TapeOk t c → t.head < t.len → TapeOk (shift_of t d) c
unfolding shift_of
shift_ok t c L ok h = omega arith
shift_ok t c R ok h = omega arith
shift_ok t c N ok h = ok

grow_ok : (h : Held) (d : Dir) → HeldOk h → length h.cells ≤ cells_most → HeldOk (grow_of h d)
unfolding grown_by
grow_ok h L ok small = omega (arith, extra-within h.tape.len (length h.cells) ok.len_in, length-grow h L)
grow_ok h R ok small = omega (arith, extra-within h.tape.len (length h.cells) ok.len_in, length-grow h R)
grow_ok h N ok small = ok

grow_head : (h : Held) (d : Dir) → h.tape.head < h.tape.len → (grow_of h d).tape.head < (grow_of h d).tape.len
unfolding grown_by
grow_head h L a = omega arith
grow_head h R a = omega arith
grow_head h N a = a

move_ok : (h : Held) (d : Dir) → HeldOk h → h.tape.head < h.tape.len → length h.cells ≤ cells_most → HeldOk (move_of h d)
unfolding move_of
move_ok h d ok a small = pick_cases (leaves h.tape d) (grow_of h d) h (λ g. HeldOk (shifted g d))
    (λ t. shift_ok _ _ d (grow_ok h d ok small) (grow_head h d a))
    (λ t. shift_ok _ _ d ok a)

pub act_ok : (h : Held) (w : ℕ) (d : Dir) → HeldOk h → (h.tape.head < h.tape.len → length h.cells ≤ cells_most) → HeldOk (act_of h w d)
unfolding act_of
act_ok h w d ok sized = pick_cases (ltb h.tape.head h.tape.len) (move_of (write_of h w) d) h HeldOk
    (λ t.
    let a : h.tape.head < h.tape.len = ltb-true _ _ t in
    let l : length (set h.cells h.tape.head w) ≡ length h.cells = length-set h.cells h.tape.head w in
    move_ok (write_of h w) d (omega arith) a (omega (arith, sized a)))
    (λ t. ok)

act_sized : (h : Held) (w : ℕ) (d : Dir) → (h.tape.head < h.tape.len → length h.cells ≤ cells_most)
    → (act_of h w d).tape.head < (act_of h w d).tape.len → length (act_of h w d).cells ≤ cells_most
unfolding act_of
act_sized h w d sized = pick_cases (ltb h.tape.head h.tape.len) (move_of (write_of h w) d) h
    (λ g. g.tape.head < g.tape.len → length g.cells ≤ cells_most)
    (λ t a. omega (arith, length-move (write_of h w) d, length-set h.cells h.tape.head w, sized (ltb-true h.tape.head h.tape.len t)))
    (λ t a. sized a)

pub act_safe : (h : Held) (w : ℕ) (d : Dir) → TapeSafe h.tape h.cells → TapeSafe (act_of h w d).tape (act_of h w d).cells
act_safe h w d s = record { ok = act_ok h w d s.ok s.sized; sized = act_sized h w d s.sized }

pub fits_safe : (k : ℕ) (t : Tape) (c : List ℕ) → tape_fits k t c ≡ true → length c ≤ cells_most → TapeSafe t c
fits_safe k t c f small = record { ok = fits_ok k t c (fits_says k t c f) (omega (arith, (fits_says k t c f).most)); sized = λ h. small }

-- ---- what fits

write_fits : (k : ℕ) (h : Held) (w : ℕ) → HeldFits k h → w < k → HeldFits k (write_of h w)
write_fits k h w f b = record {
  least = f.least;
  most = omega (arith, length-set h.cells h.tape.head w, f.most);
  head_in = f.head_in;
  origin_in = f.origin_in;
  low_head = f.low_head;
  head_high = f.head_high;
  high_in = f.high_in;
  symbols = λ i a. at i a (ℕ_discrete i h.tape.head);
}
  where
    at : (i : ℕ) → i < h.tape.len → Dec (i ≡ h.tape.head) → get_or (set h.cells h.tape.head w) i 0 < k
    at i a (yes q) = rw (q, get_or-set_same h.cells h.tape.head w 0 (omega arith)) b
    at i a (no q) = rw (get_or-set_other h.cells h.tape.head i w 0 q) (f.symbols i a)

-- a growth by n cells, for which the buffer has room
module _ (k n : ℕ) (h : Held) (f : HeldFits k h) (room : h.tape.len + n ≤ length h.cells) where
  some_symbol : 1 ≤ k
  some_symbol = omega (arith, f.symbols 0 (omega arith))

  grown_symbols : (d : Dir) (i : ℕ) → i < (grown_by n h d).tape.len → get_or (grown_by n h d).cells i 0 < k
  grown_symbols d i b = by (grown_holds n h room d i b)
    where
      by : GrownCell h (grown_by n h d) i → get_or (grown_by n h d).cells i 0 < k
      by (old j l p q) = rw q (f.symbols j l)
      by (new_low p q) = rw q some_symbol
      by (new_high p q) = rw q some_symbol

  grown_fits : (d : Dir) → HeldFits k (grown_by n h d)
  unfolding grown_by
  grown_fits L = record {
    least = omega arith;
    most = omega (arith, length_grown n h L);
    head_in = omega arith;
    origin_in = omega arith;
    low_head = omega arith;
    head_high = omega arith;
    high_in = omega arith;
    symbols = grown_symbols L;
  }
  grown_fits R = record {
    least = omega arith;
    most = omega (arith, length_grown n h R);
    head_in = omega arith;
    origin_in = omega arith;
    low_head = omega arith;
    head_high = omega arith;
    high_in = omega arith;
    symbols = grown_symbols R;
  }
  grown_fits N = f

shift_fits : (k : ℕ) (t : Tape) (c : List ℕ) (d : Dir) → TapeFits k t c → leaves t d ≡ false → TapeFits k (shift_of t d) c
unfolding shift_of leaves
shift_fits k t c L f z =
    let n : t.head ≡ 0 → ⊥ = eqb-false t.head 0 z in
    record {
      least = f.least;
      most = f.most;
      head_in = omega arith;
      origin_in = f.origin_in;
      low_head = omega arith;
      head_high = omega arith;
      high_in = f.high_in;
      symbols = f.symbols;
    }
shift_fits k t c R f z =
    let n : t.head + 1 ≡ t.len → ⊥ = eqb-false (t.head + 1) t.len z in
    record {
      least = f.least;
      most = f.most;
      head_in = omega arith;
      origin_in = f.origin_in;
      low_head = omega arith;
      head_high = omega arith;
      high_in = omega arith;
      symbols = f.symbols;
    }
shift_fits k t c N f z = f

pub move_fits : (k : ℕ) (h : Held) (d : Dir) → HeldFits k h → room_for h.tape (length h.cells) d ≡ true → HeldFits k (move_of h d)
unfolding move_of
move_fits k h d f r = pick_cases (leaves h.tape d) (grow_of h d) h (λ g. HeldFits k (shifted g d))
    (λ t.
    let n : ℕ = extra h.tape.len (length h.cells) in
    let p : 1 ≤ extra h.tape.len (length h.cells) = room_says h.tape (length h.cells) d true (sym t) refl r in
    shift_fits k _ _ d (grown_fits k n h f (extra_room _ _ p) d) (grown_stays n h d t p))
    (λ t. shift_fits k _ _ d f t)

pub act_fits : (k : ℕ) (h : Held) (w : ℕ) (d : Dir) → HeldFits k h → w < k → room_for h.tape (length h.cells) d ≡ true → HeldFits k (act_of h w d)
unfolding act_of
act_fits k h w d f b r = pick_cases (ltb h.tape.head h.tape.len) (move_of (write_of h w) d) h (HeldFits k)
    (λ t. move_fits k (write_of h w) d (write_fits k h w f b) (rw length-set r))
    (λ t. f)
