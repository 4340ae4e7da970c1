-- One tape of the engine compared with a tape of the table machine: a fresh one, a read, a write, a move, and the cells beyond the head.
-- A growth changes nothing at any position; of the number of cells it adds, only the two laws of growth are used. Assumes nothing.
use Rattle.std.specs.Prelude.{◌≡◌, refl, true, false, List, ℕ, ◌+◌, ◌-◌, ◌≤◌, ◌<◌, min, max, ltb, ℤ, pos, negsuc, length, get_or}
use Rattle.std.proofs.Math.Path.{sym}
use Rattle.std.proofs.Common.{ap, ◌∙◌, arith, ltb-false, lt-ltb, length-set, get_or-set_same, get_or-set_other}
use Rattle.std.proofs.Math.Decide.{dec_lt, ℕ_discrete}
use Rattle.std.proofs.Math.IntN.{suc_ℤ, pred_ℤ}
use Rattle.std.proofs.Math.ListN.{get_or-eq_default}
use Rattle.std.specs.Int.Signed.{le_z}
use Rattle.notation.specs.Position.{◌⊖◌, min_ℤ, max_ℤ}
use Rattle.notation.proofs.Facts.Position.{ints, diff-⊖, diff_suc, diff_pred}
use Rattle.notation.proofs.Facts.Tests.{clash, pick_cases, pick_true}
use Rattle.symbol.specs.Kinds.{dir_number}
use Rattle.symbol.specs.declared.Dir.{Dir}
use Rattle.symbol.specs.declared.Dir.TheVariants.{L, R, N}
use Rattle.table_machine.specs.TableMachine.{read_t, put, write_t, move_t, update, word_cell, start_tape, Sideways, Beyond}
use Rattle.table_machine.proofs.Facts.Tape.{put_same, put_other, tape-≡}
use Rattle.tape_cells.specs.Growth.{extra}
use Rattle.tape_cells.proofs.Facts.Growth.{extra_room}
use Rattle.tape.specs.Model.Moves.{Held, fresh_of, read_of, write_of, leaves, room_for, grown_by, grow_of, shift_of, shifted, move_of, act_of}
use Rattle.tape.specs.Model.Questions.{cell_of, blank_beyond}
use Rattle.tape.proofs.Facts.CellPlaces.{Place, below, inside, past, place, cell_in, cell_below, cell_past, cell_of_index, grown_cell}
use Rattle.tape.proofs.Facts.Cells.{fresh_low, fresh_word, fresh_high}
use Rattle.tape.proofs.Facts.MoveCases.{not_left, room_says, grown_stays}
use Rattle.tape.proofs.Facts.Moves.{HeldFits}
use Rattle.tape.proofs.Facts.Answers.{beyond_says, beyond_holds}
use Rattle.sim_refines.specs.Meaning.{tape_of}

-- ---- positions of indexes

⊖-≡ : (i o j p : ℕ) → i + p ≡ j + o → i ⊖ o ≡ j ⊖ p
⊖-≡ i o j p h = omega (ints, diff-⊖ i o, diff-⊖ j p)

-- the positions of the smaller and the larger of two indexes
module _ (i j n o : ℕ) (z : ℤ) (is : j ⊖ o ≡ z) where
  min-⊖ : n ≡ min i j → n ⊖ o ≡ min_ℤ (i ⊖ o) z
  min-⊖ e = pick_cases (le_z (i ⊖ o) z) (i ⊖ o) z (λ y. n ⊖ o ≡ y) (λ t. omega (ints, diff-⊖ i o, diff-⊖ j o, diff-⊖ n o)) (λ t. omega (ints, diff-⊖ i o, diff-⊖ j o, diff-⊖ n o))

  max-⊖ : n ≡ max i j → n ⊖ o ≡ max_ℤ (i ⊖ o) z
  max-⊖ e = pick_cases (le_z (i ⊖ o) z) z (i ⊖ o) (λ y. n ⊖ o ≡ y) (λ t. omega (ints, diff-⊖ i o, diff-⊖ j o, diff-⊖ n o)) (λ t. omega (ints, diff-⊖ i o, diff-⊖ j o, diff-⊖ n o))

-- ---- a fresh tape

pub fresh_tape_lem : (w c : List ℕ) → 32 + length w ≤ length c → tape_of (fresh_of w c) ≡ start_tape w
unfolding fresh_of
fresh_tape_lem w c fits = tape-≡ (tape_of (fresh_of w c)) (start_tape w) cells (omega (ints, diff-⊖ 16 16)) (omega (ints, diff-⊖ 16 16)) (omega (ints, diff-⊖ 16 16))
  where
    cells : (z : ℤ) → cell_of (fresh_of w c) z ≡ word_cell w z
    cells (pos n) = by (dec_lt n (length w)) (dec_lt n (16 + length w))
      where
        by : Dec (n < length w) → Dec (n < 16 + length w) → cell_of (fresh_of w c) (pos n) ≡ get_or w n 0
        by (yes a) d =
            let e : 16 + n - 16 ≡ n = omega arith in
            cell_in _ _ _ (pos n) (16 + n) (omega arith) (omega arith)
            ∙ fresh_word w c fits (16 + n) (omega arith) (omega arith)
            ∙ ap (λ (j : ℕ). get_or w j 0) e
        by (no a) (yes b) = cell_in _ _ _ (pos n) (16 + n) (omega arith) (omega arith) ∙ fresh_high w c fits (16 + n) (omega arith) (omega arith) ∙ sym (get_or-eq_default w 0 (omega arith))
        by (no a) (no b) = cell_past _ _ _ (pos n) (omega arith) ∙ sym (get_or-eq_default w 0 (omega arith))
    cells (negsuc n) = by (dec_lt n 16)
      where
        by : Dec (n < 16) → cell_of (fresh_of w c) (negsuc n) ≡ 0
        by (yes a) = cell_in _ _ _ (negsuc n) (15 - n) (omega arith) (omega arith) ∙ fresh_low w c fits (15 - n) (omega arith)
        by (no a) = cell_below _ _ _ (negsuc n) (omega arith)

-- ---- a read and a write

module _ (h : Held) (here : h.tape.head < h.tape.len) where
  pub read_tape : read_t (tape_of h) ≡ read_of h
  unfolding read_of
  read_tape = cell_of_index _ _ _ h.tape.head here ∙ sym (pick_true _ _ _ (lt-ltb _ _ here))

  write_tape : (w : ℕ) → h.tape.len ≤ length h.cells → tape_of (write_of h w) ≡ write_t (tape_of h) w
  write_tape w l = tape-≡ (tape_of (write_of h w)) (write_t (tape_of h) w) (λ z. by z (place h.tape.origin h.tape.len z)) refl refl refl
    where
      p : ℤ
      p = h.tape.head ⊖ h.tape.origin

      -- a cell at another index is the same on both sides
      off : (z : ℤ) → ¬ (z ≡ p) → cell_of (write_of h w) z ≡ cell_of h z → cell_of (write_of h w) z ≡ put (cell_of h) p w z
      off z n e = e ∙ sym (put_other (cell_of h) p z w n)

      by : (z : ℤ) → Place h.tape.origin h.tape.len z → cell_of (write_of h w) z ≡ put (cell_of h) p w z
      by z (below b) = off z (λ q. omega (ints, diff-⊖ h.tape.head h.tape.origin)) (cell_below _ _ _ z b ∙ sym (cell_below _ _ _ z b))
      by z (past b) = off z (λ q. omega (ints, diff-⊖ h.tape.head h.tape.origin)) (cell_past _ _ _ z b ∙ sym (cell_past _ _ _ z b))
      by z (inside i b e) = at (ℕ_discrete i h.tape.head)
        where
          at : Dec (i ≡ h.tape.head) → cell_of (write_of h w) z ≡ put (cell_of h) p w z
          at (yes q) =
              let is : z ≡ h.tape.head ⊖ h.tape.origin = omega (ints, diff-⊖ h.tape.head h.tape.origin) in
              cell_in _ _ _ z h.tape.head here (omega arith)
              ∙ get_or-set_same h.cells h.tape.head w 0 (omega arith)
              ∙ sym (ap (put (cell_of h) p w) is ∙ put_same (cell_of h) p w)
          at (no q) = off z (λ r. q (omega (ints, diff-⊖ h.tape.head h.tape.origin)))
              (cell_in _ _ _ z i b e ∙ get_or-set_other h.cells h.tape.head i w 0 q ∙ sym (cell_in _ _ _ z i b e))

-- ---- a move

-- a growth changes nothing at any position
grow_tape : (n : ℕ) (h : Held) (d : Dir) → h.tape.len + n ≤ length h.cells → tape_of (grown_by n h d) ≡ tape_of h
unfolding grown_by
grow_tape n h L room = tape-≡ (tape_of (grown_by n h L)) (tape_of h) (λ z. grown_cell n h room z L) (⊖-≡ _ _ _ _ (omega arith)) (⊖-≡ _ _ _ _ (omega arith)) (⊖-≡ _ _ _ _ (omega arith))
grow_tape n h R room = tape-≡ (tape_of (grown_by n h R)) (tape_of h) (λ z. grown_cell n h room z R) refl refl refl
grow_tape n h N room = refl

-- the head is between the lowest and the highest
record Between (h : Held) : Type 0 where
  low_head : h.tape.lowest ≤ h.tape.head
  head_high : h.tape.head ≤ h.tape.highest

grown_between : (n : ℕ) (h : Held) (d : Dir) → Between h → Between (grown_by n h d)
unfolding grown_by
grown_between n h L b = omega arith
grown_between n h R b = omega arith
grown_between n h N b = b

shift_tape : (h : Held) (d : Dir) → Between h → leaves h.tape d ≡ false → tape_of (shifted h d) ≡ move_t (tape_of h) d
unfolding shift_of
shift_tape h L b t =
    let o : ℕ = h.tape.origin in
    let i : ℕ = h.tape.head in
    let g : 1 ≤ h.tape.head = not_left h.tape L t refl in
    let e : (h.tape.head - 1) ⊖ h.tape.origin ≡ pred_ℤ (h.tape.head ⊖ h.tape.origin) = omega (ints, diff-⊖ i o, diff-⊖ (i - 1) o, diff_pred (i ⊖ o)) in
    tape-≡ _ _ (λ z. refl) e (min-⊖ _ _ _ o _ e refl) (max-⊖ _ _ _ o _ e (omega arith))
shift_tape h R b t =
    let o : ℕ = h.tape.origin in
    let i : ℕ = h.tape.head in
    let e : (h.tape.head + 1) ⊖ h.tape.origin ≡ suc_ℤ (h.tape.head ⊖ h.tape.origin) = omega (ints, diff-⊖ i o, diff-⊖ (i + 1) o, diff_suc (i ⊖ o)) in
    tape-≡ _ _ (λ z. refl) e (min-⊖ _ _ _ o _ e (omega arith)) (max-⊖ _ _ _ o _ e refl)
shift_tape h N b t = tape-≡ _ _ (λ z. refl) refl (min-⊖ _ _ _ _ _ refl (omega arith)) (max-⊖ _ _ _ _ _ refl (omega arith))

move_tape : (h : Held) (d : Dir) → Between h → room_for h.tape (length h.cells) d ≡ true → tape_of (move_of h d) ≡ move_t (tape_of h) d
unfolding move_of
move_tape h d b r = pick_cases (leaves h.tape d) (grow_of h d) h (λ g. tape_of (shifted g d) ≡ move_t (tape_of h) d)
    (λ t.
    let n : ℕ = extra h.tape.len (length h.cells) in
    let p : 1 ≤ extra h.tape.len (length h.cells) = room_says h.tape (length h.cells) d true (sym t) refl r in
    shift_tape (grow_of h d) d (grown_between n h d b) (grown_stays n h d t p) ∙ ap (λ x. move_t x d) (grow_tape n h d (extra_room _ _ p)))
    (λ t. shift_tape h d b t)

-- ---- a write and a move

pub act_tape : (k : ℕ) (h : Held) (w : ℕ) (d : Dir) → HeldFits k h → room_for h.tape (length h.cells) d ≡ true → tape_of (act_of h w d) ≡ update (tape_of h) w d
unfolding act_of
act_tape k h w d f r = pick_cases (ltb h.tape.head h.tape.len) (move_of (write_of h w) d) h (λ g. tape_of g ≡ update (tape_of h) w d)
    (λ t. move_tape (write_of h w) d (omega arith) (rw length-set r) ∙ ap (λ x. move_t x d) (write_tape h f.head_in w f.most))
    (λ t. absurd (omega (arith, ltb-false h.tape.head h.tape.len t)))

-- ---- the cells beyond the head

-- at every position strictly beyond the head in that direction the cell is blank
abbrev pub BlankBeyond : Held → Dir → Type 0
BlankBeyond h d = (z : ℤ) → Beyond d (tape_of h).head z → (tape_of h).cell z ≡ 0

pub blank_beyond_says : (h : Held) (d : Dir) → blank_beyond h d ≡ true → Sideways d × BlankBeyond h d
unfolding blank_beyond
blank_beyond_says h L t = (tt, beyond_says h L t)
blank_beyond_says h R t = (tt, beyond_says h R t)
blank_beyond_says h N t = absurd (clash t refl)

pub blank_beyond_holds : (h : Held) (d : Dir) → h.tape.head < h.tape.len → Sideways d → BlankBeyond h d → blank_beyond h d ≡ true
blank_beyond_holds h L l s r = beyond_holds h L (λ e. omega (arith, ap dir_number e)) (omega arith) r
blank_beyond_holds h R l s r = beyond_holds h R (λ e. omega (arith, ap dir_number e)) (omega arith) r
blank_beyond_holds h N l s r = absurd s
