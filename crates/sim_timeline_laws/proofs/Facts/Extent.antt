-- One tape of the engine as it lies in its buffer: a step moves it by the rule, and has room exactly where the rule says. Assumes nothing.
use Rattle.std.specs.Prelude.{◌≡◌, Bool, ℕ, ◌+◌, leb, ltb, length}
use Rattle.std.proofs.Math.Path.{refl}
use Rattle.std.proofs.Common.{sym, ap, ◌∙◌, arith, length-set}
use Rattle.std.proofs.Math.Bool.{true, false}
use borrow.Author.Tests.{ltb-false, ltb-true}
use Rattle.notation.specs.Choice.{pick, both}
use Rattle.notation.proofs.Facts.Tests.{clash, both_split, pick_cases, pick_true, pick_false, by_test}
use Rattle.symbol.specs.declared.Dir.{Dir}
use Rattle.symbol.specs.declared.Dir.TheVariants.{L, R, N}
use Rattle.tape_cells.specs.Growth.{extra}
use Rattle.tape_cells.proofs.Facts.Growth.{extra_room, extra_doubles, extra-none}
use Rattle.tape.specs.Model.Moves.{Held, write_of, leaves, room_for, grown_by, grow_of, shift_of, shifted, move_of, act_of}
use Rattle.tape.proofs.Facts.Moves.{HeldFits, none_room, length-grow}
use Rattle.tape.proofs.Facts.MoveCases.{room_says}
use Rattle.sim_refines.specs.Meaning.{FitsIf}
use Rattle.sim_timeline_laws.specs.Meaning.{moves_off, doubled, head_moved, moved_by, passes, extent_of, extent_if, no_extent}

off_is : (h : Held) (d : Dir) → leaves h.tape d ≡ moves_off (extent_of h) d
unfolding leaves
off_is h L = refl
off_is h R = refl
off_is h N = refl

-- ---- room

both_last : (a b : Bool) → a ≡ true → both a b ≡ false → b ≡ false
unfolding both
both_last true b t n = n
both_last false b t n = absurd (clash t refl)

module _ (k : ℕ) (h : Held) (d : Dir) (f : HeldFits k h) where
  room_passes : room_for h.tape (length h.cells) d ≡ true → passes (extent_of h) d ≡ false
  unfolding passes
  room_passes r = by_test (passes (extent_of h) d)
      (λ t.
      let p = both_split t in
      let over = p.1 in
      let n = room_says h.tape (length h.cells) d true (sym (off_is h d ∙ p.0)) refl r in
      absurd (omega (arith, ltb-true, extra_room h.tape.len (length h.cells) n, extra_doubles h.tape.len (length h.cells) n)))
      (λ t. t)

  no_room_passes : room_for h.tape (length h.cells) d ≡ false → passes (extent_of h) d ≡ true
  unfolding passes room_for
  no_room_passes = pick_cases (leaves h.tape d) (leb 1 (extra h.tape.len (length h.cells))) true (λ b. b ≡ false → passes (extent_of h) d ≡ true)
      (λ t r. by_test (passes (extent_of h) d) (λ y. y)
      (λ n.
      let within = both_last _ _ (sym (off_is h d) ∙ t) n in
      absurd (omega (arith, ltb-false, extra-none h.tape.len (length h.cells) (omega (arith, f.least)) r))))
      (λ t r. absurd (clash refl r))

-- ---- a write and a move

shift_extent : (h : Held) (d : Dir) → extent_of (shifted h d) ≡ head_moved (extent_of h) d
unfolding shift_of
shift_extent h L = refl
shift_extent h R = refl
shift_extent h N = refl

grow-extent : (h : Held) (d : Dir) → extra h.tape.len (length h.cells) ≡ h.tape.len → extent_of (grow_of h d) ≡ doubled (extent_of h) d
unfolding grown_by
grow-extent h L e = λ i. record { len = h.tape.len + e i; head = h.tape.head + e i; buffer = length-grow h L i }
grow-extent h R e = λ i. record { len = h.tape.len + e i; head = h.tape.head; buffer = length-grow h R i }
grow-extent h N e = refl

move-extent : (h : Held) (d : Dir) → room_for h.tape (length h.cells) d ≡ true → extent_of (move_of h d) ≡ moved_by (extent_of h) d
unfolding move_of moved_by
move-extent h d r = pick_cases (leaves h.tape d) (grow_of h d) h (λ g. extent_of (shifted g d) ≡ moved_by (extent_of h) d)
    (λ t.
    let n = extra_doubles h.tape.len (length h.cells) (room_says h.tape (length h.cells) d true (sym t) refl r) in
    shift_extent (grow_of h d) d
    ∙ ap (λ x. head_moved x d) (grow-extent h d n ∙ sym (pick_true (moves_off (extent_of h) d) (doubled (extent_of h) d) (extent_of h) (sym (off_is h d) ∙ t))))
    (λ t. shift_extent h d ∙ ap (λ x. head_moved x d) (sym (pick_false (moves_off (extent_of h) d) (doubled (extent_of h) d) (extent_of h) (sym (off_is h d) ∙ t))))

act-extent : (k : ℕ) (h : Held) (w : ℕ) (d : Dir) → HeldFits k h → room_for h.tape (length h.cells) d ≡ true → extent_of (act_of h w d) ≡ moved_by (extent_of h) d
unfolding act_of
act-extent k h w d f r = pick_cases (ltb h.tape.head h.tape.len) (move_of (write_of h w) d) h (λ g. extent_of g ≡ moved_by (extent_of h) d)
    (λ t. move-extent (write_of h w) d (rw length-set r) ∙ ap (λ x. moved_by x d) same)
    (λ t. absurd (omega (arith, f.head_in, ltb-false h.tape.head h.tape.len t)))
  where
    same : extent_of (write_of h w) ≡ extent_of h
    same = λ i. record { len = h.tape.len; head = h.tape.head; buffer = length-set h.cells h.tape.head w i }

-- ---- a tape that the machine has or lacks; an entry does not move a tape that the machine lacks

stays_put : moved_by no_extent N ≡ no_extent
unfolding moved_by pick
stays_put = refl

never_passes : passes no_extent N ≡ false
unfolding passes both
never_passes = refl

module _ (b : Bool) (k : ℕ) (h : Held) (d : Dir) (f : FitsIf b k h) (lacks : b ≡ false → d ≡ N) where
  pub extent_act : (w : ℕ) → room_for h.tape (length h.cells) d ≡ true → extent_if b (act_of h w d) ≡ moved_by (extent_if b h) d
  extent_act w r = by b f lacks
    where
      by : (b : Bool) → FitsIf b k h → (b ≡ false → d ≡ N) → extent_if b (act_of h w d) ≡ moved_by (extent_if b h) d
      by true f l = act-extent k h w d f r
      by false f l = sym (ap (moved_by no_extent) (l refl) ∙ stays_put)

  pub extent_room : room_for h.tape (length h.cells) d ≡ true → passes (extent_if b h) d ≡ false
  extent_room r = by b f lacks
    where
      by : (b : Bool) → FitsIf b k h → (b ≡ false → d ≡ N) → passes (extent_if b h) d ≡ false
      by true f l = room_passes k h d f r
      by false f l = ap (passes no_extent) (l refl) ∙ never_passes

  pub extent_full : room_for h.tape (length h.cells) d ≡ false → passes (extent_if b h) d ≡ true
  extent_full r = by b f lacks
    where
      by : (b : Bool) → FitsIf b k h → (b ≡ false → d ≡ N) → passes (extent_if b h) d ≡ true
      by true f l = no_room_passes k h d f r
      by false f l = absurd (clash ((λ i. room_for (f i) (length h.cells) (l refl i)) ∙ none_room (length h.cells)) r)
