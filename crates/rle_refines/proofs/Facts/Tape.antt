-- A tape seen from its head: what a step of the table machine does to it, and the cells beyond the head. Assumes nothing.
use Rattle.std.specs.Prelude.{◌≡◌, refl, ℕ, zero, suc, ◌+◌, ◌-◌, ◌≤◌, ◌^◌, min, max, ℤ, pos, negsuc}
use Rattle.std.proofs.Math.Path.{sym, ap, fun_ext}
use Rattle.std.proofs.Common.{◌∙◌}
use Rattle.std.proofs.Math.Bool.{false}
use Rattle.std.proofs.Math.IntN.{suc_ℤ, pred_ℤ}
use Rattle.std.specs.Int.Signed.{le_z}
use Rattle.notation.specs.Position.{◌⊖◌, eq_z, up, dn, min_ℤ, max_ℤ}
use Rattle.notation.proofs.Facts.Position.{ints, diff-⊖, diff_suc, diff_pred, eq_z_true, eq_z_refl}
use Rattle.notation.proofs.Facts.Tests.{clash, pick_cases}
use Rattle.symbol.specs.declared.Dir.{Dir}
use Rattle.symbol.specs.declared.Dir.TheVariants.{L, R, N}
use Rattle.table_machine.specs.TableMachine.{Tape, read_t, put, update, Sideways, Beyond}
use Rattle.table_machine.proofs.Facts.Tape.{tape-≡}
use Rattle.rle_refines.specs.Meaning.{Stream, blanks, cons, tail, distance, look, tape_around}

-- ---- the smaller and the larger of two raised positions

module _ (i j n o : ℕ) (z : ℤ) (is : j ⊖ o ≡ z) where
  min-⊖ : n ≡ min i j → n ⊖ o ≡ min_ℤ (i ⊖ o) z
  min-⊖ e = pick_cases (le_z (i ⊖ o) z) (i ⊖ o) z (λ y. n ⊖ o ≡ y) (λ t. omega (ints, diff-⊖ i o, diff-⊖ j o, diff-⊖ n o)) (λ t. omega (ints, diff-⊖ i o, diff-⊖ j o, diff-⊖ n o))

  max-⊖ : n ≡ max i j → n ⊖ o ≡ max_ℤ (i ⊖ o) z
  max-⊖ e = pick_cases (le_z (i ⊖ o) z) z (i ⊖ o) (λ y. n ⊖ o ≡ y) (λ t. omega (ints, diff-⊖ i o, diff-⊖ j o, diff-⊖ n o)) (λ t. omega (ints, diff-⊖ i o, diff-⊖ j o, diff-⊖ n o))

-- ---- distances

pub diff-distance : (h z : ℤ) → up (distance h z) + (up h + dn z) ≡ up z + dn h + dn (distance h z)
diff-distance h z = diff-⊖ (up z + dn h) (up h + dn z)

distance_none : (h : ℤ) → distance h h ≡ pos 0
distance_none h = omega (ints, diff-distance h h)

distance_some : (h z : ℤ) → ¬ (z ≡ h) → ¬ (distance h z ≡ pos 0)
distance_some h z n e = n (omega (ints, diff-distance h z))

-- ---- the cell under the head

module _ (l r : Stream) (c : ℕ) where
  pub read_around : (h lo hi : ℕ) → read_t (tape_around l c r h lo hi) ≡ c
  read_around h lo hi = ap (look l c r) (distance_none (h ⊖ 2 ^ 63))

  look_else : (w : ℕ) (k : ℤ) → ¬ (k ≡ pos 0) → look l w r k ≡ look l c r k
  look_else w (pos zero) n = absurd (n refl)
  look_else w (pos (suc d)) n = refl
  look_else w (negsuc d) n = refl

  put_look : (h z : ℤ) (w : ℕ) → put (λ y. look l c r (distance h y)) h w z ≡ look l w r (distance h z)
  unfolding put
  put_look h z w = pick_cases (eq_z z h) _ _ (λ x. x ≡ look l w r (distance h z))
      (λ t. sym (ap (λ y. look l w r (distance h y)) (eq_z_true z h t) ∙ ap (look l w r) (distance_none h)))
      (λ t. sym (look_else w (distance h z) (distance_some h z (λ e. apart e t))))
    where
      apart : z ≡ h → eq_z z h ≡ false → ⊥
      apart e t = clash (ap (λ y. eq_z y h) e ∙ eq_z_refl h) t

-- ---- a step

look_right : (l r : Stream) (w : ℕ) (k : ℤ) → look l w r k ≡ look (cons w l) (r 0) (tail r) (pred_ℤ k)
look_right l r w (pos zero) = refl
look_right l r w (pos (suc zero)) = refl
look_right l r w (pos (suc (suc d))) = refl
look_right l r w (negsuc d) = refl

look-left : (l r : Stream) (w : ℕ) (k : ℤ) → look l w r k ≡ look (tail l) (l 0) (cons w r) (suc_ℤ k)
look-left l r w (pos zero) = refl
look-left l r w (pos (suc d)) = refl
look-left l r w (negsuc zero) = refl
look-left l r w (negsuc (suc d)) = refl

-- the tape by the cells behind a move, and those ahead
abbrev pub facing : Dir → (behind : Stream) → (cur : ℕ) → (ahead : Stream) → (head lowest highest : ℕ) → Tape
facing L b c a h lo hi = tape_around a c b h lo hi
facing R b c a h lo hi = tape_around b c a h lo hi
facing N b c a h lo hi = tape_around b c a h lo hi

-- the head's position after n steps in a direction
abbrev pub onward : Dir → (n head : ℕ) → ℕ
onward L n h = h - n
onward R n h = h + n
onward N n h = h

-- the tape after the head has come to h
abbrev pub arrived : Dir → (behind : Stream) → (cur : ℕ) → (ahead : Stream) → (head lowest highest : ℕ) → Tape
arrived d b c a h lo hi = facing d b c a h (min lo h) (max hi h)

pub update-facing : (d : Dir) → Sideways d → (b a : Stream) (c w h lo hi : ℕ) → 1 ≤ h
    → update (facing d b c a h lo hi) w d ≡ arrived d (cons w b) (a 0) (tail a) (onward d 1 h) lo hi
update-facing L s b a c w h lo hi g =
    let p : ℤ = h ⊖ 2 ^ 63 in
    let e : (h - 1) ⊖ 2 ^ 63 ≡ pred_ℤ (h ⊖ 2 ^ 63) = omega (ints, diff-⊖ h (2 ^ 63), diff-⊖ (h - 1) (2 ^ 63), diff_pred (h ⊖ 2 ^ 63)) in
    tape-≡ _ _ (λ z. put_look a b c p z w ∙ look-left a b w (distance p z) ∙ ap (look (tail a) (a 0) (cons w b)) (near z e))
    (sym e) (sym (min-⊖ lo (h - 1) _ (2 ^ 63) _ e refl)) (sym (max-⊖ hi (h - 1) _ (2 ^ 63) _ e refl))
  where
    near : (z : ℤ) → (h - 1) ⊖ 2 ^ 63 ≡ pred_ℤ (h ⊖ 2 ^ 63) → suc_ℤ (distance (h ⊖ 2 ^ 63) z) ≡ distance ((h - 1) ⊖ 2 ^ 63) z
    near z e = omega (ints, diff-distance (h ⊖ 2 ^ 63) z, diff-distance ((h - 1) ⊖ 2 ^ 63) z, diff_pred (h ⊖ 2 ^ 63), diff_suc (distance (h ⊖ 2 ^ 63) z))
update-facing R s b a c w h lo hi g =
    let p : ℤ = h ⊖ 2 ^ 63 in
    let e : (h + 1) ⊖ 2 ^ 63 ≡ suc_ℤ (h ⊖ 2 ^ 63) = omega (ints, diff-⊖ h (2 ^ 63), diff-⊖ (h + 1) (2 ^ 63), diff_suc (h ⊖ 2 ^ 63)) in
    tape-≡ _ _ (λ z. put_look b a c p z w ∙ look_right b a w (distance p z) ∙ ap (look (cons w b) (a 0) (tail a)) (near z e))
    (sym e) (sym (min-⊖ lo (h + 1) _ (2 ^ 63) _ e refl)) (sym (max-⊖ hi (h + 1) _ (2 ^ 63) _ e refl))
  where
    near : (z : ℤ) → (h + 1) ⊖ 2 ^ 63 ≡ suc_ℤ (h ⊖ 2 ^ 63) → pred_ℤ (distance (h ⊖ 2 ^ 63) z) ≡ distance ((h + 1) ⊖ 2 ^ 63) z
    near z e = omega (ints, diff-distance (h ⊖ 2 ^ 63) z, diff-distance ((h + 1) ⊖ 2 ^ 63) z, diff_suc (h ⊖ 2 ^ 63), diff_pred (distance (h ⊖ 2 ^ 63) z))
update-facing N s b a c w h lo hi g = absurd s

pub update-still : (l r : Stream) (c w h lo hi : ℕ) → update (tape_around l c r h lo hi) w N ≡ tape_around l w r h (min lo h) (max hi h)
update-still l r c w h lo hi = tape-≡ _ _ (λ z. put_look l r c (h ⊖ 2 ^ 63) z w) refl (sym (min-⊖ lo h _ (2 ^ 63) _ refl refl)) (sym (max-⊖ hi h _ (2 ^ 63) _ refl refl))

-- ---- the cells beyond the head

module _ (l r : Stream) (c h lo hi : ℕ) where
  pub cell_right : (d : ℕ) → (tape_around l c r h lo hi).cell ((h + suc d) ⊖ 2 ^ 63) ≡ r d
  cell_right d =
      let e : distance (h ⊖ 2 ^ 63) ((h + suc d) ⊖ 2 ^ 63) ≡ pos (suc d)
      = omega (ints, diff-distance (h ⊖ 2 ^ 63) ((h + suc d) ⊖ 2 ^ 63), diff-⊖ h (2 ^ 63), diff-⊖ (h + suc d) (2 ^ 63)) in
      ap (look l c r) e

  pub cell_left : (d : ℕ) → (tape_around l c r h lo hi).cell (h ⊖ (2 ^ 63 + suc d)) ≡ l d
  cell_left d =
      let e : distance (h ⊖ 2 ^ 63) (h ⊖ (2 ^ 63 + suc d)) ≡ negsuc d
      = omega (ints, diff-distance (h ⊖ 2 ^ 63) (h ⊖ (2 ^ 63 + suc d)), diff-⊖ h (2 ^ 63), diff-⊖ h (2 ^ 63 + suc d)) in
      ap (look l c r) e

-- the cells ahead are all blank exactly where every cell beyond the head is blank
module _ (c h lo hi : ℕ) where
  abbrev BlankOn : Dir → (behind ahead : Stream) → Type 0
  BlankOn d b a = (z : ℤ) → Beyond d (h ⊖ 2 ^ 63) z → (facing d b c a h lo hi).cell z ≡ 0

  pub beyond_blank : (d : Dir) (b a : Stream) → a ≡ blanks → BlankOn d b a
  beyond_blank L b a e z y = by (distance (h ⊖ 2 ^ 63) z) refl
    where
      by : (k : ℤ) → distance (h ⊖ 2 ^ 63) z ≡ k → look a c b k ≡ 0
      by (pos zero) q = absurd (omega (ints, diff-distance (h ⊖ 2 ^ 63) z))
      by (pos (suc d)) q = absurd (omega (ints, diff-distance (h ⊖ 2 ^ 63) z))
      by (negsuc d) q = ap (λ (f : Stream). f d) e
  beyond_blank R b a e z y = by (distance (h ⊖ 2 ^ 63) z) refl
    where
      by : (k : ℤ) → distance (h ⊖ 2 ^ 63) z ≡ k → look b c a k ≡ 0
      by (pos zero) q = absurd (omega (ints, diff-distance (h ⊖ 2 ^ 63) z))
      by (pos (suc d)) q = ap (λ (f : Stream). f d) e
      by (negsuc d) q = absurd (omega (ints, diff-distance (h ⊖ 2 ^ 63) z))
  beyond_blank N b a e z y = absurd y

  pub blank_beyond_lem : (d : Dir) → Sideways d → (b a : Stream) → BlankOn d b a → a ≡ blanks
  blank_beyond_lem L s b a f = fun_ext (λ d. sym (cell_left a b c h lo hi d) ∙ f (h ⊖ (2 ^ 63 + suc d)) (omega (ints, diff-⊖ h (2 ^ 63), diff-⊖ h (2 ^ 63 + suc d))))
  blank_beyond_lem R s b a f = fun_ext (λ d. sym (cell_right b a c h lo hi d) ∙ f ((h + suc d) ⊖ 2 ^ 63) (omega (ints, diff-⊖ h (2 ^ 63), diff-⊖ (h + suc d) (2 ^ 63))))
  blank_beyond_lem N s b a f = absurd s
