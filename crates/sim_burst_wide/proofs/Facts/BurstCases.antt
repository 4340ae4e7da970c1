-- A burst on several tapes, one fact for each way through the code, and its loop. Assumes nothing.
use Rattle.std.specs.Prelude.{◌≡◌, Bool, List, ltb, set, Some}
use Rattle.std.proofs.Math.Path.{refl, ap, subst⁻¹}
use Rattle.std.proofs.Common.{sym, ◌∙◌, length-set}
use Rattle.std.proofs.Math.Bool.{false}
use Prim.Native.Nat.{ℕ, zero, suc, ◌+◌, ◌*◌, ◌-◌, ◌/◌, ◌%◌, ◌≤◌, ◌<◌, min, max}
use native.Mathlib.Omega.{arith}
use borrow.Author.Tests.{lt-ltb, le-ltb, eq-eqb, ne_eqb, ltb-true, ltb-false}
use Rattle.std.proofs.Math.ListN.{length}
use Rattle.notation.specs.Choice.{pick, both}
use Rattle.notation.proofs.Facts.Tests.{by_test}
use Rattle.symbol.specs.declared.Dir.TheVariants.{L, R, N}
use Rattle.symbol.specs.Kinds.{dir_number}
use Rattle.machine.specs.Layout.{entry_number, flag_at, byte_at, dir_of, action_at, entry_at}
use Rattle.tape.specs.declared.Tape.{Tape}
use Rattle.tape.specs.Fits.{TapeSafe}
use Rattle.tape.specs.Model.Moves.{Held, held, read_of, leaves, shift_of}
use Rattle.tape.proofs.Facts.MoveCases.{act_none, act_inside, shift_left, shift_right, shift_none}
use Rattle.tape.proofs.Facts.Moves.{act_safe}
use Rattle.sim_burst_wide.specs.declared.inner.WideBurstState.{WideBurstState}
use Rattle.sim_burst_wide.specs.declared.inner.Decoded.{Decoded}
use Rattle.sim_burst_wide.specs.Model.{followed, FreeIf, DecodedOf, wrote, TapeMoves, Steps, SafeAll, here, more, Carried}

-- ---- what an entry says

number_two : (d : ℕ) → d < 3 → dir_of d ≡ N → d ≡ 2
unfolding pick
number_two zero h e = let z : ◌≡◌ {A = ℕ} 0 2 = ap dir_number e in absurd (omega arith)
number_two (suc zero) h e = let z : ◌≡◌ {A = ℕ} 1 2 = ap dir_number e in absurd (omega arith)
number_two (suc (suc zero)) h e = refl
number_two (suc (suc (suc d))) h e = absurd (omega arith)

module _ (s : List ℕ) (i q : ℕ) (there : 8 * i + 8 ≤ length s) (defined : flag_at s i ≡ 1) where
  is_defined : entry_at s i ≡ Some (action_at s i)
  unfolding entry_at pick both
  is_defined =
      let l : i < length s / 8 = omega arith in
      simp (lt-ltb _ _ l, eq-eqb _ _ defined)

  pub decoded_entry : (next : ℕ) (b : Bool) → next ≡ byte_at s i 1 + 256 * byte_at s i 2 → FreeIf b (byte_at s i 6) next q → b ≡ false
      → DecodedOf (entry_at s i) q (record {
        next = next;
        write0 = byte_at s i 3;
        write1 = byte_at s i 4;
        write2 = byte_at s i 5;
        dir0 = byte_at s i 6 % 3;
        dir1 = byte_at s i 6 / 3 % 3;
        dir2 = byte_at s i 6 / 9 % 3;
      })
  unfolding action_at
  decoded_entry next b e f z =
      record {
        says = rw e is_defined;
        ordinary = λ same. record {
          moving = λ n0 n1 n2.
              let m : ℕ = byte_at s i 6 in
              let d0 : m % 3 ≡ 2 = number_two (m % 3) (omega arith) n0 in
              let d1 : m / 3 % 3 ≡ 2 = number_two (m / 3 % 3) (omega arith) n1 in
              let d2 : m / 9 % 3 ≡ 2 = number_two (m / 9 % 3) (omega arith) n2 in
              let l : m ≤ 26 = f.small z in
              f.free z same (omega arith);
        };
      }

-- ---- one tape

module _ (t : Tape) (c : List ℕ) (w : ℕ) where
  pub wrote_there : t.head < t.len → set c t.head w ≡ wrote t c w
  unfolding pick
  wrote_there h = simp (lt-ltb _ _ h)

  pub wrote_none : t.len ≤ t.head → c ≡ wrote t c w
  unfolding pick
  wrote_none h = simp (le-ltb _ _ h)

  wrote_length : length (wrote t c w) ≡ length c
  wrote_length = by_test (ltb t.head t.len)
      (λ z. sym (ap length (wrote_there (ltb-true _ _ z))) ∙ length-set c t.head w)
      (λ z. sym (ap length (wrote_none (ltb-false _ _ z))))

module _ (t : Tape) where
  tape_moves_inside : (d : ℕ) (r : Tape) → t.head < t.len → leaves t (dir_of d) ≡ false → r ≡ shift_of t (dir_of d) → TapeMoves t d r
  tape_moves_inside d r h l e = record { inside = l; acts = λ c w. act_inside t c w (dir_of d) r _ _ h (sym (wrote_there t c w h)) refl l e }

  pub moved_left : (low : ℕ) → (t.head ≡ 0 → ⊥) → t.head < t.len → low ≡ min t.lowest (t.head - 1)
      → TapeMoves t 0 (record { len = t.len; origin = t.origin; head = t.head - 1; lowest = low; highest = t.highest })
  unfolding leaves pick
  moved_left low n h e = tape_moves_inside 0 _ h (ne_eqb _ _ n) (shift_left t L low refl e)

  pub moved_right : (high : ℕ) → t.head + 1 < t.len → high ≡ max t.highest (t.head + 1)
      → TapeMoves t 1 (record { len = t.len; origin = t.origin; head = t.head + 1; lowest = t.lowest; highest = high })
  unfolding leaves pick
  moved_right high h e = tape_moves_inside 1 _ (omega arith) (ne_eqb (t.head + 1) t.len (λ q. omega arith)) (shift_right t R high refl e)

  pub moved_none : (d : ℕ) → (d ≡ 0 → ⊥) → (d ≡ 1 → ⊥) → TapeMoves t d t
  unfolding leaves pick
  moved_none d a b =
      let n : dir_of d ≡ N = simp (ne_eqb _ _ a, ne_eqb _ _ b) in
      let off : leaves t (dir_of d) ≡ false = rw n refl in
      record {
        inside = off;
        acts = λ c w. by_test (ltb t.head t.len)
            (λ z. (tape_moves_inside d t (ltb-true _ _ z) off (shift_none t (dir_of d) n)).acts c w)
            (λ z. let h : t.len ≤ t.head = ltb-false _ _ z in ap (held t) (sym (wrote_none t c w h)) ∙ act_none t c w (dir_of d) h);
      }

-- ---- all tapes

-- ---- the loop

module _ (s : List ℕ) (stop k stride : ℕ) where
  pub carried_start : (x : WideBurstState) (c0 c1 c2 : List ℕ) → SafeAll x c0 c1 c2 → Carried s stop k stride x c0 c1 c2 x c0 c1 c2
  carried_start x c0 c1 c2 ok = record { safe = ok; less = omega arith; lens0 = refl; lens1 = refl; lens2 = refl; walk = here }

  still_safe : (t r : Tape) (c : List ℕ) (w d : ℕ) → TapeSafe t c → TapeMoves t d r → TapeSafe r (wrote t c w)
  still_safe t r c w d ok sl = subst⁻¹ (λ (h : Held). TapeSafe h.tape h.cells) (sl.acts c w) (act_safe (held t c) w (dir_of d) ok)

  -- one turn of the loop, from what the code has found
  pub carried_again : (x y : WideBurstState) (c0 c1 c2 d0 d1 d2 : List ℕ) → Carried s stop k stride x c0 c1 c2 y d0 d1 d2
      → (o : Decoded) (n : WideBurstState) (e0 e1 e2 : List ℕ) → (y.left ≡ 0 → ⊥) → (y.state ≡ stop → ⊥)
      → DecodedOf (entry_at s (entry_number k stride y.state (read_of (held y.t0 d0)) (read_of (held y.t1 d1)) (read_of (held y.t2 d2)))) y.state o
      → Steps y o n
      → e0 ≡ wrote y.t0 d0 o.write0 → e1 ≡ wrote y.t1 d1 o.write1 → e2 ≡ wrote y.t2 d2 o.write2
      → Carried s stop k stride x c0 c1 c2 n e0 e1 e2
  carried_again x y c0 c1 c2 d0 d1 d2 r o n e0 e1 e2 pos on says st p0 p1 p2 =
      let a0 = ap (held n.t0) p0 ∙ st.tape_moves0.acts d0 o.write0 in
      let a1 = ap (held n.t1) p1 ∙ st.tape_moves1.acts d1 o.write1 in
      let a2 = ap (held n.t2) p2 ∙ st.tape_moves2.acts d2 o.write2 in
      let l : n.left ≡ y.left - 1 = st.left_is in
      record {
        safe = record {
          safe0 = rw p0 (still_safe _ _ d0 o.write0 _ r.safe.safe0 st.tape_moves0);
          safe1 = rw p1 (still_safe _ _ d1 o.write1 _ r.safe.safe1 st.tape_moves1);
          safe2 = rw p2 (still_safe _ _ d2 o.write2 _ r.safe.safe2 st.tape_moves2);
        };
        less = omega (arith, r.less);
        lens0 = ap length p0 ∙ wrote_length y.t0 d0 o.write0 ∙ r.lens0;
        lens1 = ap length p1 ∙ wrote_length y.t1 d1 o.write1 ∙ r.lens1;
        lens2 = ap length p2 ∙ wrote_length y.t2 d2 o.write2 ∙ r.lens2;
        walk = more y d0 d1 d2 n e0 e1 e2 r.walk (record {
          fuel = pos;
          goes = on;
          act = followed o;
          says = says.says;
          ordinary = says.ordinary;
          inside0 = st.tape_moves0.inside;
          inside1 = st.tape_moves1.inside;
          inside2 = st.tape_moves2.inside;
          acts0 = a0;
          acts1 = a1;
          acts2 = a2;
          state_is = st.state_is;
          left_is = st.left_is;
        });
      }
