-- The functions on slots: what they require of one another, and their returns. Assumes nothing.
use Rattle.std.specs.Prelude.{◌≡◌, refl, Bool, true, false, List, ℕ, ◌+◌, ◌-◌, ◌≤◌, ◌<◌, leb, length, take, drop, None, Ok, Option, Some}
use Rattle.std.proofs.Math.Path.{sym, ap}
use Rattle.std.proofs.Common.{◌∙◌, arith, leb-true, ne_eqb, eq-eqb, lt-ltb, le-leb, length-drop, length-take-le}
use Rattle.std.proofs.Math.Seq.{paste}
use Rattle.notation.specs.Choice.{pick, both}
use Rattle.notation.proofs.Facts.Tests.{both_no, both_go, both_split, pick_true, pick_false}
use Rattle.notation.specs.Limits.{steps_most, cells_most}
use Rattle.machine.specs.declared.Machine.{Machine}
use Rattle.tape.specs.declared.Tape.{Tape}
use Rattle.tape.specs.Model.Moves.{Held, held}
use Rattle.tape.specs.Fits.{tape_fits, TapeFits}
use Rattle.tape.proofs.Facts.Fits.{fits_says}
use Rattle.store_bytes.specs.Bytes.{put16, put64}
use Rattle.sim.specs.declared.Simulator.{Simulator}
use Rattle.sim.specs.Model.Engine.{Conf, conf}
use Rattle.sim.specs.Model.Operations.{has1, has2, if_has, sizes_fit, sim_fits, engine_check}
use Rattle.sim.proofs.Facts.OperationCases.{engine_says}
use Rattle.sim_slots.specs.Model.Slots.{size_if, size_of, slot_size, put_sim, put_held, put_if, pack_of, part_of, part0, part1, part2, sim_in, holds_one, fill_if, filled, unpack_of}
use Rattle.sim_slots.specs.Invariants.{PutOk, PutIf, SaveOk, FillOk, FillIf, FilledOk, Restored, restored, restored_on}
use Rattle.sim_slots.proofs.Facts.FitCases.{Fitted, fitted}

-- ---- sizes

size_small : (has : Bool) (n : ℕ) → if_has has (leb n cells_most) ≡ true → size_if has n ≤ cells_most
unfolding pick
size_small true n e = leb-true n cells_most e
size_small false n e = omega arith

pub record Small (m : Machine) (n0 n1 n2 : ℕ) : Type 0 where
  pub small0 : n0 ≤ cells_most
  pub small1 : size_if (has1 m) n1 ≤ cells_most
  pub small2 : size_if (has2 m) n2 ≤ cells_most

pub sizes_small : (m : Machine) (n0 n1 n2 : ℕ) → sizes_fit m n0 n1 n2 ≡ true → Small m n0 n1 n2
unfolding sizes_fit
sizes_small m n0 n1 n2 e =
    let a = both_split e in
    let b = both_split a.1 in
    record { small0 = leb-true n0 cells_most a.0; small1 = size_small (has1 m) n1 b.0; small2 = size_small (has2 m) n2 b.1 }

-- ---- saving

pub save_asks : (m : Machine) (s : List ℕ) (σ : Conf) (b : List ℕ) → engine_check m s σ ≡ Ok tt → length b ≡ slot_size m σ → SaveOk m σ b
save_asks m s σ b e l = let p = engine_says m s σ e in record { sizes = p.sizes; fits = p.fits; long = l }

put_ok : (k : ℕ) (h : Held) (p at : ℕ) (b : List ℕ) → tape_fits k h.tape h.cells ≡ true → length h.cells ≤ cells_most → p + 20 ≤ at → at + length h.cells ≤ length b → PutOk h p at b
put_ok k h p at b f l r q = go (fits_says k h.tape h.cells f)
  where
    go : TapeFits k h.tape h.cells → PutOk h p at b
    go g = record {
      head_room = r;
      cells_room = omega (arith, g.most);
      len_in = g.most;
      len_small = omega (arith, g.most);
      origin_in = omega (arith, g.origin_in);
      head_in = omega (arith, g.head_in);
      low_in = omega (arith, g.low_head, g.head_in);
      high_in = omega (arith, g.high_in);
    }

module _ (m : Machine) (v : Simulator) (c0 c1 c2 b b' : List ℕ) (ok : SaveOk m (conf v c0 c1 c2) b) (same : length b' ≡ length b) where
  f : Fitted m v c0 c1 c2
  f = fitted m v c0 c1 c2 ok.fits

  s : Small m (length c0) (length c1) (length c2)
  s = sizes_small m (length c0) (length c1) (length c2) ok.sizes

  long : length b' ≡ size_of m (length c0) (length c1) (length c2)
  long = same ∙ ok.long

  pub put_asks0 : PutOk (held v.t0 c0) 16 128 b'
  put_asks0 = put_ok m.symbols (held v.t0 c0) 16 128 b' f.fits0 s.small0 (omega arith) (omega (arith, long))

  pub put_asks1 : PutIf (has1 m) (held v.t1 c1) 36 (128 + length c0) b'
  put_asks1 = record {
    ok = λ e.
        let n : size_if (has1 m) (length c1) ≡ length c1 = pick_true (has1 m) (length c1) 0 e in
        put_ok m.symbols (held v.t1 c1) 36 (128 + length c0) b' (f.fits1 e) (omega (arith, s.small1)) (omega arith) (omega (arith, long));
  }

  pub put_asks2 : (n1 : ℕ) → n1 ≡ size_if (has1 m) (length c1) → PutIf (has2 m) (held v.t2 c2) 56 (128 + length c0 + n1) b'
  put_asks2 n1 q = record {
    ok = λ e.
        let n : size_if (has2 m) (length c2) ≡ length c2 = pick_true (has2 m) (length c2) 0 e in
        put_ok m.symbols (held v.t2 c2) 56 (128 + length c0 + n1) b' (f.fits2 e) (omega (arith, s.small2)) (omega arith) (omega (arith, long));
  }

-- ---- a tape that the machine may lack

pub put-none : (has : Bool) (h : Held) (p at : ℕ) (b : List ℕ) → has ≡ false → b ≡ put_if has h p at b
unfolding put_if
put-none has h p at b e = sym (pick_false has (put_held h p at b) b e)

pub put_some : (has : Bool) (h : Held) (p at : ℕ) (b b' : List ℕ) → has ≡ true → b' ≡ put_held h p at b → b' ≡ put_if has h p at b
unfolding put_if
put_some has h p at b b' e q = q ∙ sym (pick_true has (put_held h p at b) b e)

pub fill_none : (has : Bool) (t : Tape) (part c : List ℕ) → has ≡ false → c ≡ fill_if has t part c
unfolding fill_if
fill_none has t part c e = sym (pick_false has (paste c 0 part t.len) c e)

pub fill_some : (has : Bool) (t : Tape) (part c c' : List ℕ) → has ≡ true → c' ≡ paste c 0 part t.len → c' ≡ fill_if has t part c
unfolding fill_if
fill_some has t part c c' e q = q ∙ sym (pick_true has (paste c 0 part t.len) c e)

-- ---- a part of a slot, as the code lends it

pub part_is : (at n : ℕ) (b : List ℕ) → take (at + n - at) (drop at b) ≡ part_of at n b
part_is at n b = let k : at + n - at ≡ n = omega arith in ap (λ i. take i (drop at b)) k

-- ---- what is restored

module _ (m : Machine) (b : List ℕ) (step : ℕ) (v : Simulator) (n0 n1 n2 : ℕ) where
  pub holds_other : (v.steps ≡ step → ⊥) → false ≡ holds_one m b step v n0 n1 n2
  unfolding holds_one both
  holds_other h = simp (ne_eqb _ _ h)

  pub holds_fits : (r : Bool) → v.steps ≡ step → r ≡ sim_fits m v (part0 n0 b) (part1 m n0 n1 b) (part2 m n0 n1 n2 b) → r ≡ holds_one m b step v n0 n1 n2
  unfolding holds_one both
  holds_fits r e q = simp (eq-eqb _ _ e, q)

pub filled_asks : (m : Machine) (b : List ℕ) (step : ℕ) (v : Simulator) (c0 c1 c2 : List ℕ) (r : Bool) → r ≡ holds_one m b step v (length c0) (length c1) (length c2) → r ≡ true
    → length b ≡ size_of m (length c0) (length c1) (length c2) → FilledOk m v b c0 c1 c2
unfolding holds_one
filled_asks m b step v c0 c1 c2 r e z l = record { fits = (both_split (sym e ∙ z)).1; long = l }

fill_ok : (k : ℕ) (t : Tape) (at n : ℕ) (b c : List ℕ) → tape_fits k t (part_of at n b) ≡ true → at + n ≤ length b → n ≡ length c → FillOk t at n b c
fill_ok k t at n b c f l q =
    let h : t.len ≤ length (part_of at n b) = (fits_says k t (part_of at n b) f).most in
    let p : length (part_of at n b) ≡ n = length-take-le n (drop at b) (omega (arith, length-drop at b)) in
    record { part_in = l; len_part = omega arith; len_in = omega arith }

module _ (m : Machine) (v : Simulator) (b c0 c1 c2 : List ℕ) (ok : FilledOk m v b c0 c1 c2) where
  g : Fitted m v (part0 (length c0) b) (part1 m (length c0) (length c1) b) (part2 m (length c0) (length c1) (length c2) b)
  g = fitted m v _ _ _ ok.fits

  pub fill_asks0 : FillOk v.t0 128 (length c0) b c0
  fill_asks0 = fill_ok m.symbols v.t0 128 (length c0) b c0 g.fits0 (omega (arith, ok.long)) refl

  pub fill_asks1 : (n1 : ℕ) → n1 ≡ size_if (has1 m) (length c1) → FillIf (has1 m) v.t1 (128 + length c0) n1 b c1
  fill_asks1 n1 q = record {
    ok = λ e.
        let n : size_if (has1 m) (length c1) ≡ length c1 = pick_true (has1 m) (length c1) 0 e in
        fill_ok m.symbols v.t1 (128 + length c0) n1 b c1 (ap (λ i. tape_fits m.symbols v.t1 (part_of (128 + length c0) i b)) q ∙ g.fits1 e) (omega (arith, ok.long)) (q ∙ n);
  }

  pub fill_asks2 : (n1 n2 : ℕ) → n1 ≡ size_if (has1 m) (length c1) → n2 ≡ size_if (has2 m) (length c2) → FillIf (has2 m) v.t2 (128 + length c0 + n1) n2 b c2
  fill_asks2 n1 n2 q r = record {
    ok = λ e.
        let n : size_if (has2 m) (length c2) ≡ length c2 = pick_true (has2 m) (length c2) 0 e in
        fill_ok m.symbols v.t2 (128 + length c0 + n1) n2 b c2
        ((λ i. tape_fits m.symbols v.t2 (part_of (128 + length c0 + q i) (r i) b)) ∙ g.fits2 e) (omega (arith, ok.long)) (r ∙ n);
  }

module _ (m : Machine) (b : List ℕ) (step : ℕ) (u v : Simulator) (c0 c1 c2 : List ℕ) (read : v ≡ sim_in m b u) (r : Bool)
    (holds : r ≡ holds_one m b step v (length c0) (length c1) (length c2)) where
  abbrev σ : Conf
  σ = conf u c0 c1 c2

  test : r ≡ holds_one m b step (sim_in m b u) (length c0) (length c1) (length c2)
  test = holds ∙ ap (λ (x : Simulator). holds_one m b step x (length c0) (length c1) (length c2)) read

  pub restored_none : r ≡ false → restored None c0 c1 c2 ≡ restored_on (unpack_of m b step σ) σ
  unfolding unpack_of
  restored_none e = ap (λ x. restored_on x σ) (sym (pick_false _ _ _ (sym test ∙ e)))

  pub restored_some : (d0 d1 d2 : List ℕ) → r ≡ true → conf v d0 d1 d2 ≡ filled m b v c0 c1 c2 → restored (Some v) d0 d1 d2 ≡ restored_on (unpack_of m b step σ) σ
  unfolding unpack_of
  restored_some d0 d1 d2 e q =
      (λ i. restored_on (Some (q i)) σ) ∙ ap (λ (x : Simulator). restored_on (Some (filled m b x c0 c1 c2)) σ) read
      ∙ ap (λ x. restored_on x σ) (sym (pick_true _ _ _ (sym test ∙ e)))

-- ---- the whole, from the parts that the code made

pub packed_is : (m : Machine) (v : Simulator) (c0 c1 c2 b b1 b2 b3 b4 b5 : List ℕ) (n1 : ℕ) → n1 ≡ size_if (has1 m) (length c1) → b1 ≡ put16 b 0 v.state.0 → b2 ≡ put64 b1 8 v.steps
    → b3 ≡ put_held (held v.t0 c0) 16 128 b2 → b4 ≡ put_if (has1 m) (held v.t1 c1) 36 (128 + length c0) b3 → b5 ≡ put_if (has2 m) (held v.t2 c2) 56 (128 + length c0 + n1) b4
    → b5 ≡ pack_of m (conf v c0 c1 c2) b
unfolding pack_of put_sim
packed_is m v c0 c1 c2 b b1 b2 b3 b4 b5 n1 q p1 p2 p3 p4 p5 = rw (p5, p4, p3, p2, p1, q) refl

pub filled_is : (m : Machine) (v : Simulator) (b c0 c1 c2 d0 d1 d2 : List ℕ) (n1 n2 : ℕ) → n1 ≡ size_if (has1 m) (length c1) → n2 ≡ size_if (has2 m) (length c2)
    → d0 ≡ paste c0 0 (part_of 128 (length c0) b) v.t0.len → d1 ≡ fill_if (has1 m) v.t1 (part_of (128 + length c0) n1 b) c1
    → d2 ≡ fill_if (has2 m) v.t2 (part_of (128 + length c0 + n1) n2 b) c2 → conf v d0 d1 d2 ≡ filled m b v c0 c1 c2
unfolding filled
filled_is m v b c0 c1 c2 d0 d1 d2 n1 n2 q1 q2 p0 p1 p2 = rw (p0, p1, p2, q1, q2) refl

module _ (m : Machine) (v : Simulator) (b : List ℕ) (n0 n1 n2 p1 p2 : ℕ) (q1 : p1 ≡ size_if (has1 m) n1) (q2 : p2 ≡ size_if (has2 m) n2)
    (state : v.state.0 < m.states) (steps : v.steps ≤ steps_most) (r0 r1 : Bool) (f0 : r0 ≡ tape_fits m.symbols v.t0 (part_of 128 n0 b)) (z0 : r0 ≡ true)
    (f1 : r1 ≡ if_has (has1 m) (tape_fits m.symbols v.t1 (part_of (128 + n0) p1 b))) where
  pub fits_second : r1 ≡ false → false ≡ sim_fits m v (part0 n0 b) (part1 m n0 n1 b) (part2 m n0 n1 n2 b)
  unfolding sim_fits
  fits_second e =
      both_go _ _ _ (lt-ltb _ _ state)
      (both_go _ _ _ (le-leb _ _ steps)
      (both_go _ _ _ (sym f0 ∙ z0) (both_no _ _ (ap (λ n. if_has (has1 m) (tape_fits m.symbols v.t1 (part_of (128 + n0) n b))) (sym q1) ∙ sym f1 ∙ e))))

  pub fits_third : r1 ≡ true → (x : Bool) → x ≡ if_has (has2 m) (tape_fits m.symbols v.t2 (part_of (128 + n0 + p1) p2 b))
      → x ≡ sim_fits m v (part0 n0 b) (part1 m n0 n1 b) (part2 m n0 n1 n2 b)
  unfolding sim_fits
  fits_third e x f2 =
      both_go _ _ _ (lt-ltb _ _ state)
      (both_go _ _ _ (le-leb _ _ steps)
      (both_go _ _ _ (sym f0 ∙ z0)
      (both_go _ _ _ (ap (λ n. if_has (has1 m) (tape_fits m.symbols v.t1 (part_of (128 + n0) n b))) (sym q1) ∙ sym f1 ∙ e)
      (f2 ∙ (λ i. if_has (has2 m) (tape_fits m.symbols v.t2 (part_of (128 + n0 + q1 i) (q2 i) b)))))))

-- ---- what a restore's answer says

module _ (x : Option Conf) (σ : Conf) (d0 d1 d2 : List ℕ) where
  pub found_none : restored None d0 d1 d2 ≡ restored_on x σ → (x ≡ None) × (d0 ≡ σ.c0) × (d1 ≡ σ.c1) × (d2 ≡ σ.c2)
  found_none = by x
    where
      by : (x : Option Conf) → restored None d0 d1 d2 ≡ restored_on x σ → (x ≡ None) × (d0 ≡ σ.c0) × (d1 ≡ σ.c1) × (d2 ≡ σ.c2)
      by None e = (refl, ap (λ (g : Restored). g.c0) e, ap (λ (g : Restored). g.c1) e, ap (λ (g : Restored). g.c2) e)
      by (Some y) e = let k = ap (λ (g : Restored). g.found) e in let z : ◌≡◌ {A = ℕ} 0 1 = cc in absurd (omega arith)

  pub found_some : (v : Simulator) → restored (Some v) d0 d1 d2 ≡ restored_on x σ → x ≡ Some (conf v d0 d1 d2)
  found_some v = by x
    where
      by : (x : Option Conf) → restored (Some v) d0 d1 d2 ≡ restored_on x σ → x ≡ Some (conf v d0 d1 d2)
      by None e = let k = ap (λ (g : Restored). g.found) e in let z : ◌≡◌ {A = ℕ} 0 1 = cc in absurd (omega arith)
      by (Some y) e =
          let k = ap (λ (g : Restored). g.found) e in
          let s : v ≡ y.sim = cc in
          λ i. Some (conf (sym s i) (sym (ap (λ (g : Restored). g.c0) e) i) (sym (ap (λ (g : Restored). g.c1) e) i) (sym (ap (λ (g : Restored). g.c2) e) i))
