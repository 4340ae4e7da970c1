-- A slot's round trip: the engine read is the engine written, in the places of any engine that has as many. Assumes nothing.
use Rattle.std.specs.Prelude.{◌≡◌, true, List, ℕ, ◌*◌, ◌≤◌, ◌<◌, length, take, None, Ok, Option, Some}
use Rattle.std.proofs.Math.Path.{refl}
use Rattle.std.proofs.Common.{sym, ◌∙◌, ap, subst, arith, eq-eqb, get_or-take, length-take-le, ext_get_or}
use Rattle.notation.specs.Choice.{pick}
use Rattle.notation.proofs.Facts.Tests.{both_true, pick_true}
use Rattle.machine.specs.declared.Machine.{Machine}
use Rattle.rle.specs.declared.ChainSim.{ChainSim}
use Rattle.rle.specs.Model.Engine.{Conf, conf}
use Rattle.rle.specs.Invariants.{SameSizes}
use Rattle.rle.specs.Fits.{chain_fits, engine_check}
use Rattle.rle.proofs.Facts.OperationCases as C
use Rattle.rle_refines.proofs.Facts.Fits.{fits_holds}
use Rattle.rle_refines.proofs.Facts.Operations.{Passed, engine_says}
use Rattle.rle_slots.specs.Model.Slots.{lefts_of, rights_of, bytes_for, slot_size, packed, pack_of, part, held_in, Lent, lent, live_in, value_in, holds_one, unpacked, unpack_of, left_lengths, right_symbols, right_lengths, numbers_in}
use Rattle.rle_slots.proofs.Facts.Numbers.{length_part, length_in}
use Rattle.rle_slots.proofs.Facts.LiveRuns.{SameTo, SameLive, live_then, live_fits, accepted_again, placed_live, placed_sizes, placed_fits}
use Rattle.rle_slots.proofs.Facts.Pack.{packed_is, long5, value_is, shown_live}

-- ---- writing keeps the slot's length

pub pack_length : (m : Machine) (σ : Conf) (old : List ℕ) → chain_fits m σ ≡ true → length old ≡ slot_size m σ → length (pack_of m σ old) ≡ slot_size m σ
pack_length m σ old f z =
    let h = fits_holds m σ f in
    ap length (packed_is σ old h.lefts.live h.rights.live z) ∙ long5 σ old h.lefts.live h.rights.live z

-- lists that agree in their first n numbers have equal first parts
pub same-take : (n : ℕ) (xs ys : List ℕ) → n ≤ length xs → n ≤ length ys → SameTo n xs ys → take n xs ≡ take n ys
same-take n xs ys h k p =
    ext_get_or 0 (take n xs) (take n ys) (length-take-le n xs h ∙ sym (length-take-le n ys k))
    (λ i l.
    let c : i < n = omega (arith, length-take-le n xs h) in
    get_or-take n xs i 0 c ∙ p i c ∙ sym (get_or-take n ys i 0 c))

-- ---- the round trip

-- v is u, in the places of t
pub record Returned (m : Machine) (s : List ℕ) (u t v : Conf) : Type 0 where
  pub sim : v.sim ≡ u.sim
  pub ls : take u.sim.tape.left v.ls ≡ take u.sim.tape.left u.ls
  pub ll : take u.sim.tape.left v.ll ≡ take u.sim.tape.left u.ll
  pub rs : take u.sim.tape.right v.rs ≡ take u.sim.tape.right u.rs
  pub rl : take u.sim.tape.right v.rl ≡ take u.sim.tape.right u.rl
  pub live : SameLive u v
  pub sizes : SameSizes t v
  pub accepted : engine_check m s v ≡ Ok tt

module _ (m : Machine) (s : List ℕ) (u t : Conf) (old : List ℕ) (fu : engine_check m s u ≡ Ok tt) (ft : engine_check m s t ≡ Ok tt)
    (lefts : lefts_of t ≡ lefts_of u) (rights : rights_of t ≡ rights_of u) (long : length old ≡ slot_size m u) where
  abbrev l : ℕ
  l = lefts_of u

  abbrev r : ℕ
  r = rights_of u

  abbrev left : ℕ
  left = u.sim.tape.left

  abbrev right : ℕ
  right = u.sim.tape.right

  pu : Passed m s u
  pu = engine_says m s u fu

  live_left : left ≤ l
  live_left = pu.fits.lefts.live

  live_right : right ≤ r
  live_right = pu.fits.rights.live

  abbrev b : List ℕ
  b = packed u old

  long_b : length b ≡ bytes_for l r
  long_b = ap length (packed_is u old live_left live_right long) ∙ long5 u old live_left live_right long

  -- the engine in the slot
  abbrev h : Conf
  h = conf u.sim (part b 128 l) (numbers_in (part b (left_lengths l r) (8 * l))) (part b (right_symbols l) r) (numbers_in (part b (right_lengths l r) (8 * r)))

  value_b : value_in b ≡ u.sim
  value_b = ap value_in (packed_is u old live_left live_right long) ∙ value_is u old live_left live_right long

  held : held_in l r b ≡ h
  held i = conf (value_b i) (part b 128 l) (numbers_in (part b (left_lengths l r) (8 * l))) (part b (right_symbols l) r) (numbers_in (part b (right_lengths l r) (8 * r)))

  h_live : SameLive u h
  h_live = subst (λ (x : List ℕ). SameLive u (conf u.sim (part x 128 l) (numbers_in (part x (left_lengths l r) (8 * l))) (part x (right_symbols l) r) (numbers_in (part x (right_lengths l r) (8 * r)))))
      (sym (packed_is u old live_left live_right long)) (shown_live u old live_left live_right long)

  h_ls : length h.ls ≡ l
  h_ls = length_part b 128 l (omega (arith, long_b))

  h_rs : length h.rs ≡ r
  h_rs = length_part b (right_symbols l) r (omega (arith, long_b))

  h_ll : length h.ll ≡ l
  h_ll = length_in (part b (left_lengths l r) (8 * l)) l (length_part b (left_lengths l r) (8 * l) (omega (arith, long_b)))

  h_rl : length h.rl ≡ r
  h_rl = length_in (part b (right_lengths l r) (8 * r)) r (length_part b (right_lengths l r) (8 * r) (omega (arith, long_b)))

  h_left : left ≤ lefts_of h
  h_left = omega (arith, h_ls, h_ll, live_left)

  h_right : right ≤ rights_of h
  h_right = omega (arith, h_rs, h_rl, live_right)

  u_fits : chain_fits m u ≡ true
  u_fits = (C.engine_says m s u fu).fits

  h_fits : chain_fits m h ≡ true
  h_fits = live_fits m u h h_live h_left h_right u_fits

  holds : holds_one m l r b u.sim.steps ≡ true
  unfolding holds_one
  holds = both_true (eq-eqb (value_in b).steps u.sim.steps (ap (λ (v : ChainSim). v.steps) value_b)) (ap (chain_fits m) held ∙ h_fits)

  -- its live runs in the places of t
  abbrev pub back : Conf
  back = live_in h (lent t.ls t.ll t.rs t.rl)

  -- what is read with x and y places
  abbrev read-with : ℕ → ℕ → Option Conf
  read-with x y = pick (holds_one m x y b u.sim.steps) (Some (live_in (held_in x y b) (lent t.ls t.ll t.rs t.rl))) None

  unpacks : unpack_of m b u.sim.steps t ≡ read-with (lefts_of t) (rights_of t)
  unfolding unpacked
  unpacks = refl

  pub found : unpack_of m (pack_of m u old) u.sim.steps t ≡ Some back
  found =
      unpacks ∙ (λ i. read-with (lefts i) (rights i)) ∙ pick_true (holds_one m l r b u.sim.steps) _ None holds
      ∙ (λ i. Some (live_in (held i) (lent t.ls t.ll t.rs t.rl)))

  t_left : left ≤ lefts_of t
  t_left = omega (arith, lefts, live_left)

  t_right : right ≤ rights_of t
  t_right = omega (arith, rights, live_right)

  abbrev places : Lent
  places = lent t.ls t.ll t.rs t.rl

  back_live : SameLive u back
  back_live = live_then u h back h_live (placed_live h places h_left h_right t_left t_right)

  sizes : SameSizes t back
  sizes = placed_sizes h places h_left h_right t_left t_right t.sim

  back_returned : Returned m s u t back
  back_returned = record {
    sim = refl;
    ls = same-take left back.ls u.ls (omega (arith, sizes.ls, t_left)) (omega (arith, live_left)) back_live.ls;
    ll = same-take left back.ll u.ll (omega (arith, sizes.ll, t_left)) (omega (arith, live_left)) back_live.ll;
    rs = same-take right back.rs u.rs (omega (arith, sizes.rs, t_right)) (omega (arith, live_right)) back_live.rs;
    rl = same-take right back.rl u.rl (omega (arith, sizes.rl, t_right)) (omega (arith, live_right)) back_live.rl;
    live = back_live;
    sizes = sizes;
    accepted = accepted_again m s t back ft sizes (placed_fits h places h_left h_right t_left t_right m h_fits);
  }

  pub unpack_pack : (v : Conf) × (unpack_of m (pack_of m u old) u.sim.steps t ≡ Some v) × Returned m s u t v
  unpack_pack = (back, found, back_returned)
