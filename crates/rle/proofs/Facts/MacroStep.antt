-- What a macro step keeps: the lent places, the live runs in them, and the bounds of the counts. Assumes nothing.
use Rattle.std.specs.Prelude.{◌≡◌, false, ℕ, ◌+◌, ◌-◌, ◌≤◌}
use Rattle.std.proofs.Math.Path.{refl}
use Rattle.std.proofs.Common.{sym, arith}
use Rattle.notation.specs.Limits.{slack}
use Rattle.symbol.specs.declared.Dir.{Dir}
use Rattle.symbol.specs.declared.Dir.TheVariants.{L, R, N}
use Rattle.machine.specs.declared.Machine.{Machine}
use Rattle.rle_stack.specs.Model.{Side, places_of, push_of, lacks, take_of}
use Rattle.rle_stack.specs.Invariants.{SideOk, SameLengths}
use Rattle.rle_stack.proofs.Facts.Sides.{same_then, same-places, push_ok, push-same, take_ok, take_same}
use Rattle.rle.specs.Model.Engine.{Conf, left_of, right_of, Macro, full_for, no_place, carry_of, landed, macro_to, macro_of}
use Rattle.rle.specs.Invariants.{SidesOk, CountsOk, RunOk, SameSizes}
use Rattle.rle.proofs.Facts.Run.{Fine}

-- ---- one side

weaken : (p p' b b' : ℕ) (x : Side) → p ≡ p' → b ≤ b' → SideOk p b x → SideOk p' b' x
weaken p p' b b' x e h s =
    record { live = omega (arith, s.live); symbols_in = omega (arith, s.symbols_in); lengths_in = omega (arith, s.lengths_in); cells_in = omega (arith, s.cells_in) }

abbrev SideIn : (most : ℕ) → Side → Type 0
SideIn most x = SideOk (places_of x.symbols x.lengths) most x

push_in : (most s n : ℕ) (x : Side) → SideIn most x → lacks (places_of x.symbols x.lengths) s x ≡ false → SideIn (most + n) (push_of s n x)
push_in most s n x h l =
    weaken (places_of x.symbols x.lengths) _ (most + n) (most + n) (push_of s n x) (sym (same-places (push-same s n x))) (omega arith)
    (push_ok (places_of x.symbols x.lengths) most s n x h l)

rest_same : (n : ℕ) (x : Side) → SameLengths x (take_of 1 (take_of n x))
rest_same n x = same_then (take_same n x) (take_same 1 (take_of n x))

rest_in : (most n m : ℕ) (x : Side) → SideIn most x → SideIn (most + m) (take_of 1 (take_of n x))
rest_in most n m x h =
    weaken (places_of x.symbols x.lengths) _ most (most + m) (take_of 1 (take_of n x)) (sym (same-places (rest_same n x))) (omega arith)
    (take_ok (places_of x.symbols x.lengths) most 1 (take_of n x) (take_ok (places_of x.symbols x.lengths) most n x h))

still_in : (most m : ℕ) (x : Side) → SideIn most x → SideIn (most + m) x
still_in most m x h = weaken (places_of x.symbols x.lengths) _ most (most + m) x refl (omega arith) h

-- ---- both sides, and the numbers

module _ (j : Macro) (σ : Conf) where
  abbrev Most : ℕ
  Most = σ.sim.steps + slack + j.repeats

  sides_of_holds : (head cur : ℕ) (l r : Side) → SideIn Most l → SideIn Most r → SidesOk (landed j σ head cur l r)
  sides_of_holds head cur l r x y =
      let e : Most ≡ σ.sim.steps + j.repeats + slack = omega arith in
      record {
        left = weaken (places_of l.symbols l.lengths) _ Most _ l refl (omega (arith, e)) x;
        right = weaken (places_of r.symbols r.lengths) _ Most _ r refl (omega (arith, e)) y;
      }

  macro_sides : (d : Dir) → SidesOk σ → no_place d j.write σ ≡ false → SidesOk (macro_to d j σ)
  unfolding macro_to carry_of full_for
  macro_sides L h l =
      sides_of_holds _ _ _ _ (rest_in (σ.sim.steps + slack) (j.repeats - 1) j.repeats (left_of σ) h.left)
      (push_in (σ.sim.steps + slack) j.write j.repeats (right_of σ) h.right l)
  macro_sides R h l =
      sides_of_holds _ _ _ _ (push_in (σ.sim.steps + slack) j.write j.repeats (left_of σ) h.left l)
      (rest_in (σ.sim.steps + slack) (j.repeats - 1) j.repeats (right_of σ) h.right)
  macro_sides N h l =
      sides_of_holds _ _ _ _ (still_in (σ.sim.steps + slack) j.repeats (left_of σ) h.left) (still_in (σ.sim.steps + slack) j.repeats (right_of σ) h.right)

  sizes_of : (l r : Side) (head cur : ℕ) → SameLengths (left_of σ) l → SameLengths (right_of σ) r → SameSizes σ (landed j σ head cur l r)
  sizes_of l r head cur x y = record { ls = x.symbols; ll = x.lengths; rs = y.symbols; rl = y.lengths }

  pub macro_sizes : (d : Dir) → SameSizes σ (macro_to d j σ)
  unfolding macro_to carry_of
  macro_sizes L = sizes_of _ _ _ _ (rest_same (j.repeats - 1) (left_of σ)) (push-same j.write j.repeats (right_of σ))
  macro_sizes R = sizes_of _ _ _ _ (push-same j.write j.repeats (left_of σ)) (rest_same (j.repeats - 1) (right_of σ))
  macro_sizes N = record { ls = refl; ll = refl; rs = refl; rl = refl }

  macro_counts : (d : Dir) (fuel : ℕ) → CountsOk σ.sim fuel → 1 ≤ j.repeats → j.repeats ≤ fuel → CountsOk (macro_to d j σ).sim (fuel - j.repeats)
  unfolding macro_to
  macro_counts L fuel h o l = record { steps_in = omega (arith, h.steps_in); fewer = omega (arith, h.fewer, o); above = omega (arith, h.above); below = omega (arith, h.below) }
  macro_counts R fuel h o l = record { steps_in = omega (arith, h.steps_in); fewer = omega (arith, h.fewer, o); above = omega (arith, h.above); below = omega (arith, h.below) }
  macro_counts N fuel h o l = record { steps_in = omega (arith, h.steps_in); fewer = omega (arith, h.fewer, o); above = omega (arith, h.above); below = omega (arith, h.below) }

  pub macro_ok : (m : Machine) (stride fuel : ℕ) → RunOk m stride σ fuel → Fine fuel σ j → RunOk m stride (macro_of j σ) (fuel - j.repeats)
  macro_ok m stride fuel h f = record {
    table = h.table;
    sides = macro_sides j.dir h.sides f.place;
    counts = macro_counts j.dir fuel h.counts f.some_steps f.no_more;
  }
