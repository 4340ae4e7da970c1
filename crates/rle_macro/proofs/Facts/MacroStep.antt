-- A macro step whose push has a place, and one whose push has none. Assumes nothing.
use Rattle.std.specs.Prelude.{◌≡◌, refl, Bool, true, false, ℕ}
use Rattle.std.proofs.Math.Path.{ap}
use Rattle.notation.specs.Choice.{pick}
use Rattle.notation.proofs.Facts.Tests.{clash, pick_true, pick_false}
use Rattle.symbol.specs.declared.Dir.{Dir}
use Rattle.symbol.specs.declared.Dir.TheVariants.{L, R, N}
use Rattle.rle_stack.specs.Model.{Side, lacks}
use Rattle.rle_macro.specs.declared.inner.macro_step.Step.{Step}
use Rattle.rle_macro.specs.Model.MacroStep.{chain_for, times_for, full_for, reach_of, gone, gone_by, go_of, Made, moved, left_gone, right_gone, make_to}

-- n steps in a direction
abbrev pub moved_by : Dir → (write n : ℕ) → (left right : Side) → Made
moved_by L w n l r = left_gone (gone_by w n r l)
moved_by R w n l r = right_gone (gone_by w n l r)
moved_by N w n l r = moved l w r n

pub moved-times : (d : Dir) (w n : ℕ) (l r : Side) → (moved_by d w n l r).repeats ≡ n
moved-times L w n l r = refl
moved-times R w n l r = refl
moved-times N w n l r = refl

once : (loops keeps : Bool) (fuel : ℕ) → pick loops fuel 1 ≡ pick loops fuel (pick keeps 1 1)
unfolding pick
once loops true fuel = refl
once loops false fuel = refl

module _ (s : Step) (cur lp rp fuel : ℕ) (l r : Side) where
  pub make_full : (d : Dir) → full_for d s.write lp rp l r ≡ true → make_to d s cur lp rp fuel l r ≡ moved l cur r 0
  unfolding make_to go_of full_for
  make_full L e = ap left_gone (pick_true (lacks rp s.write r) (gone r cur l 0) _ e)
  make_full R e = ap right_gone (pick_true (lacks lp s.write l) (gone l cur r 0) _ e)
  make_full N e = absurd (clash e refl)

  pub make_goes : (d : Dir) → full_for d s.write lp rp l r ≡ false
      → make_to d s cur lp rp fuel l r ≡ moved_by d s.write (times_for d s.loops s.keeps cur fuel l r) l r
  unfolding make_to go_of full_for reach_of chain_for
  make_goes L e = ap left_gone (pick_false (lacks rp s.write r) (gone r cur l 0) _ e)
  make_goes R e = ap right_gone (pick_false (lacks lp s.write l) (gone l cur r 0) _ e)
  make_goes N e = ap (moved l s.write r) (once s.loops s.keeps fuel)
