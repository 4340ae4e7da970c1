-- A macro step, a lemma for each return. Assumes nothing.
use Rattle.std.specs.Prelude.{◌≡◌, Bool, not, eqb}
use Rattle.std.proofs.Math.Path.{sym, ap}
use Rattle.std.proofs.Common.{◌∙◌}
use Rattle.std.proofs.Math.Bool.{true, false}
use Prim.Native.Nat.{ℕ, ◌+◌, ◌-◌, ◌≤◌, min}
use native.Mathlib.Omega.{arith}
use borrow.Author.Tests.{eq-eqb, ne_eqb, not-true, not-false}
use Rattle.notation.specs.Choice.{pick, both}
use Rattle.notation.proofs.Facts.Tests.{pick_true, pick_false}
use Rattle.symbol.specs.declared.State.{State}
use Rattle.symbol.specs.declared.Dir.{Dir}
use Rattle.symbol.specs.declared.Dir.TheVariants.{L, R, N}
use Rattle.outcome.specs.declared.NonHaltProof.TheVariants.{StayLoop, ChainToInfinity}
use Rattle.rle_stack.specs.Model.{Side, top_of, ahead_of, push_of, lacks, take_of}
use Rattle.rle_macro.specs.declared.inner.macro_step.Step.{Step}
use Rattle.rle_macro.specs.Model.MacroStep.{walks_on, loops_for, proof_of, reach_of, Carried, carried, carry_of, Went, gone, gone_by, go_of, moved, left_gone, right_gone, make_to, make_of, head_for}

-- ---- a proved loop

pub walks_reads : (cur n : ℕ) → (cur ≡ 0 → ⊥) → false ≡ walks_on cur n
unfolding both
walks_reads cur n h = rw (ne_eqb cur 0 h)

pub walks_meets : (cur n : ℕ) → cur ≡ 0 → eqb n 0 ≡ walks_on cur n
unfolding both
walks_meets cur n e = rw (eq-eqb cur 0 e)

-- the result for d, by which direction it is
module _ (d : Dir) (w cur l r : ℕ) where
  pub loops_left : (x : Bool) → x ≡ walks_on cur l → d ≡ L → x ≡ loops_for d w cur l r
  unfolding loops_for
  loops_left x p e = p ∙ sym (ap (λ (d : Dir). loops_for d w cur l r) e)

  pub loops_right : (x : Bool) → x ≡ walks_on cur r → d ≡ R → x ≡ loops_for d w cur l r
  unfolding loops_for
  loops_right x p e = p ∙ sym (ap (λ (d : Dir). loops_for d w cur l r) e)

  pub loops_stays : d ≡ N → eqb w cur ≡ loops_for d w cur l r
  unfolding loops_for
  loops_stays e = sym (ap (λ (d : Dir). loops_for d w cur l r) e)

module _ (q : State) (d : Dir) where
  pub proof_left : d ≡ L → ChainToInfinity q L ≡ proof_of q d
  unfolding proof_of
  proof_left e = sym (ap (proof_of q) e)

  pub proof_right : d ≡ R → ChainToInfinity q R ≡ proof_of q d
  unfolding proof_of
  proof_right e = sym (ap (proof_of q) e)

  pub proof_stays : d ≡ N → StayLoop q ≡ proof_of q d
  unfolding proof_of
  proof_stays e = sym (ap (proof_of q) e)

-- ---- to one side

module _ (loops keeps : Bool) (cur fuel : ℕ) (x : Side) where
  pub reach_all : loops ≡ true → fuel ≡ reach_of loops keeps cur fuel x
  unfolding reach_of pick
  reach_all e = rw e

  pub reach_one : loops ≡ false → not keeps ≡ true → 1 ≡ reach_of loops keeps cur fuel x
  unfolding reach_of pick
  reach_one e k = rw (e, not-true keeps k)

  pub reach_chain : loops ≡ false → not keeps ≡ false → (run n : ℕ) → run ≡ ahead_of cur x → n ≡ min (run + 1) fuel → n ≡ reach_of loops keeps cur fuel x
  unfolding reach_of pick
  reach_chain e k run n p q = q ∙ ap (λ (m : ℕ). min (m + 1) fuel) p ∙ rw (e, not-false keeps k)

  pub reach_some : 1 ≤ fuel → (n : ℕ) → n ≡ reach_of loops keeps cur fuel x → (1 ≤ n) × (n ≤ fuel)
  unfolding reach_of pick
  reach_some h n e = by loops keeps e
    where
      by : (b c : Bool) → n ≡ pick b fuel (pick c (min (ahead_of cur x + 1) fuel) 1) → (1 ≤ n) × (n ≤ fuel)
      by true c e = (omega arith, omega arith)
      by false true e = (omega arith, omega arith)
      by false false e = (omega arith, omega arith)

pub carry_made : (w n cur : ℕ) (b b' a m a' : Side) → b' ≡ push_of w n b → m ≡ take_of (n - 1) a → cur ≡ top_of m → a' ≡ take_of 1 m
    → carried b' cur a' ≡ carry_of w n b a
unfolding carry_of
carry_made w n cur b b' a m a' p q r s i = carried (p i) ((r ∙ ap top_of q) i) ((s ∙ ap (take_of 1) q) i)

module _ (p : ℕ) (s : Step) (cur fuel : ℕ) (b a : Side) (f : Bool) (fp : f ≡ lacks p s.write b) where
  pub go_full : f ≡ true → gone b cur a 0 ≡ go_of p s cur fuel b a
  unfolding go_of
  go_full e = sym (pick_true (lacks p s.write b) _ _ (sym fp ∙ e))

  pub go_goes : f ≡ false → (n : ℕ) → n ≡ reach_of s.loops s.keeps cur fuel a → (x : Carried) → x ≡ carry_of s.write n b a → gone x.behind x.cur x.ahead n ≡ go_of p s cur fuel b a
  unfolding go_of
  go_goes e n q x k = ap (λ (x : Carried). gone x.behind x.cur x.ahead n) k ∙ ap (λ (m : ℕ). gone_by s.write m b a) q ∙ sym (pick_false (lacks p s.write b) _ _ (sym fp ∙ e))

-- ---- by left and right

module _ (s : Step) (cur lp rp fuel : ℕ) (l r : Side) where
  pub make_left : (g : Went) → g ≡ go_of rp s cur fuel r l → s.dir ≡ L → left_gone g ≡ make_of s cur lp rp fuel l r
  unfolding make_to
  make_left g p e = ap left_gone p ∙ sym (ap (λ (d : Dir). make_to d s cur lp rp fuel l r) e)

  pub make_right : (g : Went) → g ≡ go_of lp s cur fuel l r → s.dir ≡ R → right_gone g ≡ make_of s cur lp rp fuel l r
  unfolding make_to
  make_right g p e = ap right_gone p ∙ sym (ap (λ (d : Dir). make_to d s cur lp rp fuel l r) e)

  pub make_stays : (n : ℕ) → n ≡ pick s.loops fuel 1 → s.dir ≡ N → moved l s.write r n ≡ make_of s cur lp rp fuel l r
  unfolding make_to
  make_stays n p e = ap (moved l s.write r) p ∙ sym (ap (λ (d : Dir). make_to d s cur lp rp fuel l r) e)

module _ (d : Dir) (h n : ℕ) where
  pub head_left : d ≡ L → h - n ≡ head_for d h n
  unfolding head_for
  head_left e = sym (ap (λ (d : Dir). head_for d h n) e)

  pub head_right : d ≡ R → h + n ≡ head_for d h n
  unfolding head_for
  head_right e = sym (ap (λ (d : Dir). head_for d h n) e)

  pub head_stays : d ≡ N → h ≡ head_for d h n
  unfolding head_for
  head_stays e = sym (ap (λ (d : Dir). head_for d h n) e)
