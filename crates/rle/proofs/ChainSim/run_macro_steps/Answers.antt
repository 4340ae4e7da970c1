use Rattle.std.proofs.Common.{refl, sym, ap, subst, ◌∙◌}
use native.Mathlib.Omega.{arith}
use Rattle.run_rules.specs.Model.Task.{task}
use Rattle.rle.specs.Model.Engine.{Conf, conf}
use Rattle.rle.specs.declared.ChainSim.{ChainSim}
use Rattle.rle.specs.Invariants.{Going}
use Rattle.rle.proofs.Facts.RunCases.{going_start, going_ends, going_make, going_full, going_fine, going_counts, going_on, written_fresh, tied_make, tied_made, tied_on}
use Rattle.rle.proofs.ChainSim.run_macro_steps.Goals as goal

pub loop-outcome-init : goal.loop-outcome-init
loop-outcome-init c =
    let lefts = c.side_to_write-left.ensures.made in
    let rights = c.side_to_write-right.ensures.made in
    let same = written_fresh c.args.self c.side_to_write-left.result c.side_to_write-right.result _ _ _ _ _ _ lefts.0 rights.0 in (
      subst (λ (σ : Conf). Going (task c.args.t.m c.args.t.entries.now c.args.proves c.args.rule) c.args.t.stride c.side_to_write-left.result.places c.side_to_write-right.result.places (conf c.args.self c.args.ls.now c.args.ll.now c.args.rs.now c.args.rl.now) c.args.fuel σ c.args.fuel) (sym same)
          (going_start _ _ _ _ _ _ c.requires lefts.1 rights.1),
      record { lefts = ap (λ x. x.count) (sym lefts.0); rights = ap (λ x. x.count) (sym rights.0); left_same = (refl, refl, refl); right_same = (refl, refl, refl) },
    )

pub make-w-requires : goal.make-w-requires
make-w-requires c = tied_make _ _ _ _ _ c.loop-outcome.invariant.1 _ (going_make _ _ _ _ _ _ _ _ c.loop-outcome.invariant.0 _ c.decide-turn.ensures _ c.in-Continue.is)

pub landed-self-requires : goal.landed-self-requires
landed-self-requires c = going_counts _ _ _ _ _ _ _ _ c.loop-outcome.invariant.0 _ c.decide-turn.ensures _ c.in-Continue.is _ (tied_made _ _ _ _ _ c.loop-outcome.invariant.1 _ _ _ c.make-w.ensures.made) c.if-w-eq0.false

pub overflow_sub-rest : goal.overflow_sub-rest
overflow_sub-rest c = (going_fine _ _ _ _ _ _ _ _ c.loop-outcome.invariant.0 _ c.decide-turn.ensures _ c.in-Continue.is _ (tied_made _ _ _ _ _ c.loop-outcome.invariant.1 _ _ _ c.make-w.ensures.made) c.if-w-eq0.false).no_more

pub loop-outcome-smaller : goal.loop-outcome-smaller
loop-outcome-smaller c =
    let fine = going_fine _ _ _ _ _ _ _ _ c.loop-outcome.invariant.0 _ c.decide-turn.ensures _ c.in-Continue.is _ (tied_made _ _ _ _ _ c.loop-outcome.invariant.1 _ _ _ c.make-w.ensures.made) c.if-w-eq0.false in
    omega (arith, fine.some_steps, fine.no_more)

pub loop-outcome-preserved : goal.loop-outcome-preserved
loop-outcome-preserved c = (
  going_on _ _ _ _ _ _ _ _ c.loop-outcome.invariant.0 _ c.decide-turn.ensures _ c.in-Continue.is _ (tied_made _ _ _ _ _ c.loop-outcome.invariant.1 _ _ _ c.make-w.ensures.made) c.if-w-eq0.false _ c.landed-self.ensures,
  tied_on _ _ _ _ _ c.loop-outcome.invariant.1 _ _ _ (ap (λ (v : ChainSim). v.tape.left) c.landed-self.ensures) (ap (λ (v : ChainSim). v.tape.right) c.landed-self.ensures) c.make-w.ensures.left_same c.make-w.ensures.right_same,
)

pub returns-in-Break : goal.returns-in-Break
returns-in-Break c =
    rw (
      c.in-Break.ls-1-own.given.1.1 (sym (c.loop-outcome.invariant.1.left_same.0 ∙ c.side_to_write-left.ensures.same.0)),
      c.in-Break.ll-1-own.given.1.1 (sym (c.loop-outcome.invariant.1.left_same.1 ∙ c.side_to_write-left.ensures.same.1)),
      c.in-Break.rs-1-own.given.1.1 (sym (c.loop-outcome.invariant.1.right_same.0 ∙ c.side_to_write-right.ensures.same.0)),
      c.in-Break.rl-1-own.given.1.1 (sym (c.loop-outcome.invariant.1.right_same.1 ∙ c.side_to_write-right.ensures.same.1)),
    )
    (going_ends _ _ _ _ _ _ _ _ c.loop-outcome.invariant.0 _ c.decide-turn.ensures _ c.in-Break.is)

pub returns-then-w-eq0 : goal.returns-then-w-eq0
returns-then-w-eq0 c =
    rw (
      c.ls-then-w-eq0-1.given.1.1 (sym (c.make-w.ensures.left_same.0 ∙ c.loop-outcome.invariant.1.left_same.0 ∙ c.side_to_write-left.ensures.same.0)),
      c.ll-then-w-eq0-1.given.1.1 (sym (c.make-w.ensures.left_same.1 ∙ c.loop-outcome.invariant.1.left_same.1 ∙ c.side_to_write-left.ensures.same.1)),
      c.rs-then-w-eq0-1.given.1.1 (sym (c.make-w.ensures.right_same.0 ∙ c.loop-outcome.invariant.1.right_same.0 ∙ c.side_to_write-right.ensures.same.0)),
      c.rl-then-w-eq0-1.given.1.1 (sym (c.make-w.ensures.right_same.1 ∙ c.loop-outcome.invariant.1.right_same.1 ∙ c.side_to_write-right.ensures.same.1)),
    )
    (going_full _ _ _ _ _ _ _ _ c.loop-outcome.invariant.0 _ c.decide-turn.ensures _ c.in-Continue.is _ (tied_made _ _ _ _ _ c.loop-outcome.invariant.1 _ _ _ c.make-w.ensures.made) c.if-w-eq0.true)
