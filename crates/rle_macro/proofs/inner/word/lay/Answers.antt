use Rattle.std.proofs.Common.{refl, sym, ◌∙◌, ap, subst, ℕ, length, arith}
use Rattle.rle_stack.specs.Model.{Side, places_of}
use Rattle.rle_stack.specs.Written.{held}
use Rattle.rle_counts.specs.Model.Words.{word_of}
use Rattle.rle_counts.proofs.Facts.WordCases.{Laying, laying_start, laying_place, laying_on, laying_end}
use Rattle.rle_macro.proofs.inner.word.lay.Goals as goal

pub loop-i-init : goal.loop-i-init
loop-i-init c =
    let made = c.side_to_write-side.ensures.made in
    let start = laying_start c.args.word.now c.args.symbols.now c.args.lengths.now c.requires.word_bound in (
      subst (λ (p : ℕ). Laying c.args.word.now p (held c.side_to_write-side.result) (held c.side_to_write-side.result) (length c.args.word.now)) (sym made.1)
          (subst (λ (x : Side). Laying c.args.word.now (places_of c.args.symbols.now c.args.lengths.now) x x (length c.args.word.now)) (sym made.0) start),
      (refl, refl, refl),
    )

pub push-requires-clause-place : goal.push-requires-clause-place
push-requires-clause-place c =
    rw c.loop-i.invariant.1.2 (laying_place _ _ _ _ _ c.loop-i.invariant.0 (omega arith))

pub push-requires-clause-n_bound : goal.push-requires-clause-n_bound
push-requires-clause-n_bound c = omega (arith, c.requires.word_len_bound, c.loop-i.invariant.0.ok.cells_in)

pub loop-i-preserved : goal.loop-i-preserved
loop-i-preserved c = (
  laying_on _ _ _ _ _ c.loop-i.invariant.0 (omega arith) _ c.push.ensures.pushed,
  (c.push.ensures.same.0 ∙ c.loop-i.invariant.1.0, c.push.ensures.same.1 ∙ c.loop-i.invariant.1.1, c.push.ensures.same.2 ∙ c.loop-i.invariant.1.2),
)

pub returns : goal.returns
returns c =
    let laid = laying_end _ _ _ _ _ c.loop-i.invariant.0 (omega arith) ∙ ap (word_of c.args.word.now) c.side_to_write-side.ensures.made.0 in
    let same = c.loop-i.invariant.1 in
    let first = sym (same.0 ∙ c.side_to_write-side.ensures.same.0) in
    let second = sym (same.1 ∙ c.side_to_write-side.ensures.same.1) in
    rw (c.symbols-1.given.1.1 first, c.lengths-1.given.1.1 second) laid
