-- The lowest and the highest cell that is not blank, from the furthest and the nearest such cells of the two sides. Assumes nothing.
use Rattle.std.specs.Prelude.{◌≡◌, true, false, ℕ, ◌+◌, ◌-◌, eqb, ℤ}
use Rattle.std.proofs.Common.{sym, ap, ◌∙◌, arith}
use borrow.Author.Tests.{eqb-true, eq-eqb}
use Rattle.notation.specs.Position.{◌⊖◌}
use Rattle.notation.proofs.Facts.Position.{ints, diff-⊖}
use Rattle.notation.proofs.Facts.Tests.{clash, both_split, both_true}
use Rattle.notation.specs.Limits.{raised_zero}
use Rattle.symbol.specs.declared.Dir.{Dir}
use Rattle.symbol.specs.declared.Dir.TheVariants.{L, R}
use Rattle.machine.specs.declared.Machine.{Machine}
use Rattle.table_machine.specs.TableMachine.{Beyond}
use Rattle.rle_stack.specs.Model.{Side, cells_of, near_of}
use Rattle.rle.specs.Model.Engine.{Conf, left_of, right_of}
use Rattle.rle.specs.Model.Questions.{blank_tape}
use Rattle.rle_refines.specs.Meaning.{stack_upto, stream, stream_of, tape_of, ChainFits}
use Rattle.rle_refines.proofs.Facts.SideCells.{Bounds, side_ends}
use Rattle.rle_refines.proofs.Facts.Cells.{here, leftward, rightward, left, right, cur, head, SeenAt, seen, at_head, at_left, at_right}

-- a is the last cell in direction x that is not blank
pub record Last (x : Dir) (cell : ℤ → ℕ) (a : ℤ) : Type 0 where
  pub written : ¬ (cell a ≡ 0)
  pub beyond : (y : ℤ) → Beyond x a y → cell y ≡ 0

-- a side without runs is blank
no_runs : (x : Side) → x.count ≡ 0 → (d : ℕ) → stream_of x d ≡ 0
no_runs x e d = ap (λ n. stream (stack_upto x.symbols x.lengths n) d) e

module _ (m : Machine) (σ : Conf) (f : ChainFits m σ) where
  pub left_ends : ¬ (σ.sim.tape.left ≡ 0) → Bounds (left σ) (near_of (left_of σ)) (cells_of (left_of σ))
  left_ends n = side_ends m.symbols σ.ls σ.ll σ.sim.tape.left f.lefts.runs n

  pub right_ends : ¬ (σ.sim.tape.right ≡ 0) → Bounds (right σ) (near_of (right_of σ)) (cells_of (right_of σ))
  right_ends n = side_ends m.symbols σ.rs σ.rl σ.sim.tape.right f.rights.runs n

  pub all_blank : blank_tape σ ≡ true → (y : ℤ) → (tape_of σ).cell y ≡ 0
  unfolding blank_tape
  all_blank t y = by (seen σ y)
    where
      by : {x : ℕ} → SeenAt σ y x → x ≡ 0
      by (here e) = eqb-true _ _ (both_split t).0
      by (leftward d e) = no_runs (left_of σ) (eqb-true _ _ (both_split (both_split t).1).0) d
      by (rightward d e) = no_runs (right_of σ) (eqb-true _ _ (both_split (both_split t).1).1) d

  pub not_all : blank_tape σ ≡ false → cur σ ≡ 0 → σ.sim.tape.left ≡ 0 → σ.sim.tape.right ≡ 0 → ⊥
  unfolding blank_tape
  not_all t c l r = clash (both_true (eq-eqb _ _ c) (both_true (eq-eqb _ _ l) (eq-eqb _ _ r))) t

  -- the last cell in each direction, by where it lies
  module _ (p : ℕ) where
    abbrev pub place : ℤ
    place = p ⊖ raised_zero

    abbrev pub IsLast : Dir → Type 0
    IsLast x = Last x (tape_of σ).cell place

    -- every cell beyond is blank, by where it lies from the head
    abbrev Off : Dir → Type 0
    Off x = (y : ℤ) (v : ℕ) → Beyond x place y → SeenAt σ y v → v ≡ 0

    pub low_left : Bounds (left σ) (near_of (left_of σ)) (cells_of (left_of σ)) → p + cells_of (left_of σ) ≡ head σ → IsLast L
    low_left x q = record {
      written = λ e. x.far_written (sym (at_left σ place (cells_of (left_of σ) - 1) (omega (arith, diff-⊖ p raised_zero, x.some, x.within))) ∙ e);
      beyond = λ y b. off y _ b (seen σ y);
    }
      where
        off : Off L
        off y v b (here e) = absurd (omega (ints, b, diff-⊖ p raised_zero))
        off y v b (leftward d e) = x.past d (omega (ints, b, diff-⊖ p raised_zero))
        off y v b (rightward d e) = absurd (omega (ints, b, diff-⊖ p raised_zero))

    pub low_head : σ.sim.tape.left ≡ 0 → ¬ (cur σ ≡ 0) → p ≡ head σ → IsLast L
    low_head n w q = record {
      written = λ e. w (sym (at_head σ place (omega (arith, diff-⊖ p raised_zero))) ∙ e);
      beyond = λ y b. off y _ b (seen σ y);
    }
      where
        off : Off L
        off y v b (here e) = absurd (omega (ints, b, diff-⊖ p raised_zero))
        off y v b (leftward d e) = no_runs (left_of σ) n d
        off y v b (rightward d e) = absurd (omega (ints, b, diff-⊖ p raised_zero))

    pub low_right : σ.sim.tape.left ≡ 0 → cur σ ≡ 0 → Bounds (right σ) (near_of (right_of σ)) (cells_of (right_of σ)) → p ≡ head σ + near_of (right_of σ) → IsLast L
    low_right n c x q = record {
      written = λ e. x.near_written (sym (at_right σ place (near_of (right_of σ) - 1) (omega (arith, diff-⊖ p raised_zero, x.some))) ∙ e);
      beyond = λ y b. off y _ b (seen σ y);
    }
      where
        off : Off L
        off y v b (here e) = c
        off y v b (leftward d e) = no_runs (left_of σ) n d
        off y v b (rightward d e) = x.before d (omega (ints, b, diff-⊖ p raised_zero))

    pub high_right : Bounds (right σ) (near_of (right_of σ)) (cells_of (right_of σ)) → p ≡ head σ + cells_of (right_of σ) → IsLast R
    high_right x q = record {
      written = λ e. x.far_written (sym (at_right σ place (cells_of (right_of σ) - 1) (omega (arith, diff-⊖ p raised_zero, x.some, x.within))) ∙ e);
      beyond = λ y b. off y _ b (seen σ y);
    }
      where
        off : Off R
        off y v b (here e) = absurd (omega (ints, b, diff-⊖ p raised_zero))
        off y v b (leftward d e) = absurd (omega (ints, b, diff-⊖ p raised_zero))
        off y v b (rightward d e) = x.past d (omega (ints, b, diff-⊖ p raised_zero))

    pub high_head : σ.sim.tape.right ≡ 0 → ¬ (cur σ ≡ 0) → p ≡ head σ → IsLast R
    high_head n w q = record {
      written = λ e. w (sym (at_head σ place (omega (arith, diff-⊖ p raised_zero))) ∙ e);
      beyond = λ y b. off y _ b (seen σ y);
    }
      where
        off : Off R
        off y v b (here e) = absurd (omega (ints, b, diff-⊖ p raised_zero))
        off y v b (leftward d e) = absurd (omega (ints, b, diff-⊖ p raised_zero))
        off y v b (rightward d e) = no_runs (right_of σ) n d

    pub high_left : σ.sim.tape.right ≡ 0 → cur σ ≡ 0 → Bounds (left σ) (near_of (left_of σ)) (cells_of (left_of σ)) → p + near_of (left_of σ) ≡ head σ → IsLast R
    high_left n c x q = record {
      written = λ e. x.near_written (sym (at_left σ place (near_of (left_of σ) - 1) (omega (arith, diff-⊖ p raised_zero, x.some))) ∙ e);
      beyond = λ y b. off y _ b (seen σ y);
    }
      where
        off : Off R
        off y v b (here e) = c
        off y v b (leftward d e) = x.before d (omega (ints, b, diff-⊖ p raised_zero))
        off y v b (rightward d e) = no_runs (right_of σ) n d
