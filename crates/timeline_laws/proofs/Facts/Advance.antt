-- Lemmas for the proof that an engine's loop meets the law of an advance: the loop makes some steps, and the rest is an advance. Assumes nothing.
use Prim.Native.Nat.{ℕ, zero, suc, ◌+◌, ◌-◌, ◌<◌}
use Rattle.std.specs.Prelude.{◌≡◌}
use Rattle.std.proofs.Math.Path.{refl, sym, ap, subst}
use Rattle.std.proofs.Common.{◌∙◌}
use Rattle.std.proofs.Math.Decide.{dec_lt}
use native.Mathlib.Omega.{arith}
use Rattle.timeline_laws.specs.Automaton.{Automaton, iterate}
use Rattle.timeline_laws.specs.Laws.{Advance, went, full}
use Rattle.timeline_laws.proofs.Facts.Steps.{iterate_add}

module _ {Mean : Type 0} (next : Mean → Mean) (NoRoom : Mean → Type 0) where
  -- n steps from x, each with room, end in y
  pub record Steps (n : ℕ) (x y : Mean) : Type 0 where
    pub room : (j : ℕ) → j < n → ¬ NoRoom (iterate next j x)
    pub ends : y ≡ iterate next n x

  pub steps_none : (x : Mean) → Steps 0 x x
  unfolding iterate
  steps_none x = record { room = λ j l. absurd (omega arith); ends = refl }

  -- there is room for a steps and then for b more
  room_add : (a b : ℕ) (x y : Mean) → y ≡ iterate next a x → ((j : ℕ) → j < a → ¬ NoRoom (iterate next j x)) → ((j : ℕ) → j < b → ¬ NoRoom (iterate next j y))
      → (j : ℕ) → j < b + a → ¬ NoRoom (iterate next j x)
  room_add a b x y q r s j l = go (dec_lt j a)
    where
      back : ¬ (j < a) → j - a + a ≡ j
      back h = omega arith

      go : Dec (j < a) → ¬ NoRoom (iterate next j x)
      go (yes h) = r j h
      go (no h) = λ k. s (j - a) (omega arith) (subst NoRoom (ap (λ n. iterate next n x) (sym (back h)) ∙ (sym (iterate_add next (j - a) a x) ∙ ap (iterate next (j - a)) (sym q))) k)

  from : (a b : ℕ) (x y : Mean) → y ≡ iterate next a x → iterate next b y ≡ iterate next (b + a) x
  from a b x y q = ap (iterate next b) q ∙ iterate_add next b a x

  pub steps_one : (x : Mean) → ¬ NoRoom x → Steps 1 x (next x)
  unfolding iterate
  steps_one x r = record { room = λ j l. subst (λ n. ¬ NoRoom (iterate next n x)) (zeroth j l) r; ends = refl }
    where
      zeroth : (j : ℕ) → j < 1 → 0 ≡ j
      zeroth j l = omega arith

  -- a halted engine makes any number of steps
  pub steps_halted : (n : ℕ) (x : Mean) → next x ≡ x → ¬ NoRoom x → Steps n x x
  unfolding iterate
  steps_halted n x q r = record { room = λ j l. subst (λ y. ¬ NoRoom y) (still j) r; ends = still n }
    where
      still : (j : ℕ) → x ≡ iterate next j x
      still zero = refl
      still (suc j) = sym q ∙ ap next (still j)

  module _ (M : Automaton) (config : Mean → M.Config) where
    -- a steps and then an advance of n steps are an advance of n + a steps
    pub advance_after : (a n : ℕ) (x y z : Mean) (o : M.Out) → Steps a x y → Advance M Mean config next NoRoom n y o z → Advance M Mean config next NoRoom (n + a) x o z
    advance_after a n x y z o s (went r q v) = went (room_add a n x y s.ends s.room r) (q ∙ from a n x y s.ends) v
    advance_after a n x y z o s (full j l r k q f d) = full (j + a) (omega arith) (room_add a j x y s.ends s.room r)
        (subst NoRoom (from a j x y s.ends) k) (q ∙ from a j x y s.ends) f d

    -- the ends of a loop: the fuel is used or the machine has halted; the step has no room
    pub advance_done : (n : ℕ) (x y : Mean) (o : M.Out) → Steps n x y → M.Verdict (config y) o → Advance M Mean config next NoRoom n x o y
    advance_done n x y o s v = went s.room s.ends v

    pub advance_full : (n : ℕ) (x : Mean) (o : M.Out) → 0 < n → NoRoom x → M.Full o → M.counted o ≡ M.steps (config x) → Advance M Mean config next NoRoom n x o x
    unfolding iterate
    advance_full n x o l k f d = full 0 l (λ j h. absurd (omega arith)) k refl f d
