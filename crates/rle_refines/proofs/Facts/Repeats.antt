-- Steps of the table machine on a tape seen from its head: one entry, made once or many times in a row. Assumes nothing.
use Rattle.std.specs.Prelude.{◌≡◌, Some}
use Rattle.std.proofs.Math.Path.{ap}
use Rattle.std.proofs.Common.{◌∙◌}
use Prim.Native.Nat.{ℕ, zero, suc, ◌+◌, ◌≤◌, min, max}
use native.Mathlib.Omega.{arith}
use Rattle.symbol.specs.declared.Dir.{Dir}
use Rattle.symbol.specs.declared.Dir.TheVariants.{L, R, N}
use Rattle.machine.specs.declared.Machine.{Machine}
use Rattle.machine.specs.declared.Action.{Action}
use Rattle.table_laws.specs.WellFormed.{ActionOf}
use Rattle.table_machine.specs.TableMachine.{Table, Tape, Config, read_t, update, blank_tape, entry, step, run, Sideways}
use Rattle.table_machine.specs.Tables.{TableOf}
use Rattle.table_machine.proofs.Facts.Run.{step-act}
use Rattle.table_machine.proofs.Facts.Tape.{blank_stays}
use Rattle.rle_refines.specs.Meaning.{Stream, cons, tail, prepend, tape_around}
use Rattle.rle_refines.proofs.Facts.Stack.{prepend-cons}
use Rattle.rle_refines.proofs.Facts.Tape.{facing, onward, arrived, read_around, update-facing, update-still}

-- a configuration of one tape
abbrev pub at : (state steps : ℕ) → Tape → Config
at q s t = record { state = q; steps = s; tape0 = t; tape1 = blank_tape; tape2 = blank_tape }

read_facing : (d : Dir) (b a : Stream) (c h lo hi : ℕ) → read_t (facing d b c a h lo hi) ≡ c
read_facing L b a c h lo hi = read_around a b c h lo hi
read_facing R b a c h lo hi = read_around b a c h lo hi
read_facing N b a c h lo hi = read_around b a c h lo hi

-- ---- the extremes of a motion in one direction are decided by its last position

onward_twice : (d : Dir) (k h : ℕ) → Sideways d → onward d (suc k) (onward d 1 h) ≡ onward d (suc (suc k)) h
onward_twice L k h s = omega arith
onward_twice R k h s = omega arith
onward_twice N k h s = absurd s

min_twice : (d : Dir) (k h lo : ℕ) → Sideways d → lo ≤ h → min (min lo (onward d 1 h)) (onward d (suc k) (onward d 1 h)) ≡ min lo (onward d (suc (suc k)) h)
min_twice L k h lo s l = omega arith
min_twice R k h lo s l = omega arith
min_twice N k h lo s l = absurd s

max_twice : (d : Dir) (k h hi : ℕ) → Sideways d → h ≤ hi → max (max hi (onward d 1 h)) (onward d (suc k) (onward d 1 h)) ≡ max hi (onward d (suc (suc k)) h)
max_twice L k h hi s l = omega arith
max_twice R k h hi s l = omega arith
max_twice N k h hi s l = absurd s

deep : (d : Dir) (k h : ℕ) → Sideways d → suc k ≤ h → k ≤ onward d 1 h
deep L k h s l = omega arith
deep R k h s l = omega arith
deep N k h s l = absurd s

-- ---- one entry

module _ (m : Machine) (d : Table) (table : TableOf m d) (single : m.tapes ≡ 1) (a : Action) where
  step_one : (q s : ℕ) (t : Tape) → entry d (at q s t) ≡ Some a → step d (at q s t) ≡ at a.next.0 (suc s) (update t a.write0.0 a.dir0)
  step_one q s t e =
      let o : ActionOf m a = table _ _ _ _ a e in
      let l1 = o.lacks1 (omega arith) in
      let l2 = o.lacks2 (omega arith) in
      step-act d (at q s t) a e
      ∙ (λ i. record {
        state = a.next.0;
        steps = suc s;
        tape0 = update t a.write0.0 a.dir0;
        tape1 = (ap (update blank_tape a.write1.0) l1.1 ∙ ap (λ w. update blank_tape w N) l1.0 ∙ blank_stays) i;
        tape2 = (ap (update blank_tape a.write2.0) l2.1 ∙ ap (λ w. update blank_tape w N) l2.0 ∙ blank_stays) i;
      })

  module _ (q c : ℕ) (reads : d q c 0 0 ≡ Some a) where
    -- k + 1 steps of an entry that moves, over k + 1 cells of c; for more than one step it must keep the state
    pub walk : Sideways a.dir0 → (k s : ℕ) (b f : Stream) (h lo hi : ℕ) → (1 ≤ k → a.next.0 ≡ q) → suc k ≤ h → lo ≤ h → h ≤ hi
        → run d (suc k) (at q s (facing a.dir0 b c (prepend k c f) h lo hi))
        ≡ at a.next.0 (s + suc k) (arrived a.dir0 (prepend (suc k) a.write0.0 b) (f 0) (tail f) (onward a.dir0 (suc k) h) lo hi)
    unfolding run
    walk w zero s b f h lo hi keeps g l r =
        let z : suc s ≡ s + 1 = omega arith in
        step_one q s _ (ap (λ x. d q x 0 0) (read_facing a.dir0 b f c h lo hi) ∙ reads)
        ∙ (λ i. at a.next.0 (z i) (update-facing a.dir0 w b f c a.write0.0 h lo hi (omega arith) i))
    walk w (suc k) s b f h lo hi keeps g l r =
        let z : suc s + suc k ≡ s + suc (suc k) = omega arith in
        let e : a.next.0 ≡ q = keeps (omega arith) in
        ap (run d (suc k)) (step_one q s _ (ap (λ x. d q x 0 0) (read_facing a.dir0 b (prepend (suc k) c f) c h lo hi) ∙ reads)
        ∙ (λ i. at (e i) (suc s) (update-facing a.dir0 w b (prepend (suc k) c f) c a.write0.0 h lo hi (omega arith) i)))
        ∙ walk w k (suc s) (cons a.write0.0 b) f (onward a.dir0 1 h) (min lo (onward a.dir0 1 h)) (max hi (onward a.dir0 1 h)) (λ _. e)
        (deep a.dir0 (suc k) h w g) (omega arith) (omega arith)
        ∙ (λ i. at a.next.0 (z i) (facing a.dir0 (cons a.write0.0 (prepend-cons k a.write0.0 b i)) (f 0) (tail f) (onward_twice a.dir0 k h w i)
        (min_twice a.dir0 k h lo w l i) (max_twice a.dir0 k h hi w r i)))

    module _ (still : a.dir0 ≡ N) (l r : Stream) (h : ℕ) where
      stay_one : (s lo hi : ℕ) → step d (at q s (tape_around l c r h lo hi)) ≡ at a.next.0 (suc s) (tape_around l a.write0.0 r h (min lo h) (max hi h))
      stay_one s lo hi =
          step_one q s _ (ap (λ x. d q x 0 0) (read_around l r c h lo hi) ∙ reads)
          ∙ ap (λ x. at a.next.0 (suc s) (update (tape_around l c r h lo hi) a.write0.0 x)) still
          ∙ ap (at a.next.0 (suc s)) (update-still l r c a.write0.0 h lo hi)

      -- k + 1 steps of an entry that stays; for more than one step it must keep the state and rewrite what it read
      pub stay : (k s lo hi : ℕ) → (1 ≤ k → (a.next.0 ≡ q) × (a.write0.0 ≡ c))
          → run d (suc k) (at q s (tape_around l c r h lo hi)) ≡ at a.next.0 (s + suc k) (tape_around l a.write0.0 r h (min lo h) (max hi h))
      unfolding run
      stay zero s lo hi keeps =
          let z : suc s ≡ s + 1 = omega arith in
          stay_one s lo hi ∙ ap (λ j. at a.next.0 j (tape_around l a.write0.0 r h (min lo h) (max hi h))) z
      stay (suc k) s lo hi keeps =
          let z : suc s + suc k ≡ s + suc (suc k) = omega arith in
          let e : min (min lo h) h ≡ min lo h = omega arith in
          let g : max (max hi h) h ≡ max hi h = omega arith in
          let x = keeps (omega arith) in
          ap (run d (suc k)) (stay_one s lo hi ∙ (λ i. at (x.0 i) (suc s) (tape_around l (x.1 i) r h (min lo h) (max hi h))))
          ∙ stay k (suc s) (min lo h) (max hi h) (λ _. x)
          ∙ (λ i. at a.next.0 (z i) (tape_around l a.write0.0 r h (e i) (g i)))
