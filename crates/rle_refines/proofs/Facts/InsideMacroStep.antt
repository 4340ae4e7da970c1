-- Inside a macro step: all the configurations on its way have the same entry, and none is a proved loop if the first is not. Assumes nothing.
use Rattle.std.specs.Prelude.{◌≡◌, false, eqb, Some}
use Rattle.std.proofs.Math.Path.{refl, subst, fun_ext}
use Rattle.std.proofs.Common.{sym, ap, ◌∙◌, arith, eq-eqb}
use Prim.Native.Nat.{ℕ, zero, suc, ◌+◌, ◌-◌, ◌≤◌, ◌<◌, ◌^◌}
use Rattle.notation.proofs.Facts.Tests.{pick_true}
use Rattle.symbol.specs.Kinds.{state_of}
use Rattle.symbol.specs.declared.Dir.{Dir}
use Rattle.symbol.specs.declared.Dir.TheVariants.{L, R, N}
use Rattle.machine.specs.declared.Action.{Action}
use Rattle.table_laws.specs.WellFormed.{ActionOf}
use Rattle.outcome.specs.declared.Outcome.{Outcome}
use Rattle.table_machine.specs.TableMachine.{Config, read_t, entry, run, Stays, Sideways, Walks, out_of_fuel_at, halts, stays, walks, goes}
use Rattle.table_machine.specs.Tables.{TableOf}
use Rattle.run_rules.specs.Model.Task.{Task, matches}
use Rattle.rle_stack.specs.Model.{top_of, lacks}
use Rattle.rle.specs.Model.Engine.{Conf, left_of, right_of, carry_of, full_for, no_place, macro_to, macro_of, Macro}
use Rattle.rle_refines.specs.Meaning.{Stack, stack_of, Stream, blanks, tail, prepend, stream, stream_of, config_of, ChainFits, behind_of, ahead_on}
use Rattle.rle_refines.specs.Statement.{table_in, after, Judged, Unproved, has_rule, is_full, FullAfter, Kept}
use Rattle.rle_refines.proofs.Facts.Canonical.{same_action, FullIn, not_full, full_same}
use Rattle.rle_refines.proofs.Facts.Stack.{prepend_blank, take, Reach}
use Rattle.rle_refines.proofs.Facts.Sides.{Carries}
use Rattle.rle_refines.proofs.Facts.MacroStep.{macro, by_way, read_held, entry_at_lem, Over, over-reach, sides, macro_holds, macro_keeps}
use Rattle.rle_refines.proofs.Facts.Patterns.{stays_says, walks_says, walks_blank}
use Rattle.rle_refines.proofs.Facts.Plan.{Repeats}

-- ---- streams

prepend_next : (n a : ℕ) (f : Stream) → prepend n a f n ≡ f 0
prepend_next zero a f = refl
prepend_next (suc n) a f = prepend_next n a f

prepend_last : (n a : ℕ) (f : Stream) → prepend (suc n) a f n ≡ a
prepend_last zero a f = refl
prepend_last (suc n) a f = prepend_last n a f

-- where j + 1 cells of symbol a come first, a is the first cell after `take j`
next_cell : (a j : ℕ) (r : Stack) → Reach a j r → Reach a (suc j) r → stream (take j r) 0 ≡ a
next_cell a j r p q = sym (prepend_next j a (stream (take j r))) ∙ ap (λ (f : Stream). f j) (sym p ∙ q) ∙ prepend_last j a (stream (take (suc j) r))

all_blank : (f : Stream) → f 0 ≡ 0 → tail f ≡ blanks → f ≡ blanks
all_blank f z e = fun_ext at
  where
    at : (d : ℕ) → f d ≡ 0
    at zero = z
    at (suc d) = ap (λ (g : Stream). g d) e

-- ---- the parts of a macro step

module _ (j : Macro) (σ : Conf) where
  after_macro_state : (x : Dir) → (macro_to x j σ).sim.state ≡ j.next
  unfolding macro_to
  after_macro_state L = refl
  after_macro_state R = refl
  after_macro_state N = refl

  pub after_macro_steps : (x : Dir) → (macro_to x j σ).sim.steps ≡ σ.sim.steps + j.repeats
  unfolding macro_to
  after_macro_steps L = refl
  after_macro_steps R = refl
  after_macro_steps N = refl

  pub after_macro_macros : (x : Dir) → (macro_to x j σ).sim.macros ≡ σ.sim.macros + 1
  unfolding macro_to
  after_macro_macros L = refl
  after_macro_macros R = refl
  after_macro_macros N = refl

  after_macro_read : (x : Dir) → Sideways x → (macro_to x j σ).sim.tape.cur ≡ (carry_of j.write j.repeats (behind_of x σ) (ahead_on x σ)).cur
  unfolding macro_to
  after_macro_read L s = refl
  after_macro_read R s = refl
  after_macro_read N s = absurd s

  after_macro_ahead : (x : Dir) → Sideways x → ahead_on x (macro_to x j σ) ≡ (carry_of j.write j.repeats (behind_of x σ) (ahead_on x σ)).ahead
  unfolding macro_to
  after_macro_ahead L s = refl
  after_macro_ahead R s = refl
  after_macro_ahead N s = absurd s

  after_macro_behind : (x : Dir) → Sideways x → behind_of x (macro_to x j σ) ≡ (carry_of j.write j.repeats (behind_of x σ) (ahead_on x σ)).behind
  unfolding macro_to
  after_macro_behind L s = refl
  after_macro_behind R s = refl
  after_macro_behind N s = absurd s

  after_macro_still : (macro_to N j σ).sim.tape.cur ≡ j.write
  unfolding macro_to
  after_macro_still = refl

-- where the symbol behind is the one to be written, the push needs no place
merges : (w : ℕ) (τ : Conf) (x : Dir) → (Sideways x → top_of (behind_of x τ) ≡ w) → no_place x w τ ≡ false
unfolding full_for lacks
merges w τ L e = pick_true (eqb w (top_of (right_of τ))) _ _ (eq-eqb _ _ (sym (e tt)))
merges w τ R e = pick_true (eqb w (top_of (left_of τ))) _ _ (eq-eqb _ _ (sym (e tt)))
merges w τ N e = refl

-- an unproved entry has neither of the never patterns
unproved_by : (k : Task) (c : Config) (a : Action) (o : Outcome) → entry (table_in k) c ≡ Some a → Judged k c o → o ≡ out_of_fuel_at c → ¬ (Stays c a) × ((x : Dir) → ¬ (Walks k.machine.tapes c a x))
unproved_by k c a o e (halts h) q = cc
unproved_by k c a o e (stays b h s) q = cc
unproved_by k c a o e (walks b m h w) q = cc
unproved_by k c a o e (goes b h s w) q = let p = same_action _ b a h e in (rw p at s, rw p at w)

unproved_says : (k : Task) (c : Config) (a : Action) → entry (table_in k) c ≡ Some a → Judged k c (out_of_fuel_at c) → ¬ (Stays c a) × ((x : Dir) → ¬ (Walks k.machine.tapes c a x))
unproved_says k c a e u = unproved_by k c a (out_of_fuel_at c) e u refl

-- ---- on the way

module _ (k : Task) (table : TableOf k.machine (table_in k)) (single : k.machine.tapes ≡ 1) (σ : Conf) (f : ChainFits k.machine σ)
    (a : Action) (e : entry (table_in k) (config_of σ) ≡ Some a) (room : is_full σ a ≡ false)
    (fuel n : ℕ) (r : Repeats σ a fuel n) (small : σ.sim.steps + n ≤ 2 ^ 62) where
  reads : table_in k σ.sim.state.0 σ.sim.tape.cur 0 0 ≡ Some a
  reads = sym (entry_at_lem (table_in k) σ) ∙ e

  of_machine : ActionOf k.machine a
  of_machine = table _ _ _ _ a e

  abbrev cut : ℕ → Conf
  cut j = macro_of (macro a (suc j)) σ

  module _ (j : ℕ) (l : j < n) where
    less : σ.sim.steps + suc j ≤ 2 ^ 62
    less = omega arith

    pub cut_holds : config_of (cut j) ≡ after k (suc j) σ
    cut_holds = macro_holds k.machine (table_in k) table single σ f a reads room j less (r.keeps j l) (r.way j l)

    pub cut_kept : Kept k.machine σ (cut j)
    cut_kept = macro_keeps k.machine (table_in k) table single σ f a reads room j less

    parts : Sideways a.dir0 → Carries k.machine.symbols a.write0.0 (suc j) (σ.sim.steps + suc j + 2 ^ 20) (behind_of a.dir0 σ) (ahead_on a.dir0 σ)
        (carry_of a.write0.0 (suc j) (behind_of a.dir0 σ) (ahead_on a.dir0 σ))
    parts = sides k.machine (table_in k) table single σ f a reads room j less

  module _ (j : ℕ) (l : suc j < n) where
    abbrev before : j < n
    before = omega arith

    one_less : suc j - 1 ≡ j
    one_less = omega arith

    keeps_state : a.next.0 ≡ σ.sim.state.0
    keeps_state = r.keeps (suc j) l (omega arith)

    -- the same state, and the same symbol under the head
    cut_state : (cut j).sim.state ≡ σ.sim.state
    cut_state = after_macro_state (macro a (suc j)) σ a.dir0 ∙ ap state_of keeps_state

    first_left : (s : Sideways a.dir0) → stream (take j (stack_of (ahead_on a.dir0 σ))) 0 ≡ σ.sim.tape.cur
    first_left s = next_cell σ.sim.tape.cur j (stack_of (ahead_on a.dir0 σ)) (over-reach a.dir0 s a.write0.0 j σ (r.way j before))
        (over-reach a.dir0 s a.write0.0 (suc j) σ (r.way (suc j) l))

    cut_read : (cut j).sim.tape.cur ≡ σ.sim.tape.cur
    cut_read = by_way a.dir0
        (λ s. after_macro_read (macro a (suc j)) σ a.dir0 s ∙ (parts j before s).read ∙ ap (λ i. stream (take i (stack_of (ahead_on a.dir0 σ))) 0) one_less ∙ first_left s)
        (λ n. ap (λ x. (macro_to x (macro a (suc j)) σ).sim.tape.cur) n ∙ after_macro_still (macro a (suc j)) σ ∙ subst (λ x. Over x a.write0.0 (suc j) σ) n (r.way (suc j) l) (omega arith))

    cut_entry : entry (table_in k) (config_of (cut j)) ≡ Some a
    cut_entry = entry_at_lem (table_in k) (cut j) ∙ (λ i. table_in k (cut_state i).0 (cut_read i) 0 0) ∙ reads

    -- inside a macro step the push merges
    cut_merges : is_full (cut j) a ≡ false
    cut_merges = merges a.write0.0 (cut j) a.dir0 (λ s. ap top_of (after_macro_behind (macro a (suc j)) σ a.dir0 s) ∙ (parts j before s).again)

    cut_roomy : ¬ (FullIn k.machine (table_in k) σ (config_of (cut j)))
    cut_roomy g =
        let c : Kept k.machine σ (cut j) = cut_kept j before in
        not_full k.machine (table_in k) (cut j) c.fits a cut_entry cut_merges ((full_same k.machine (table_in k) σ (cut j) c (config_of (cut j))).0 g)

    -- if all cells ahead are blank after these steps, they were blank at the start
    blank_before : (s : Sideways a.dir0) → σ.sim.tape.cur ≡ 0 → stream_of (ahead_on a.dir0 (cut j)) ≡ blanks → stream_of (ahead_on a.dir0 σ) ≡ blanks
    blank_before s z b =
        let st : Stack = stack_of (ahead_on a.dir0 σ) in
        let t : tail (stream (take j (stack_of (ahead_on a.dir0 σ)))) ≡ blanks
        = sym (ap stream_of (after_macro_ahead (macro a (suc j)) σ a.dir0 s) ∙ (parts j before s).ahead_cells ∙ ap (λ i. tail (stream (take i (stack_of (ahead_on a.dir0 σ))))) one_less) ∙ b in
        over-reach a.dir0 s a.write0.0 j σ (r.way j before)
        ∙ (λ i. prepend j (z i) (all_blank (stream (take j (stack_of (ahead_on a.dir0 σ)))) (first_left s ∙ z) t i))
        ∙ prepend_blank j

    module _ (u : Unproved k (config_of σ)) where
      cut_unproved : Unproved k (config_of (cut j))
      cut_unproved t =
          let o = unproved_says k (config_of σ) a e (u t) in
          let g : ChainFits k.machine (cut j) = (cut_kept j before).fits in
          let c : read_t (config_of (cut j)).tape0 ≡ σ.sim.tape.cur = read_held (cut j) ∙ cut_read in
          goes a cut_entry
          (λ h. o.0 (stays_says k single σ f a of_machine keeps_state h.still0 (h.same0 ∙ c)))
          (λ x w. o.1 x (was x w (sym c ∙ w.blank) g))
        where
          was : (x : Dir) → Walks k.machine.tapes (config_of (cut j)) a x → σ.sim.tape.cur ≡ 0 → ChainFits k.machine (cut j) → Walks k.machine.tapes (config_of σ) a x
          was x w z g =
              let s : Sideways a.dir0 = subst Sideways (sym w.moves) w.sideways in
              let b = walks_blank k single (cut j) g a of_machine x w in
              walks_says k single σ f a of_machine x w.sideways keeps_state w.moves z
              (subst (λ y. stream_of (ahead_on y σ) ≡ blanks) w.moves (blank_before s z (subst (λ y. stream_of (ahead_on y (cut j)) ≡ blanks) (sym w.moves) b)))

  -- what holds of the first configuration, and of each later one inside the macro step, holds of all
  all_along : (P : Config → Type 0) → P (config_of σ) → ((j : ℕ) → suc j < n → P (config_of (cut j))) → (j : ℕ) → j < n → P (after k j σ)
  unfolding run
  all_along P h g zero l = h
  all_along P h g (suc j) l = subst P (cut_holds j (omega arith)) (g j l)

  pub way_entry : (j : ℕ) → j < n → entry (table_in k) (after k j σ) ≡ Some a
  way_entry = all_along (λ c. entry (table_in k) c ≡ Some a) e cut_entry

  pub way_unproved : Unproved k (config_of σ) → (j : ℕ) → j < n → Unproved k (after k j σ)
  way_unproved u = all_along (Unproved k) u (λ j l. cut_unproved j l u)

  pub way_unmatched : has_rule k (config_of σ) ≡ false → (j : ℕ) → j < n → has_rule k (after k j σ) ≡ false
  way_unmatched h = all_along (λ c. has_rule k c ≡ false) h (λ j l. ap (matches k.rule) (cut_state j l) ∙ h)

  pub way_roomy : (j : ℕ) → j < n → ¬ (FullAfter k j σ)
  way_roomy = all_along (λ c. ¬ (FullIn k.machine (table_in k) σ c)) (not_full k.machine (table_in k) σ f a e room) cut_roomy
