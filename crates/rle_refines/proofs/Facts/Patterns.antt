-- The never patterns as the engine tests them: a side is empty exactly where it is blank, and an entry's test is true exactly for the patterns. Assumes nothing.
use Rattle.std.specs.Prelude.{◌≡◌, ◌↔◌, Bool, true, false, List, ℕ, zero, suc, eqb, ℤ}
use Rattle.std.proofs.Math.Path.{refl, sym}
use Rattle.std.proofs.Common.{ap, ◌∙◌, subst, arith}
use borrow.Author.Tests.{eqb-true, eqb-false, eq-eqb}
use Rattle.notation.specs.Choice.{both}
use Rattle.notation.proofs.Facts.Tests.{clash, both_split, both_true, by_test}
use Rattle.symbol.specs.declared.Dir.{Dir}
use Rattle.symbol.specs.declared.Dir.TheVariants.{L, R, N}
use Rattle.machine.specs.declared.Machine.{Machine}
use Rattle.machine.specs.declared.Action.{Action}
use Rattle.table_laws.specs.WellFormed.{ActionOf}
use Rattle.table_machine.specs.TableMachine.{Stays, Sideways, Beyond, Walks}
use Rattle.run_rules.specs.Model.Task.{Task}
use Rattle.rle.specs.Model.Engine.{Conf, left_of, right_of, loops_for, loops_of}
use Rattle.rle_refines.specs.Meaning.{empty, stack_upto, stack_of, blanks, stream, stream_of, tape_of, config_of, RunsFit, ChainFits, ahead_on}
use Rattle.rle_refines.proofs.Facts.Stack.{empty_of_blank}
use Rattle.rle_refines.proofs.Facts.Tape.{beyond_blank, blank_beyond_lem}
use Rattle.rle_refines.proofs.Facts.MacroStep.{read_held}

-- ---- a side without runs

none_empty : (ss ls : List ℕ) (n : ℕ) → stack_upto ss ls n ≡ empty → n ≡ 0
none_empty ss ls zero e = refl
none_empty ss ls (suc n) e = let z : ◌≡◌ {A = ℕ} 0 1 = cc in absurd (omega arith)

module _ (σ : Conf) where
  abbrev pub BlankBeyond : Dir → Type 0
  BlankBeyond x = (z : ℤ) → Beyond x (tape_of σ).head z → (tape_of σ).cell z ≡ 0

  stream_beyond : (x : Dir) → stream_of (ahead_on x σ) ≡ blanks → BlankBeyond x
  stream_beyond L e = beyond_blank σ.sim.tape.cur σ.sim.tape.head σ.sim.lowest σ.sim.highest L (stream_of (right_of σ)) (stream_of (left_of σ)) e
  stream_beyond R e = beyond_blank σ.sim.tape.cur σ.sim.tape.head σ.sim.lowest σ.sim.highest R (stream_of (left_of σ)) (stream_of (right_of σ)) e
  stream_beyond N e = λ z b. absurd b

  beyond_stream : (x : Dir) → Sideways x → BlankBeyond x → stream_of (ahead_on x σ) ≡ blanks
  beyond_stream L s b = blank_beyond_lem σ.sim.tape.cur σ.sim.tape.head σ.sim.lowest σ.sim.highest L s (stream_of (right_of σ)) (stream_of (left_of σ)) b
  beyond_stream R s b = blank_beyond_lem σ.sim.tape.cur σ.sim.tape.head σ.sim.lowest σ.sim.highest R s (stream_of (left_of σ)) (stream_of (right_of σ)) b
  beyond_stream N s b = absurd s

module _ (m : Machine) (σ : Conf) (f : ChainFits m σ) where
  ahead_runs : (x : Dir) → RunsFit m.symbols (stack_of (ahead_on x σ))
  ahead_runs L = f.lefts.runs
  ahead_runs R = f.rights.runs
  ahead_runs N = f.rights.runs

  -- a side is empty exactly where every cell strictly beyond the head that way is blank
  pub empty_exact : (x : Dir) → Sideways x → ((ahead_on x σ).count ≡ 0) ↔ BlankBeyond σ x
  empty_exact x s = (
    λ e. stream_beyond σ x (ap (λ n. stream (stack_upto (ahead_on x σ).symbols (ahead_on x σ).lengths n)) e),
    λ b. none_empty _ _ _ (empty_of_blank m.symbols (stack_of (ahead_on x σ)) (ahead_runs x) (beyond_stream σ x s b)),
  )

-- ---- the two patterns

-- what the result of an entry's test means for the configuration held
pub data Sees (k : Task) (σ : Conf) (a : Action) : Bool → Type 0 where
  unsure : ¬ (Stays (config_of σ) a) → ((x : Dir) → ¬ (Walks k.machine.tapes (config_of σ) a x)) → Sees k σ a false
  stay : Stays (config_of σ) a → Sees k σ a true
  walk : (x : Dir) → Walks k.machine.tapes (config_of σ) a x → Sees k σ a true

module _ (k : Task) (single : k.machine.tapes ≡ 1) (σ : Conf) (f : ChainFits k.machine σ) (a : Action) (of_machine : ActionOf k.machine a) where
  pub stays_says : a.next.0 ≡ σ.sim.state.0 → a.dir0 ≡ N → a.write0.0 ≡ σ.sim.tape.cur → Stays (config_of σ) a
  stays_says q n w = record {
    keeps = q;
    still0 = n;
    still1 = (of_machine.lacks1 (omega arith)).1;
    still2 = (of_machine.lacks2 (omega arith)).1;
    same0 = w ∙ sym (read_held σ);
    same1 = (of_machine.lacks1 (omega arith)).0;
    same2 = (of_machine.lacks2 (omega arith)).0;
  }

  pub walks_says : (x : Dir) → Sideways x → a.next.0 ≡ σ.sim.state.0 → a.dir0 ≡ x → σ.sim.tape.cur ≡ 0 → stream_of (ahead_on x σ) ≡ blanks → Walks k.machine.tapes (config_of σ) a x
  walks_says x s q n z e = record {
    single = single;
    same_state = q;
    moves = n;
    sideways = s;
    blank = read_held σ ∙ z;
    beyond = stream_beyond σ x e;
  }

  pub walks_blank : (x : Dir) → Walks k.machine.tapes (config_of σ) a x → stream_of (ahead_on x σ) ≡ blanks
  walks_blank x w = beyond_stream σ x w.sideways w.beyond

  pub walks_empty : (x : Dir) → Walks k.machine.tapes (config_of σ) a x → stack_of (ahead_on x σ) ≡ empty
  walks_empty x w = empty_of_blank k.machine.symbols (stack_of (ahead_on x σ)) (ahead_runs k.machine σ f x) (walks_blank x w)

  -- "all tapes stay and rewrite", or "the cell read is blank .. and every cell strictly beyond the head that way is blank": the side is empty exactly then
  pattern_sees : (x : Dir) → a.dir0 ≡ x → a.next.0 ≡ σ.sim.state.0
      → Sees k σ a (loops_for x a.write0.0 σ.sim.tape.cur σ.sim.tape.left σ.sim.tape.right)
  unfolding loops_for
  pattern_sees x n q = by x n
    where
      moved : (x y : Dir) → a.dir0 ≡ x → Walks k.machine.tapes (config_of σ) a y → x ≡ y
      moved x y n w = sym n ∙ w.moves

      sideways : (x : Dir) (b : Bool) → Sideways x → a.dir0 ≡ x
          → (b ≡ true → (σ.sim.tape.cur ≡ 0) × (stream_of (ahead_on x σ) ≡ blanks))
          → (σ.sim.tape.cur ≡ 0 → stack_of (ahead_on x σ) ≡ empty → b ≡ true)
          → Sees k σ a b
      sideways x b s n says holds = by_test b
          (λ t. rw t (walk x (walks_says x s q n (says t).0 (says t).1)))
          (λ t. rw t (unsure (λ h. subst Sideways (sym n ∙ h.still0) s)
          (λ y w. clash (holds (sym (read_held σ) ∙ w.blank) (ap (λ z. stack_of (ahead_on z σ)) (moved x y n w) ∙ walks_empty y w)) t)))

      by : (x : Dir) → a.dir0 ≡ x → Sees k σ a (loops_for x a.write0.0 σ.sim.tape.cur σ.sim.tape.left σ.sim.tape.right)
      by L n = sideways L (both (eqb σ.sim.tape.cur 0) (eqb σ.sim.tape.left 0)) tt n
          (λ t. (eqb-true _ _ (both_split t).0, ap (λ j. stream (stack_upto σ.ls σ.ll j)) (eqb-true σ.sim.tape.left 0 (both_split t).1)))
          (λ z e. both_true (eq-eqb _ _ z) (eq-eqb _ _ (none_empty σ.ls σ.ll σ.sim.tape.left e)))
      by R n = sideways R (both (eqb σ.sim.tape.cur 0) (eqb σ.sim.tape.right 0)) tt n
          (λ t. (eqb-true _ _ (both_split t).0, ap (λ j. stream (stack_upto σ.rs σ.rl j)) (eqb-true σ.sim.tape.right 0 (both_split t).1)))
          (λ z e. both_true (eq-eqb _ _ z) (eq-eqb _ _ (none_empty σ.rs σ.rl σ.sim.tape.right e)))
      by N n = by_test (eqb a.write0.0 σ.sim.tape.cur)
          (λ t. rw t (stay (stays_says q n (eqb-true _ _ t))))
          (λ t. rw t (unsure (λ h. eqb-false _ _ t (h.same0 ∙ read_held σ)) (λ y w. subst Sideways (sym (moved N y n w)) w.sideways)))

  pub loop_sees : Sees k σ a (loops_of σ.sim.state a σ.sim.tape.cur σ.sim.tape.left σ.sim.tape.right)
  unfolding both
  loop_sees = by_test (eqb a.next.0 σ.sim.state.0)
      (λ t. rw t (pattern_sees a.dir0 refl (eqb-true _ _ t)))
      (λ t. rw t (unsure (λ h. eqb-false _ _ t h.keeps) (λ x w. eqb-false _ _ t w.same_state)))
