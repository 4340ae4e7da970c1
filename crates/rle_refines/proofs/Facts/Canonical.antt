-- The stack rule makes the stacks canonical: the configuration held determines them, and with them whether a step is full. Assumes nothing.
use Rattle.std.specs.Prelude.{◌≡◌, ◌↔◌, List, ℕ, zero, suc, ◌+◌, ◌≤◌, ◌^◌, eqb, leb, ℤ, pos, negsuc, Option, Some}
use Rattle.std.proofs.Math.Path.{refl, sym, fun_ext}
use Rattle.std.proofs.Common.{ap, ◌∙◌, subst, arith}
use Rattle.std.proofs.Math.Bool.{true, false}
use borrow.Author.Tests.{eqb-false, ne_eqb, leb-true, le-leb}
use Rattle.notation.specs.Position.{◌⊖◌, up, dn}
use Rattle.notation.proofs.Facts.Position.{ints, diff-⊖}
use Rattle.notation.proofs.Facts.Tests.{clash, pick_cases, pick_false}
use Rattle.symbol.specs.Kinds.{state_of}
use Rattle.symbol.specs.declared.Dir.{Dir}
use Rattle.symbol.specs.declared.Dir.TheVariants.{L, R, N}
use Rattle.machine.specs.declared.Machine.{Machine}
use Rattle.machine.specs.declared.Action.{Action}
use Rattle.table_machine.specs.TableMachine.{Table, Tape, Config, read_t, entry}
use Rattle.rle_stack.specs.Model.{Side, places_of, top_of, lacks}
use Rattle.rle.specs.Model.Engine.{Conf, left_of, right_of, full_for}
use Rattle.rle_refines.specs.Meaning.{Stack, empty, over, stack_upto, stack_of, top, Stream, tail, prepend, stream, stream_of, distance, look, tape_of, config_of, RunsFit, ChainFits, Alike}
use Rattle.rle_refines.specs.Full.{height, Stacked, FullOn, FullAt}
use Rattle.rle_refines.specs.Statement.{is_full, Kept}
use Rattle.rle_refines.proofs.Facts.Stack.{first_cell, empty_of_blank, prepend-first}
use Rattle.rle_refines.proofs.Facts.Sides.{top_is}
use Rattle.rle_refines.proofs.Facts.Tape.{diff-distance}
use Rattle.rle_refines.proofs.Facts.MacroStep.{read_held}

-- ---- one stack for the cells of a side

record Stripped (n m : ℕ) (f g : Stream) : Type 0 where
  count : n ≡ m
  rest : f ≡ g

strip : (n m a : ℕ) (f g : Stream) → prepend n a f ≡ prepend m a g → ¬ (a ≡ f 0) → ¬ (a ≡ g 0) → Stripped n m f g
strip zero zero a f g e x y = record { count = refl; rest = e }
strip zero (suc m) a f g e x y = absurd (x (sym (ap (λ (h : Stream). h 0) e)))
strip (suc n) zero a f g e x y = absurd (y (ap (λ (h : Stream). h 0) e))
strip (suc n) (suc m) a f g e x y = let s = strip n m a f g (ap tail e) x y in record { count = ap suc s.count; rest = s.rest }

module _ (k : ℕ) where
  one_stack : (r q : Stack) → RunsFit k r → RunsFit k q → stream r ≡ stream q → r ≡ q
  one_stack empty q f g e = sym (empty_of_blank k q g (sym e))
  one_stack (over a n r) empty f g e = empty_of_blank k (over a n r) f e
  one_stack (over a n r) (over b m q) f g e = build (one_stack r q f.3 g.3 x.rest)
    where
      same : a ≡ b
      same = sym (prepend-first n a (stream r) f.0) ∙ ap (λ (h : Stream). h 0) e ∙ prepend-first m b (stream q) g.0

      x : Stripped n m (stream r) (stream q)
      x = strip n m a (stream r) (stream q) (e ∙ ap (λ c. prepend m c (stream q)) (sym same))
          (λ p. f.2 (p ∙ first_cell k r f.3)) (λ p. g.2 (sym same ∙ p ∙ first_cell k q g.3))

      build : r ≡ q → over a n r ≡ over b m q
      build s = λ i. over (same i) (x.count i) (s i)

-- ---- one pair of stacks for a tape

module _ (k : ℕ) (t : Tape) (l r l' r' : Stack) (s : Stacked k t l r) (s' : Stacked k t l' r') where
  -- both pairs have the same cell at every distance
  alike : (z : ℤ) (x : ℤ) → distance t.head z ≡ x → look (stream l) (read_t t) (stream r) x ≡ look (stream l') (read_t t) (stream r') x
  alike z x e = subst (λ y. look (stream l) (read_t t) (stream r) y ≡ look (stream l') (read_t t) (stream r') y) e (sym (s.cells z) ∙ s'.cells z)

  left_alike : stream l ≡ stream l'
  left_alike = fun_ext (λ d. alike (up t.head ⊖ (dn t.head + suc d)) (negsuc d)
      (omega (ints, diff-distance t.head (up t.head ⊖ (dn t.head + suc d)), diff-⊖ (up t.head) (dn t.head + suc d))))

  right_alike : stream r ≡ stream r'
  right_alike = fun_ext (λ d. alike ((up t.head + suc d) ⊖ dn t.head) (pos (suc d))
      (omega (ints, diff-distance t.head ((up t.head + suc d) ⊖ dn t.head), diff-⊖ (up t.head + suc d) (dn t.head))))

  pub one_pair : (l ≡ l') × (r ≡ r')
  one_pair = (one_stack k l l' s.lefts s'.lefts left_alike, one_stack k r r' s.rights s'.rights right_alike)

-- ---- the stacks of an engine that fits are those of its tape

height_is : (ss ls : List ℕ) (n : ℕ) → height (stack_upto ss ls n) ≡ n
height_is ss ls zero = refl
height_is ss ls (suc n) = ap suc (height_is ss ls n)

held_stacks : (m : Machine) (σ : Conf) → ChainFits m σ → Stacked m.symbols (tape_of σ) (stack_of (left_of σ)) (stack_of (right_of σ))
held_stacks m σ f = record {
  lefts = f.lefts.runs;
  rights = f.rights.runs;
  cells = λ z. ap (λ c. look (stream_of (left_of σ)) c (stream_of (right_of σ)) (distance (tape_of σ).head z)) (sym (read_held σ));
}

-- two engine values that hold one configuration are alike
pub one_value : (m : Machine) (σ τ : Conf) → ChainFits m σ → ChainFits m τ → config_of σ ≡ config_of τ → Alike σ τ
one_value m σ τ f g e =
    let t : tape_of σ ≡ tape_of τ = ap (λ (c : Config). c.tape0) e in
    let h : σ.sim.tape.head ⊖ 2 ^ 63 ≡ τ.sim.tape.head ⊖ 2 ^ 63 = ap (λ (x : Tape). x.head) t in
    let lo : σ.sim.lowest ⊖ 2 ^ 63 ≡ τ.sim.lowest ⊖ 2 ^ 63 = ap (λ (x : Tape). x.low) t in
    let hi : σ.sim.highest ⊖ 2 ^ 63 ≡ τ.sim.highest ⊖ 2 ^ 63 = ap (λ (x : Tape). x.high) t in
    let p = one_pair m.symbols (tape_of σ) _ _ _ _ (held_stacks m σ f)
    (subst (λ (x : Tape). Stacked m.symbols x (stack_of (left_of τ)) (stack_of (right_of τ))) (sym t) (held_stacks m τ g)) in
    record {
      state = ap (λ (c : Config). state_of c.state) e;
      steps = ap (λ (c : Config). c.steps) e;
      cur = sym (read_held σ) ∙ ap read_t t ∙ read_held τ;
      head = omega (ints, diff-⊖ σ.sim.tape.head (2 ^ 63), diff-⊖ τ.sim.tape.head (2 ^ 63));
      lowest = omega (ints, diff-⊖ σ.sim.lowest (2 ^ 63), diff-⊖ τ.sim.lowest (2 ^ 63));
      highest = omega (ints, diff-⊖ σ.sim.highest (2 ^ 63), diff-⊖ τ.sim.highest (2 ^ 63));
      left = sym (height_is _ _ _) ∙ ap height p.0 ∙ height_is _ _ _;
      right = sym (height_is _ _ _) ∙ ap height p.1 ∙ height_is _ _ _;
      lefts = p.0;
      rights = p.1;
    }

-- ---- full

-- a step from a configuration is full, with the places lent to σ
abbrev pub FullIn : Machine → Table → Conf → Config → Type 0
FullIn m d σ c = FullAt m d (places_of σ.ls σ.ll) (places_of σ.rs σ.rl) c

module _ (places w : ℕ) (x : Side) where
  tops : top_of x ≡ top (stack_of x)
  tops = top_is x.symbols x.lengths x.count

  heights : height (stack_of x) ≡ x.count
  heights = height_is x.symbols x.lengths x.count

  lacks_says : lacks places w x ≡ true → ¬ (w ≡ top (stack_of x)) × (places ≤ height (stack_of x))
  unfolding lacks
  lacks_says = pick_cases (eqb w (top_of x)) false (leb places x.count) (λ b. b ≡ true → ¬ (w ≡ top (stack_of x)) × (places ≤ height (stack_of x)))
      (λ t e. absurd (clash e refl)) (λ t e. (λ q. eqb-false _ _ t (q ∙ sym tops), omega (arith, leb-true places x.count e, heights)))

  lacks_holds : ¬ (w ≡ top (stack_of x)) × (places ≤ height (stack_of x)) → lacks places w x ≡ true
  unfolding lacks
  lacks_holds p = pick_false (eqb w (top_of x)) false _ (ne_eqb _ _ (λ q. p.0 (q ∙ tops))) ∙ le-leb places x.count (omega (arith, p.1, heights))

module _ (σ : Conf) (w lp rp : ℕ) where
  full_says : (x : Dir) → full_for x w lp rp (left_of σ) (right_of σ) ≡ true → FullOn x w lp rp (stack_of (left_of σ)) (stack_of (right_of σ))
  unfolding full_for
  full_says L e = lacks_says rp w (right_of σ) e
  full_says R e = lacks_says lp w (left_of σ) e
  full_says N e = clash e refl

  full_holds : (x : Dir) → FullOn x w lp rp (stack_of (left_of σ)) (stack_of (right_of σ)) → full_for x w lp rp (left_of σ) (right_of σ) ≡ true
  unfolding full_for
  full_holds L p = lacks_holds rp w (right_of σ) p
  full_holds R p = lacks_holds lp w (left_of σ) p
  full_holds N p = absurd p

pub same_action : (x : Option Action) (a b : Action) → x ≡ Some a → x ≡ Some b → a ≡ b
same_action x a b h k = cc

-- the engine's test depends on the configuration and the places alone
module _ (m : Machine) (d : Table) (σ : Conf) (f : ChainFits m σ) (a : Action) (e : entry d (config_of σ) ≡ Some a) where
  pub full_exact : (is_full σ a ≡ true) ↔ FullIn m d σ (config_of σ)
  full_exact = (to, back)
    where
      to : is_full σ a ≡ true → FullIn m d σ (config_of σ)
      to t = record {
        act = a;
        has = e;
        left = stack_of (left_of σ);
        right = stack_of (right_of σ);
        stacked = held_stacks m σ f;
        full = full_says σ a.write0.0 _ _ a.dir0 t;
      }

      back : FullIn m d σ (config_of σ) → is_full σ a ≡ true
      back g =
          let q : g.act ≡ a = same_action _ _ _ g.has e in
          let p = one_pair m.symbols (tape_of σ) g.left g.right (stack_of (left_of σ)) (stack_of (right_of σ)) g.stacked (held_stacks m σ f) in
          full_holds σ a.write0.0 _ _ a.dir0
          (subst (λ n. n) (λ i. FullOn (q i).dir0 (q i).write0.0 (places_of σ.ls σ.ll) (places_of σ.rs σ.rl) (p.0 i) (p.1 i)) g.full)

  pub not_full : is_full σ a ≡ false → ¬ (FullIn m d σ (config_of σ))
  not_full t g = clash (full_exact.1 g) t

-- lists of the same lengths have the same places
pub full_same : (m : Machine) (d : Table) (σ τ : Conf) → Kept m σ τ → (c : Config)
    → FullIn m d σ c ↔ FullIn m d τ c
full_same m d σ τ k c = (subst (λ n. n) same, subst (λ n. n) (sym same))
  where
    lefts : places_of σ.ls σ.ll ≡ places_of τ.ls τ.ll
    lefts = omega (arith, k.same_ls, k.same_ll)

    rights : places_of σ.rs σ.rl ≡ places_of τ.rs τ.rl
    rights = omega (arith, k.same_rs, k.same_rl)

    same : FullIn m d σ c ≡ FullIn m d τ c
    same = λ i. FullAt m d (lefts i) (rights i) c
