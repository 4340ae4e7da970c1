-- A macro step of n repeats is n steps of the table machine, and the engine still fits after it. Assumes nothing.
use Rattle.std.specs.Prelude.{◌≡◌, false, Some}
use Rattle.std.proofs.Math.Path.{refl}
use Rattle.std.proofs.Common.{sym, ap, ◌∙◌, subst, arith}
use Prim.Native.Nat.{ℕ, suc, ◌+◌, ◌-◌, ◌≤◌, ◌<◌, ◌^◌, min, max}
use Rattle.symbol.specs.declared.Dir.{Dir}
use Rattle.symbol.specs.declared.Dir.TheVariants.{L, R, N}
use Rattle.machine.specs.declared.Machine.{Machine}
use Rattle.machine.specs.declared.Action.{Action}
use Rattle.table_laws.specs.WellFormed.{ActionOf}
use Rattle.table_machine.specs.TableMachine.{Table, Config, read_t, entry, run, Sideways}
use Rattle.table_machine.specs.Tables.{TableOf}
use Rattle.rle_stack.specs.Model.{Side, places_of, lacks}
use Rattle.rle.specs.Model.Engine.{Conf, left_of, right_of, Carried, carry_of, full_for, no_place, macro_to, macro_of, Macro}
use Rattle.rle.specs.Invariants.{SameSizes}
use Rattle.rle.proofs.Facts.MacroStep.{macro_sizes}
use Rattle.rle_refines.specs.Meaning.{stack_of, Stream, tail, prepend, stream, stream_of, tape_around, tape_of, config_of, SideFits, ChainFits, behind_of, ahead_on}
use Rattle.rle_refines.specs.Statement.{is_full, Kept}
use Rattle.rle_refines.proofs.Facts.Stack.{take, Reach}
use Rattle.rle_refines.proofs.Facts.Sides.{Carries, carry_holds}
use Rattle.rle_refines.proofs.Facts.Tape.{facing, onward, arrived, read_around}
use Rattle.rle_refines.proofs.Facts.Repeats.{at, walk, stay}

-- an entry of one tape, made n times in a row
abbrev pub macro : Action → (n : ℕ) → Macro
macro a n = record { write = a.write0.0; dir = a.dir0; next = a.next; repeats = n }

pub by_way : {P : Type 0} (x : Dir) → (Sideways x → P) → (x ≡ N → P) → P
by_way L f g = f tt
by_way R f g = f tt
by_way N f g = g refl

-- the configuration held has the engine's symbol read, and its entry
pub read_held : (σ : Conf) → read_t (tape_of σ) ≡ σ.sim.tape.cur
read_held σ = read_around (stream_of (left_of σ)) (stream_of (right_of σ)) σ.sim.tape.cur σ.sim.tape.head σ.sim.lowest σ.sim.highest

pub entry_at_lem : (d : Table) (σ : Conf) → entry d (config_of σ) ≡ d σ.sim.state.0 σ.sim.tape.cur 0 0
entry_at_lem d σ = ap (λ c. d σ.sim.state.0 c 0 0) (read_held σ)

-- the configuration after a macro step, by its two sides
abbrev sides_of : Dir → Macro → Conf → Carried
sides_of x j σ = carry_of j.write j.repeats (behind_of x σ) (ahead_on x σ)

module _ (σ : Conf) where
  held_facing : (x : Dir) → config_of σ ≡ at σ.sim.state.0 σ.sim.steps
      (facing x (stream_of (behind_of x σ)) σ.sim.tape.cur (stream_of (ahead_on x σ)) σ.sim.tape.head σ.sim.lowest σ.sim.highest)
  held_facing L = refl
  held_facing R = refl
  held_facing N = refl

  after_macro_facing : (x : Dir) → Sideways x → (j : Macro) → config_of (macro_to x j σ) ≡ at j.next.0 (σ.sim.steps + j.repeats)
      (arrived x (stream_of (sides_of x j σ).behind) (sides_of x j σ).cur (stream_of (sides_of x j σ).ahead) (onward x j.repeats σ.sim.tape.head) σ.sim.lowest σ.sim.highest)
  unfolding macro_to
  after_macro_facing L s j = refl
  after_macro_facing R s j = refl
  after_macro_facing N s j = absurd s

  after_macro_still : (j : Macro) → config_of (macro_to N j σ) ≡ at j.next.0 (σ.sim.steps + j.repeats)
      (tape_around (stream_of (left_of σ)) j.write (stream_of (right_of σ)) σ.sim.tape.head (min σ.sim.lowest σ.sim.tape.head) (max σ.sim.highest σ.sim.tape.head))
  unfolding macro_to
  after_macro_still j = refl

  room_behind : (x : Dir) → Sideways x → (w : ℕ) → no_place x w σ ≡ false
      → lacks (places_of (behind_of x σ).symbols (behind_of x σ).lengths) w (behind_of x σ) ≡ false
  unfolding full_for
  room_behind L s w e = e
  room_behind R s w e = e
  room_behind N s w e = absurd s

-- k more cells of the symbol read lie ahead; an entry that stays rewrites what it read
abbrev pub Over : Dir → (write k : ℕ) → Conf → Type 0
Over L w k σ = Reach σ.sim.tape.cur k (stack_of (left_of σ))
Over R w k σ = Reach σ.sim.tape.cur k (stack_of (right_of σ))
Over N w k σ = 1 ≤ k → w ≡ σ.sim.tape.cur

pub over-reach : (x : Dir) → Sideways x → (w k : ℕ) (σ : Conf) → Over x w k σ → Reach σ.sim.tape.cur k (stack_of (ahead_on x σ))
over-reach L s w k σ o = o
over-reach R s w k σ o = o
over-reach N s w k σ o = absurd s

-- a macro step that ends by step 2^62 takes no raised position below 0
high_enough : (m : Machine) (σ : Conf) → ChainFits m σ → (n : ℕ) → σ.sim.steps + n ≤ 2 ^ 62 → n ≤ σ.sim.tape.head
high_enough m σ f n small = omega (arith, f.low_head, f.low_near)

module _ (m : Machine) (σ : Conf) (f : ChainFits m σ) where
  sides_in : (x : Dir) → SideFits m.symbols (σ.sim.steps + 2 ^ 20) (behind_of x σ) × SideFits m.symbols (σ.sim.steps + 2 ^ 20) (ahead_on x σ)
  sides_in L = (f.rights, f.lefts)
  sides_in R = (f.lefts, f.rights)
  sides_in N = (f.lefts, f.rights)

  module _ (w n : ℕ) (some : 1 ≤ n) (w-in : w < m.symbols) (x : Dir) (s : Sideways x) (room : no_place x w σ ≡ false) where
    pub carried : Carries m.symbols w n (σ.sim.steps + n + 2 ^ 20) (behind_of x σ) (ahead_on x σ) (carry_of w n (behind_of x σ) (ahead_on x σ))
    carried = carry_holds m.symbols w n (σ.sim.steps + 2 ^ 20) (σ.sim.steps + n + 2 ^ 20) (behind_of x σ) (ahead_on x σ) some (omega arith) w-in
        (sides_in x).0 (sides_in x).1 (room_behind σ x s w room)

-- ---- the configuration

module _ (m : Machine) (d : Table) (table : TableOf m d) (single : m.tapes ≡ 1) (σ : Conf) (f : ChainFits m σ)
    (a : Action) (reads : d σ.sim.state.0 σ.sim.tape.cur 0 0 ≡ Some a) (room : is_full σ a ≡ false) where
  of_machine : ActionOf m a
  of_machine = table _ _ _ _ a reads

  module _ (k : ℕ) (small : σ.sim.steps + suc k ≤ 2 ^ 62) where
    deep : suc k ≤ σ.sim.tape.head
    deep = high_enough m σ f (suc k) small

    pub sides : Sideways a.dir0 → Carries m.symbols a.write0.0 (suc k) (σ.sim.steps + suc k + 2 ^ 20) (behind_of a.dir0 σ) (ahead_on a.dir0 σ)
        (carry_of a.write0.0 (suc k) (behind_of a.dir0 σ) (ahead_on a.dir0 σ))
    sides s = carried m σ f a.write0.0 (suc k) (omega arith) of_machine.write0_in a.dir0 s room

    module _ (keeps : 1 ≤ k → a.next.0 ≡ σ.sim.state.0) (way : Over a.dir0 a.write0.0 k σ) where
      abbrev behind : Stream
      behind = stream_of (behind_of a.dir0 σ)

      -- the cells ahead, without the first j
      abbrev past : ℕ → Stream
      past j = stream (take j (stack_of (ahead_on a.dir0 σ)))

      abbrev before : Stream → Config
      before f = at σ.sim.state.0 σ.sim.steps (facing a.dir0 behind σ.sim.tape.cur f σ.sim.tape.head σ.sim.lowest σ.sim.highest)

      abbrev there : Stream → ℕ → Stream → Config
      there b c f = at a.next.0 (σ.sim.steps + suc k) (arrived a.dir0 b c f (onward a.dir0 (suc k) σ.sim.tape.head) σ.sim.lowest σ.sim.highest)

      moves : Sideways a.dir0 → config_of (macro_of (macro a (suc k)) σ) ≡ run d (suc k) (config_of σ)
      moves s =
          let less : suc k - 1 ≡ k = omega arith in
          let c = sides s in
          after_macro_facing σ a.dir0 s (macro a (suc k))
          ∙ (λ i. there (c.behind_cells i) (c.read i) (c.ahead_cells i))
          ∙ (λ i. there (prepend (suc k) a.write0.0 behind) (past (less i) 0) (tail (past (less i))))
          ∙ sym (walk m d table single a σ.sim.state.0 σ.sim.tape.cur reads s k σ.sim.steps behind (past k) σ.sim.tape.head σ.sim.lowest σ.sim.highest
          keeps deep f.low_head f.head_high)
          ∙ ap (λ y. run d (suc k) (before y)) (sym (over-reach a.dir0 s a.write0.0 k σ way))
          ∙ ap (run d (suc k)) (sym (held_facing σ a.dir0))

      stays : a.dir0 ≡ N → config_of (macro_of (macro a (suc k)) σ) ≡ run d (suc k) (config_of σ)
      stays n =
          ap (λ x. config_of (macro_to x (macro a (suc k)) σ)) n
          ∙ after_macro_still σ (macro a (suc k))
          ∙ sym (stay m d table single a σ.sim.state.0 σ.sim.tape.cur reads n (stream_of (left_of σ)) (stream_of (right_of σ)) σ.sim.tape.head k σ.sim.steps σ.sim.lowest σ.sim.highest
          (λ l. (keeps l, subst (λ x. Over x a.write0.0 k σ) n way l)))

      -- a macro step of k + 1 repeats is k + 1 steps of the table machine
      pub macro_holds : config_of (macro_of (macro a (suc k)) σ) ≡ run d (suc k) (config_of σ)
      macro_holds = by_way a.dir0 moves stays

    -- ---- what a macro step keeps

    pub macro_keeps : Kept m σ (macro_of (macro a (suc k)) σ)
    unfolding macro_to
    macro_keeps =
        let z : SameSizes σ (macro_of (macro a (suc k)) σ) = macro_sizes (macro a (suc k)) σ a.dir0 in
        record { fits = by a.dir0 refl; same_ls = z.ls; same_ll = z.ll; same_rs = z.rs; same_rl = z.rl }
      where
        later : (x : Side) → SideFits m.symbols (σ.sim.steps + 2 ^ 20) x → SideFits m.symbols (σ.sim.steps + suc k + 2 ^ 20) x
        later x g = record { live = g.live; runs = g.runs; sum = omega (arith, g.sum) }

        by : (x : Dir) → a.dir0 ≡ x → ChainFits m (macro_to x (macro a (suc k)) σ)
        by L e =
            let c = carried m σ f a.write0.0 (suc k) (omega arith) of_machine.write0_in L tt (rw e at room) in
            record {
              state_in_holds = of_machine.next_in;
              steps_in = small;
              macros_in = omega (arith, f.macros_in);
              read_in = c.read_in (omega (arith, f.read_in));
              low_head = omega arith;
              head_high = omega arith;
              low_near = omega (arith, f.low_near, f.low_head, deep);
              high_near = omega (arith, f.high_near, f.head_high);
              lefts = c.ahead_fits;
              rights = c.behind_fits;
              left_far = omega (arith, f.left_far, c.ahead_sum, deep);
              right_far = omega (arith, f.right_far, c.behind_sum, deep);
            }
        by R e =
            let c = carried m σ f a.write0.0 (suc k) (omega arith) of_machine.write0_in R tt (rw e at room) in
            record {
              state_in_holds = of_machine.next_in;
              steps_in = small;
              macros_in = omega (arith, f.macros_in);
              read_in = c.read_in (omega (arith, f.read_in));
              low_head = omega arith;
              head_high = omega arith;
              low_near = omega (arith, f.low_near, f.low_head);
              high_near = omega (arith, f.high_near, f.head_high);
              lefts = c.behind_fits;
              rights = c.ahead_fits;
              left_far = omega (arith, f.left_far, c.behind_sum);
              right_far = omega (arith, f.right_far, c.ahead_sum);
            }
        by N e = record {
          state_in_holds = of_machine.next_in;
          steps_in = small;
          macros_in = omega (arith, f.macros_in);
          read_in = of_machine.write0_in;
          low_head = omega arith;
          head_high = omega arith;
          low_near = omega (arith, f.low_near, f.low_head);
          high_near = omega (arith, f.high_near, f.head_high);
          lefts = later (left_of σ) f.lefts;
          rights = later (right_of σ) f.rights;
          left_far = omega (arith, f.left_far);
          right_far = omega (arith, f.right_far);
        }
