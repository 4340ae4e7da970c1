-- A RENAMING IS KEPT by a step, hence by a run; verdicts correspond, and both machines halt exactly together. Assumes nothing.
use Rattle.std.specs.Prelude.{◌≡◌, ◌↔◌, None, Option, Some}
use Rattle.std.proofs.Math.Path.{refl, ap}
use Rattle.std.proofs.Common.{sym, ◌∙◌, subst, arith}
use Prim.Native.Nat.{ℕ, zero, suc}
use Rattle.symbol.specs.Kinds.{state_of}
use Rattle.symbol.specs.declared.Dir.{Dir}
use Rattle.outcome.specs.declared.Outcome.{Outcome}
use Rattle.machine.specs.declared.Action.{Action}
use Rattle.table_machine.specs.TableMachine.{Table, Config, entry, act_on, step, run, Halted, Stays, Walks, halted_at, stay_loop_at, chain_at, out_of_fuel_at, Verdict, halts, stays, walks, goes}
use Rattle.table_machine_symmetry.specs.Renaming.{renamed_action, renamed_entry, renamed_config, renamed_outcome}

-- ---- the two never patterns depend on the states only by whether the entry keeps the state

abbrev in_state : ℕ → Config → Config
in_state q c = record { state = q; steps = c.steps; tape0 = c.tape0; tape1 = c.tape1; tape2 = c.tape2 }

abbrev to_state : ℕ → Action → Action
to_state q a = record { next = state_of q; write0 = a.write0; write1 = a.write1; write2 = a.write2; dir0 = a.dir0; dir1 = a.dir1; dir2 = a.dir2 }

module _ (c : Config) (a : Action) (p q p' q' : ℕ) (kept : p' ≡ q') where
  other_stays : Stays (in_state q c) (to_state p a) → Stays (in_state q' c) (to_state p' a)
  other_stays s = record {
    keeps = kept;
    still0 = s.still0;
    still1 = s.still1;
    still2 = s.still2;
    same0 = s.same0;
    same1 = s.same1;
    same2 = s.same2;
  }

  other_walks : (t : ℕ) (m : Dir) → Walks t (in_state q c) (to_state p a) m → Walks t (in_state q' c) (to_state p' a) m
  other_walks t m w = record {
    single = w.single;
    same_state = kept;
    moves = w.moves;
    sideways = w.sideways;
    blank = w.blank;
    beyond = w.beyond;
  }

module _ (to : ℕ → ℕ) (c : Config) (a : Action) where
  rename_stays : Stays c a → Stays (renamed_config to c) (renamed_action to a)
  rename_stays s = other_stays c a a.next.0 c.state (to a.next.0) (to c.state) (ap to s.keeps) s

  rename_walks : (t : ℕ) (m : Dir) → Walks t c a m → Walks t (renamed_config to c) (renamed_action to a) m
  rename_walks t m w = other_walks c a a.next.0 c.state (to a.next.0) (to c.state) (ap to w.same_state) t m w

  -- and back, where the two states have one new number only if they are the same
  module _ (one : to a.next.0 ≡ to c.state → a.next.0 ≡ c.state) where
    unrename_stays : Stays (renamed_config to c) (renamed_action to a) → Stays c a
    unrename_stays s = other_stays c a (to a.next.0) (to c.state) a.next.0 c.state (one s.keeps) s

    unrename_walks : (t : ℕ) (m : Dir) → Walks t (renamed_config to c) (renamed_action to a) m → Walks t c a m
    unrename_walks t m w = other_walks c a (to a.next.0) (to c.state) a.next.0 c.state (one w.same_state) t m w

-- ---- one entry

module _ (to : ℕ → ℕ) where
  undefined_renamed : (e : Option Action) → renamed_entry to e ≡ None → e ≡ None
  undefined_renamed None h = refl
  undefined_renamed (Some a) h = let z : ◌≡◌ {A = ℕ} 0 1 = cc in absurd (omega arith)

  -- the action before the renaming
  abbrev Before : Option Action → Action → Type 0
  Before e b = (a : Action) × (e ≡ Some a) × (renamed_action to a ≡ b)

  defined_renamed : (e : Option Action) (b : Action) → renamed_entry to e ≡ Some b → Before e b
  defined_renamed None b h = let z : ◌≡◌ {A = ℕ} 0 1 = cc in absurd (omega arith)
  defined_renamed (Some a) b h = (a, refl, cc)

  renamed_acts : (c : Config) (e : Option Action) → act_on (renamed_config to c) (renamed_entry to e) ≡ renamed_config to (act_on c e)
  renamed_acts c None = refl
  renamed_acts c (Some a) = refl

-- ---- table e is table d renamed at every configuration of a kind I that d's steps keep

module _ (d e : Table) (to : ℕ → ℕ) (I : Config → Type 0) (lasts : (c : Config) → I c → I (step d c))
    (agrees : (c : Config) → I c → entry e (renamed_config to c) ≡ renamed_entry to (entry d c)) where
  rename_step : (c : Config) → I c → step e (renamed_config to c) ≡ renamed_config to (step d c)
  unfolding step
  rename_step c i = ap (act_on (renamed_config to c)) (agrees c i) ∙ renamed_acts to c (entry d c)

  pub rename_run : (n : ℕ) (c : Config) → I c → run e n (renamed_config to c) ≡ renamed_config to (run d n c)
  unfolding run
  rename_run zero c i = refl
  rename_run (suc n) c i = ap (run e n) (rename_step c i) ∙ rename_run n (step d c) (lasts c i)

  pub rename_halts : (c : Config) → I c → Halted e (renamed_config to c) ↔ Halted d c
  rename_halts c i = (λ h. undefined_renamed to (entry d c) (sym (agrees c i) ∙ h), λ h. agrees c i ∙ ap (renamed_entry to) h)

  -- an entry's next state and the present one have one new number only where they are the same
  module _ (one : (c : Config) (a : Action) → I c → entry d c ≡ Some a → to a.next.0 ≡ to c.state → a.next.0 ≡ c.state) (t : ℕ) (c : Config) (i : I c) where
    defined : (a : Action) → entry d c ≡ Some a → entry e (renamed_config to c) ≡ Some (renamed_action to a)
    defined a h = agrees c i ∙ ap (renamed_entry to) h

    rename_verdict : (o : Outcome) → Verdict t d c o → Verdict t e (renamed_config to c) (renamed_outcome to o)
    rename_verdict o (halts h) = halts ((rename_halts c i).1 h)
    rename_verdict o (stays a h s) = stays (renamed_action to a) (defined a h) (rename_stays to c a s)
    rename_verdict o (walks a m h w) = walks (renamed_action to a) m (defined a h) (rename_walks to c a t m w)
    rename_verdict o (goes a h s w) =
        goes (renamed_action to a) (defined a h) (λ x. s (unrename_stays to c a (one c a i h) x)) (λ m x. w m (unrename_walks to c a (one c a i h) t m x))

    unrename_verdict : (p : Outcome) → Verdict t e (renamed_config to c) p → (o : Outcome) × Verdict t d c o × (renamed_outcome to o ≡ p)
    unrename_verdict p (halts h) = (halted_at c, halts ((rename_halts c i).0 h), refl)
    unrename_verdict p (stays b h s) =
        let o = defined_renamed to (entry d c) b (sym (agrees c i) ∙ h) in
        let k : Stays (renamed_config to c) (renamed_action to o.0) = rw o.2 s in
        (stay_loop_at c, stays o.0 o.1 (unrename_stays to c o.0 (one c o.0 i o.1) k), refl)
    unrename_verdict p (walks b m h w) =
        let o = defined_renamed to (entry d c) b (sym (agrees c i) ∙ h) in
        let k : Walks t (renamed_config to c) (renamed_action to o.0) m = rw o.2 w in
        (chain_at c m, walks o.0 m o.1 (unrename_walks to c o.0 (one c o.0 i o.1) t m k), refl)
    unrename_verdict p (goes b h s w) =
        let o = defined_renamed to (entry d c) b (sym (agrees c i) ∙ h) in
        (out_of_fuel_at c, goes o.0 o.1 (λ x. s (rw o.2 at (rename_stays to c o.0 x))) (λ m x. w m (rw o.2 at (rename_walks to c o.0 t m x))), refl)

    -- the verdicts of the renamed table are those of the table, renamed
    pub rename_verdicts : (p : Outcome) → Verdict t e (renamed_config to c) p ↔ ((o : Outcome) × Verdict t d c o × (renamed_outcome to o ≡ p))
    rename_verdicts p = (unrename_verdict p, λ v. subst (Verdict t e (renamed_config to c)) v.2 (rename_verdict v.0 v.1))
