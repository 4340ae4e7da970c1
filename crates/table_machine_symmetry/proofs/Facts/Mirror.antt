-- THE MIRROR IS KEPT by a step, hence by a run, from every configuration; verdicts correspond. Assumes nothing.
use Rattle.std.specs.Prelude.{◌≡◌, ◌↔◌, [], ℤ, pos, negsuc, neg_ℤ, None, Option, Some}
use Rattle.std.proofs.Math.Path.{refl, ap, subst₃}
use Rattle.std.proofs.Common.{sym, ◌∙◌, ap₂, subst₂, arith}
use Prim.Native.Nat.{ℕ, zero, suc}
use Rattle.std.proofs.Math.IntN.{neg_ℤ-neg_ℤ, neg_ℤ-suc_ℤ}
use Rattle.std.specs.Int.Signed.{le_z}
use Rattle.notation.specs.Position.{eq_z, min_ℤ, max_ℤ, up, dn}
use Rattle.notation.proofs.Facts.Position.{eq_z_true, eq_z_refl, le_z_false, diff_suc, diff_pred, ints}
use Rattle.notation.proofs.Facts.Tests.{by_test, clash, pick_true, pick_false}
use Rattle.symbol.specs.Kinds.{reversed_of}
use Rattle.symbol.specs.declared.Dir.{Dir}
use Rattle.symbol.specs.declared.Dir.TheVariants.{L, R, N}
use Rattle.outcome.specs.declared.NonHaltProof.{NonHaltProof}
use Rattle.outcome.specs.declared.NonHaltProof.TheVariants.{StayLoop, ChainToInfinity}
use Rattle.outcome.specs.declared.Outcome.{Outcome}
use Rattle.outcome.specs.declared.Outcome.TheVariants as Out
use Rattle.machine.specs.declared.Action.{Action}
use Rattle.table_machine.specs.TableMachine.{Table, Tape, Config, read_t, put, go, update, word_cell, blank_tape, start, entry, act, act_on, step, run, Halted, Stays, Sideways, Beyond, Walks, Verdict, halts, stays, walks, goes}
use Rattle.table_machine.proofs.Facts.Tape.{put_same, put_other, tape-≡}
use Rattle.table_machine_symmetry.specs.Mirror.{mirrored_action, mirrored_entry, mirrored_table, mirrored_tape, mirrored_config, mirrored_proof, mirrored_outcome}

-- ---- positions

pub up_neg : (z : ℤ) → up (neg_ℤ z) ≡ dn z
up_neg (pos zero) = refl
up_neg (pos (suc n)) = refl
up_neg (negsuc n) = refl

pub dn_neg : (z : ℤ) → dn (neg_ℤ z) ≡ up z
dn_neg (pos zero) = refl
dn_neg (pos (suc n)) = refl
dn_neg (negsuc n) = refl

neg_move : (m : Dir) (z : ℤ) → go (reversed_of m) (neg_ℤ z) ≡ neg_ℤ (go m z)
neg_move L z = omega (ints, diff_pred z, diff_suc (neg_ℤ z), up_neg z, dn_neg z, up_neg (go L z), dn_neg (go L z))
neg_move R z = sym (neg_ℤ-suc_ℤ z)
neg_move N z = refl

-- the smaller of the negated is the negated larger
neg_max : (x y : ℤ) → min_ℤ (neg_ℤ x) (neg_ℤ y) ≡ neg_ℤ (max_ℤ x y)
neg_max x y = by_test (le_z (neg_ℤ x) (neg_ℤ y))
    (λ t. pick_true _ _ _ t ∙ by_test (le_z x y)
    (λ u. let e : x ≡ y = omega (ints, up_neg x, dn_neg x, up_neg y, dn_neg y) in ap neg_ℤ (e ∙ sym (pick_true _ _ _ u)))
    (λ u. ap neg_ℤ (sym (pick_false _ _ _ u))))
    (λ t. pick_false _ _ _ t ∙ by_test (le_z x y)
    (λ u. ap neg_ℤ (sym (pick_true _ _ _ u)))
    (λ u. let e : y ≡ x = omega (ints, le_z_false (neg_ℤ x) (neg_ℤ y) t, up_neg x, dn_neg x, up_neg y, dn_neg y) in ap neg_ℤ (e ∙ sym (pick_false _ _ _ u))))

neg_min : (x y : ℤ) → max_ℤ (neg_ℤ x) (neg_ℤ y) ≡ neg_ℤ (min_ℤ x y)
neg_min x y = sym (neg_ℤ-neg_ℤ (max_ℤ (neg_ℤ x) (neg_ℤ y))) ∙ ap neg_ℤ (sym (neg_max (neg_ℤ x) (neg_ℤ y)) ∙ ap₂ min_ℤ (neg_ℤ-neg_ℤ x) (neg_ℤ-neg_ℤ y))

-- ---- one tape

-- the cell written, and every other
put_neg : (f : ℤ → ℕ) (h : ℤ) (w : ℕ) (z : ℤ) → put f h w (neg_ℤ z) ≡ put (λ y. f (neg_ℤ y)) (neg_ℤ h) w z
put_neg f h w z = by_test (eq_z (neg_ℤ z) h)
    (λ t. let e : neg_ℤ z ≡ h = eq_z_true (neg_ℤ z) h t in
    let k : z ≡ neg_ℤ h = sym (neg_ℤ-neg_ℤ z) ∙ ap neg_ℤ e in
    ap (put f h w) e ∙ put_same f h w ∙ sym (ap (put (λ y. f (neg_ℤ y)) (neg_ℤ h) w) k ∙ put_same (λ y. f (neg_ℤ y)) (neg_ℤ h) w))
    (λ t. let n : ¬ (neg_ℤ z ≡ h) = λ e. clash (ap (λ x. eq_z x h) e ∙ eq_z_refl h) t in
    put_other f h (neg_ℤ z) w n ∙ sym (put_other (λ y. f (neg_ℤ y)) (neg_ℤ h) z w (λ e. n (ap neg_ℤ e ∙ neg_ℤ-neg_ℤ h))))

mirror-update : (t : Tape) (w : ℕ) (m : Dir) → update (mirrored_tape t) w (reversed_of m) ≡ mirrored_tape (update t w m)
mirror-update t w m =
    let h : go (reversed_of m) (neg_ℤ t.head) ≡ neg_ℤ (go m t.head) = neg_move m t.head in
    tape-≡ (update (mirrored_tape t) w (reversed_of m)) (mirrored_tape (update t w m))
    (λ z. sym (put_neg t.cell t.head w z))
    h
    (ap (min_ℤ (neg_ℤ t.high)) h ∙ neg_max t.high (go m t.head))
    (ap (max_ℤ (neg_ℤ t.low)) h ∙ neg_min t.low (go m t.head))

mirror_read : (t : Tape) → read_t (mirrored_tape t) ≡ read_t t
mirror_read t = ap t.cell (neg_ℤ-neg_ℤ t.head)

-- a blank tape is its own mirrored_config
pub mirror_blank : mirrored_tape blank_tape ≡ blank_tape
mirror_blank = tape-≡ (mirrored_tape blank_tape) blank_tape cells refl refl refl
  where
    cells : (z : ℤ) → word_cell [] (neg_ℤ z) ≡ word_cell [] z
    cells (pos zero) = refl
    cells (pos (suc n)) = refl
    cells (negsuc n) = refl

pub mirror_tape_twice : (t : Tape) → mirrored_tape (mirrored_tape t) ≡ t
mirror_tape_twice t = tape-≡ (mirrored_tape (mirrored_tape t)) t (λ z. ap t.cell (neg_ℤ-neg_ℤ z)) (neg_ℤ-neg_ℤ t.head) (neg_ℤ-neg_ℤ t.low) (neg_ℤ-neg_ℤ t.high)

-- ---- the machine

pub mirror-start : (q : ℕ) → mirrored_config (start q []) ≡ start q []
mirror-start q = λ i. record { state = q; steps = zero; tape0 = mirror_blank i; tape1 = mirror_blank i; tape2 = mirror_blank i }

pub mirror_twice : (c : Config) → mirrored_config (mirrored_config c) ≡ c
mirror_twice c = λ i. record {
  state = c.state;
  steps = c.steps;
  tape0 = mirror_tape_twice c.tape0 i;
  tape1 = mirror_tape_twice c.tape1 i;
  tape2 = mirror_tape_twice c.tape2 i;
}

reversed_twice : (m : Dir) → reversed_of (reversed_of m) ≡ m
reversed_twice L = refl
reversed_twice R = refl
reversed_twice N = refl

pub mirrored_action_twice : (a : Action) → mirrored_action (mirrored_action a) ≡ a
mirrored_action_twice a = λ i. record {
  next = a.next;
  write0 = a.write0;
  write1 = a.write1;
  write2 = a.write2;
  dir0 = reversed_twice a.dir0 i;
  dir1 = reversed_twice a.dir1 i;
  dir2 = reversed_twice a.dir2 i;
}

pub mirrored_entry_twice : (e : Option Action) → mirrored_entry (mirrored_entry e) ≡ e
mirrored_entry_twice None = refl
mirrored_entry_twice (Some a) = ap Some (mirrored_action_twice a)

pub mirrored_twice : (d : Table) → mirrored_table (mirrored_table d) ≡ d
mirrored_twice d = λ i q x y z. mirrored_entry_twice (d q x y z) i

module _ (d : Table) where
  pub mirror_entry : (c : Config) → entry (mirrored_table d) (mirrored_config c) ≡ mirrored_entry (entry d c)
  mirror_entry c = λ i. mirrored_entry (d c.state (mirror_read c.tape0 i) (mirror_read c.tape1 i) (mirror_read c.tape2 i))

  mirror_act : (c : Config) (a : Action) → act (mirrored_config c) (mirrored_action a) ≡ mirrored_config (act c a)
  mirror_act c a = λ i. record {
    state = a.next.0;
    steps = suc c.steps;
    tape0 = mirror-update c.tape0 a.write0.0 a.dir0 i;
    tape1 = mirror-update c.tape1 a.write1.0 a.dir1 i;
    tape2 = mirror-update c.tape2 a.write2.0 a.dir2 i;
  }

  mirror_acts : (c : Config) (e : Option Action) → act_on (mirrored_config c) (mirrored_entry e) ≡ mirrored_config (act_on c e)
  mirror_acts c None = refl
  mirror_acts c (Some a) = mirror_act c a

  pub mirror_step : (c : Config) → step (mirrored_table d) (mirrored_config c) ≡ mirrored_config (step d c)
  unfolding step
  mirror_step c = ap (act_on (mirrored_config c)) (mirror_entry c) ∙ mirror_acts c (entry d c)

  -- at every step, from every configuration
  pub mirror_run : (n : ℕ) (c : Config) → run (mirrored_table d) n (mirrored_config c) ≡ mirrored_config (run d n c)
  unfolding run
  mirror_run zero c = refl
  mirror_run (suc n) c = ap (run (mirrored_table d) n) (mirror_step c) ∙ mirror_run n (step d c)

  -- "from a blank tape"
  pub mirror_run_blank : (n q : ℕ) → run (mirrored_table d) n (start q []) ≡ mirrored_config (run d n (start q []))
  mirror_run_blank n q = ap (run (mirrored_table d) n) (sym (mirror-start q)) ∙ mirror_run n (start q [])

  undefined_mirrored : (e : Option Action) → mirrored_entry e ≡ None → e ≡ None
  undefined_mirrored None h = refl
  undefined_mirrored (Some a) h = let z : ◌≡◌ {A = ℕ} 0 1 = cc in absurd (omega arith)

  -- halting exactly together
  pub mirror_halts : (c : Config) → Halted (mirrored_table d) (mirrored_config c) ↔ Halted d c
  mirror_halts c = (λ h. undefined_mirrored (entry d c) (sym (mirror_entry c) ∙ h), λ h. mirror_entry c ∙ ap mirrored_entry h)

-- ---- verdicts

pub mirror_beyond : (m : Dir) (h z : ℤ) → Beyond (reversed_of m) (neg_ℤ h) z → Beyond m h (neg_ℤ z)
mirror_beyond L h z b = omega (ints, up_neg h, dn_neg h, up_neg z, dn_neg z)
mirror_beyond R h z b = omega (ints, up_neg h, dn_neg h, up_neg z, dn_neg z)
mirror_beyond N h z b = b

pub mirror_sideways : (m : Dir) → Sideways m → Sideways (reversed_of m)
mirror_sideways L s = tt
mirror_sideways R s = tt
mirror_sideways N s = s

mirror-stays : (c : Config) (a : Action) → Stays c a → Stays (mirrored_config c) (mirrored_action a)
mirror-stays c a s = record {
  keeps = s.keeps;
  still0 = ap reversed_of s.still0;
  still1 = ap reversed_of s.still1;
  still2 = ap reversed_of s.still2;
  same0 = s.same0 ∙ sym (mirror_read c.tape0);
  same1 = s.same1 ∙ sym (mirror_read c.tape1);
  same2 = s.same2 ∙ sym (mirror_read c.tape2);
}

mirror_walks : (t : ℕ) (c : Config) (a : Action) (m : Dir) → Walks t c a m → Walks t (mirrored_config c) (mirrored_action a) (reversed_of m)
mirror_walks t c a m w = record {
  single = w.single;
  same_state = w.same_state;
  moves = ap reversed_of w.moves;
  sideways = mirror_sideways m w.sideways;
  blank = mirror_read c.tape0 ∙ w.blank;
  beyond = λ z b. w.beyond (neg_ℤ z) (mirror_beyond m c.tape0.head z b);
}

-- and back
unmirror_stays : (c : Config) (a : Action) → Stays (mirrored_config c) (mirrored_action a) → Stays c a
unmirror_stays c a s = subst₂ Stays (mirror_twice c) (mirrored_action_twice a) (mirror-stays (mirrored_config c) (mirrored_action a) s)

unmirror_walks : (t : ℕ) (c : Config) (a : Action) (m : Dir) → Walks t (mirrored_config c) (mirrored_action a) m → Walks t c a (reversed_of m)
unmirror_walks t c a m w = subst₂ (λ x y. Walks t x y (reversed_of m)) (mirror_twice c) (mirrored_action_twice a) (mirror_walks t (mirrored_config c) (mirrored_action a) m w)

pub mirror_verdict : (t : ℕ) (d : Table) (c : Config) (o : Outcome) → Verdict t d c o → Verdict t (mirrored_table d) (mirrored_config c) (mirrored_outcome o)
mirror_verdict t d c o (halts h) = halts (mirror_entry d c ∙ ap mirrored_entry h)
mirror_verdict t d c o (stays a e s) = stays (mirrored_action a) (mirror_entry d c ∙ ap mirrored_entry e) (mirror-stays c a s)
mirror_verdict t d c o (walks a m e w) = walks (mirrored_action a) (reversed_of m) (mirror_entry d c ∙ ap mirrored_entry e) (mirror_walks t c a m w)
mirror_verdict t d c o (goes a e s w) =
    goes (mirrored_action a) (mirror_entry d c ∙ ap mirrored_entry e) (λ x. s (unmirror_stays c a x)) (λ m x. w (reversed_of m) (unmirror_walks t c a m x))

mirrored_proof_twice : (p : NonHaltProof) → mirrored_proof (mirrored_proof p) ≡ p
mirrored_proof_twice (StayLoop q) = refl
mirrored_proof_twice (ChainToInfinity q m) = ap (ChainToInfinity q) (reversed_twice m)

pub mirrored_outcome_twice : (o : Outcome) → mirrored_outcome (mirrored_outcome o) ≡ o
mirrored_outcome_twice (Out.Halted n q) = refl
mirrored_outcome_twice (Out.OutOfFuel n) = refl
mirrored_outcome_twice (Out.NeverHalts n p) = ap (Out.NeverHalts n) (mirrored_proof_twice p)
mirrored_outcome_twice (Out.Stopped n) = refl
mirrored_outcome_twice (Out.Full n) = refl

-- "Verdicts correspond too, with the never pattern's move exchanged for the mirrored_config."
pub mirror_verdicts : (t : ℕ) (d : Table) (c : Config) (o : Outcome) → Verdict t (mirrored_table d) (mirrored_config c) (mirrored_outcome o) ↔ Verdict t d c o
mirror_verdicts t d c o = (back, mirror_verdict t d c o)
  where
    back : Verdict t (mirrored_table d) (mirrored_config c) (mirrored_outcome o) → Verdict t d c o
    back v = subst₃ (Verdict t) (mirrored_twice d) (mirror_twice c) (mirrored_outcome_twice o) (mirror_verdict t (mirrored_table d) (mirrored_config c) (mirrored_outcome o) v)
