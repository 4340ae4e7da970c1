-- "Bytes .. past a call's final length stay": a fresh tape, a write, a growth, a step, a run, and the operations as they are called. Assumes nothing.
use Rattle.symbol.specs.declared.State.{State}
use Rattle.outcome.specs.declared.Refusal.{Refusal}
use Rattle.std.specs.Prelude.{◌≡◌, refl, Bool, false, List, [], ℕ, zero, suc, ◌≤◌, ◌<◌, ltb, length, Err, Ok, Option, Result, ⊤}
use Rattle.std.proofs.Common.{◌∙◌, arith, ltb-true, get_or-set_other}
use Rattle.std.proofs.Math.Bool.{true}
use Rattle.notation.specs.Choice.{pick}
use Rattle.notation.proofs.Facts.Tests.{pick_cases}
use Rattle.symbol.specs.declared.Dir.{Dir}
use Rattle.symbol.specs.declared.Dir.TheVariants.{L, R, N}
use Rattle.outcome.specs.declared.Status.TheVariants as Step
use Rattle.machine.specs.declared.Machine.{Machine}
use Rattle.machine.specs.declared.Action.{Action}
use Rattle.tape.specs.declared.Tape.{Tape}
use Rattle.tape_cells.specs.Growth.{extra}
use Rattle.tape.specs.Model.Moves.{Held, held, no_tape, fresh_of, write_of, leaves, grown_by, grow_of, shift_of, shifted, move_of, act_of}
use Rattle.tape.proofs.Facts.Cells.{fresh_past, grown_past}
use Rattle.run_checks.specs.Model.Sizes as Sizes
use Rattle.run_checks.specs.declared.inner.look.Look.{Look}
use Rattle.run_checks.specs.declared.inner.look.Look.TheVariants.{Halt, Never, Go}
use Rattle.sim.specs.Model.Engine.{Task, task, Conf, tape0, tape1, tape2, End, on_look, look_with, look_of, matches, halted_end, never_end, fuel_end, full_end, stopped_end, roomy_of, step_of, run_with, run_of, Once, once, once_of}
use Rattle.sim.specs.Model.Operations.{bare_sim, bare_of, hand_back, back_of, answer_of, run_check, fast_check, run_answer, fast_answer, step_answer, step_on, step_back}
use Rattle.sim_refines.specs.Meaning.{has}
use Rattle.sim_refines.specs.Lent.{PastStays, PastKept}

-- ---- a fresh tape

fresh-stays : (w c : List ℕ) → PastStays c (fresh_of w c)
unfolding fresh_of
fresh-stays w c = fresh_past w c

pub word-stays : (w c : List ℕ) (h : Held) → h ≡ fresh_of w c → PastStays c h
word-stays w c h e = rw e (fresh-stays w c)

pub blank_stays : (b : Bool) (c : List ℕ) (h : Held) → h ≡ Sizes.blank_tape b c → PastStays c h
unfolding pick
blank_stays true c h e = word-stays [] c h e
blank_stays false c h e = rw e (λ i l. refl)

-- ---- a tape g that becomes h: h is no shorter, and past the length of h the buffer is unchanged

record Onward (g h : Held) : Type 0 where
  longer : g.tape.len ≤ h.tape.len
  past : PastStays g.cells h

still : (h : Held) → Onward h h
still h = record { longer = omega arith; past = λ i l. refl }

then_on : (f g h : Held) → Onward f g → Onward g h → Onward f h
then_on f g h p q = record { longer = omega (arith, p.longer, q.longer); past = λ i l. q.past i l ∙ p.past i (omega (arith, q.longer)) }

write_on_lem : (h : Held) (w : ℕ) → h.tape.head < h.tape.len → Onward h (write_of h w)
write_on_lem h w here = record { longer = omega arith; past = λ i l. get_or-set_other h.cells h.tape.head i w 0 (λ e. omega arith) }

grown_on : (n : ℕ) (h : Held) (d : Dir) → Onward h (grown_by n h d)
unfolding grown_by
grown_on n h L = record { longer = omega arith; past = grown_past n h L }
grown_on n h R = record { longer = omega arith; past = grown_past n h R }
grown_on n h N = still h

pub shift_len : (t : Tape) (d : Dir) → (shift_of t d).len ≡ t.len
unfolding shift_of
shift_len t L = refl
shift_len t R = refl
shift_len t N = refl

shift_on : (h : Held) (d : Dir) → Onward h (shifted h d)
shift_on h d = record { longer = omega (arith, shift_len h.tape d); past = λ i l. refl }

move_on : (h : Held) (d : Dir) → Onward h (move_of h d)
unfolding move_of
move_on h d = pick_cases (leaves h.tape d) (grow_of h d) h (λ g. Onward h (shifted g d))
    (λ t. then_on h (grow_of h d) _ (grown_on (extra h.tape.len (length h.cells)) h d) (shift_on (grow_of h d) d))
    (λ t. shift_on h d)

-- a tape without cells, such as one that the machine lacks, stays without cells
record Acts (g h : Held) : Type 0 where
  on : Onward g h
  none : g.tape.len ≡ 0 → h.tape.len ≡ 0

act_on_lem : (h : Held) (w : ℕ) (d : Dir) → Acts h (act_of h w d)
unfolding act_of
act_on_lem h w d = pick_cases (ltb h.tape.head h.tape.len) (move_of (write_of h w) d) h (Acts h)
    (λ t.
    let here : h.tape.head < h.tape.len = ltb-true _ _ t in
    record { on = then_on h (write_of h w) _ (write_on_lem h w here) (move_on (write_of h w) d); none = λ e. absurd (omega arith) })
    (λ t. record { on = still h; none = λ e. e })

-- ---- an engine

record Goes (σ τ : Conf) : Type 0 where
  acts0 : Acts (tape0 σ) (tape0 τ)
  acts1 : Acts (tape1 σ) (tape1 τ)
  acts2 : Acts (tape2 σ) (tape2 τ)

stays : (σ : Conf) → Goes σ σ
stays σ = let at : (h : Held) → Acts h h = λ h. record { on = still h; none = λ e. e } in record { acts0 = at (tape0 σ); acts1 = at (tape1 σ); acts2 = at (tape2 σ) }

then_acts : (f g h : Held) → Acts f g → Acts g h → Acts f h
then_acts f g h p q = record { on = then_on f g h p.on q.on; none = λ e. q.none (p.none e) }

then_goes : (σ τ e : Conf) → Goes σ τ → Goes τ e → Goes σ e
then_goes σ τ e p q = record {
  acts0 = then_acts _ _ _ p.acts0 q.acts0;
  acts1 = then_acts _ _ _ p.acts1 q.acts1;
  acts2 = then_acts _ _ _ p.acts2 q.acts2;
}

step_goes : (σ : Conf) (a : Action) → Goes σ (step_of σ a)
unfolding step_of
step_goes σ a = record { acts0 = act_on_lem (tape0 σ) _ _; acts1 = act_on_lem (tape1 σ) _ _; acts2 = act_on_lem (tape2 σ) _ _ }

run_goes : (k : Task) (f : ℕ) (σ : Conf) → Goes σ (run_of k f σ).at
unfolding run_of run_with
run_goes k zero σ = by (look_of k σ)
  where
    by : (x : Look) → Goes σ (on_look x (halted_end σ) (never_end σ) (λ a. fuel_end σ)).at
    by Halt = stays σ
    by (Never p) = stays σ
    by (Go a) = stays σ
run_goes k (suc f) σ = by (λ a. run_goes k f (step_of σ a)) (look_of k σ)
  where
    on : Look → End
    on x = on_look x (halted_end σ) (never_end σ)
        (λ a. pick (roomy_of σ a) (pick (matches k.rule σ.sim.state) (stopped_end (step_of σ a)) (run_of k f (step_of σ a))) (full_end σ))

    by : ((a : Action) → Goes (step_of σ a) (run_of k f (step_of σ a)).at) → (x : Look) → Goes σ (on x).at
    by rest Halt = stays σ
    by rest (Never p) = stays σ
    by rest (Go a) = pick_cases (roomy_of σ a) _ _ (λ (e : End). Goes σ e.at)
        (λ r. pick_cases (matches k.rule σ.sim.state) _ _ (λ (e : End). Goes σ e.at)
        (λ t. step_goes σ a)
        (λ t. then_goes σ (step_of σ a) _ (step_goes σ a) (rest a)))
        (λ r. stays σ)

once_goes : (m : Machine) (s : List ℕ) (σ : Conf) → Goes σ (once_of m s σ).at
unfolding once_of
once_goes m s σ = by (look_with m s false σ)
  where
    by : (x : Look) → Goes σ (on_look x (once σ Step.Halted) (λ p. once σ Step.Halted) (λ a. pick (roomy_of σ a) (once (step_of σ a) Step.Running) (once σ Step.Full))).at
    by Halt = stays σ
    by (Never p) = stays σ
    by (Go a) = pick_cases (roomy_of σ a) _ _ (λ (e : Once). Goes σ e.at) (λ r. step_goes σ a) (λ r. stays σ)

-- ---- the operations

-- bytes that stayed before a call stay after it; on a tape that the machine lacks, the call changes no byte of the buffer
back_stays : (b : Bool) (t u : Tape) (before c d : List ℕ) → PastStays before (held t c) → Acts (held (pick b t no_tape) c) (held u d) → PastStays before (held (pick b u t) d)
unfolding pick
back_stays true t u before c d p a = λ i l. a.on.past i l ∙ p i (omega (arith, a.on.longer))
back_stays false t u before c d p a = λ i l. a.on.past i (omega (arith, a.none refl)) ∙ p i l

module _ (c0 c1 c2 : List ℕ) (m : Machine) (σ : Conf) (p : PastKept c0 c1 c2 σ) where
  back_kept : (e : Conf) → Goes (bare_of m σ) e → PastKept c0 c1 c2 (back_of m σ e)
  unfolding bare_sim hand_back pick
  back_kept e g = record {
    past0 = back_stays true σ.sim.t0 e.sim.t0 c0 σ.c0 e.c0 p.past0 g.acts0;
    past1 = back_stays (has m 1) σ.sim.t1 e.sim.t1 c1 σ.c1 e.c1 p.past1 g.acts1;
    past2 = back_stays (has m 2) σ.sim.t2 e.sim.t2 c2 σ.c2 e.c2 p.past2 g.acts2;
  }

  -- a run on the tapes that the machine has
  pub ran_kept : (k : Task) (fuel : ℕ) → PastKept c0 c1 c2 (back_of m σ (run_of k fuel (bare_of m σ)).at)
  ran_kept k fuel = back_kept _ (run_goes k fuel (bare_of m σ))

-- before a call and after a refusal nothing is changed
pub kept_all : (σ : Conf) → PastKept σ.c0 σ.c1 σ.c2 σ
kept_all σ = record { past0 = λ i l. refl; past1 = λ i l. refl; past2 = λ i l. refl }

module _ (m : Machine) (s : List ℕ) (σ : Conf) where
  answer_kept : (c : Result ⊤ Refusal) (p : Bool) (rule : Option State) (fuel : ℕ) → PastKept σ.c0 σ.c1 σ.c2 (answer_of c m s p rule fuel σ).at
  answer_kept (Err why) p rule fuel = kept_all σ
  answer_kept (Ok tt) p rule fuel = ran_kept _ _ _ m σ (kept_all σ) (task m s p rule) fuel

  pub run_kept : (rule : Option State) (fuel : ℕ) → PastKept σ.c0 σ.c1 σ.c2 (run_answer m s rule fuel σ).at
  unfolding run_answer
  run_kept rule fuel = answer_kept (run_check m s fuel σ) true rule fuel

  pub fast_kept : (words : List ℕ) (rule : Option State) (fuel : ℕ) → PastKept σ.c0 σ.c1 σ.c2 (fast_answer m s words rule fuel σ).at
  unfolding fast_answer
  fast_kept words rule fuel = answer_kept (fast_check m s words fuel σ) true rule fuel

  pub step_kept : PastKept σ.c0 σ.c1 σ.c2 (step_answer m s σ).at
  unfolding step_answer
  step_kept = by (run_check m s 1 σ)
    where
      by : (c : Result ⊤ Refusal) → PastKept σ.c0 σ.c1 σ.c2 (step_on c σ (step_back m σ (once_of m s (bare_of m σ)))).at
      by (Err why) = kept_all σ
      by (Ok tt) = back_kept _ _ _ m σ (kept_all σ) _ (once_goes m s (bare_of m σ))
