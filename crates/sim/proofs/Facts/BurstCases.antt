-- Bursts inside a run, one fact for each way through the code. Assumes nothing.
use Rattle.std.specs.Prelude.{◌≡◌, refl, Bool, true, false, List, ℕ, ◌+◌, ◌*◌, ◌-◌, ◌≤◌, ◌<◌, take, None, Ok, Option, Some}
use Rattle.std.proofs.Common.{sym, ◌∙◌, arith, ne_eqb}
use Rattle.std.proofs.Math.Path.{ap}
use Rattle.std.proofs.Math.ListN.{length}
use Rattle.std.proofs.Math.Seq.{length-take-le, get_or-take}
use Rattle.notation.specs.Fill.{fill_from}
use Rattle.notation.proofs.Facts.Fill.{length_fill, fill_in}
use Rattle.notation.proofs.Facts.Tests.{clash}
use Rattle.notation.specs.Limits.{steps_most}
use Rattle.symbol.specs.declared.State.{State}
use Rattle.machine.specs.declared.Machine.{Machine}
use Rattle.machine.specs.Model.Check.{table_check}
use Rattle.machine.specs.Model.Packing.{word_at}
use Rattle.tape.specs.Fits.{TapeOk, TapeSafe}
use Rattle.sim.specs.declared.Simulator.{Simulator}
use Rattle.sim_burst.specs.declared.inner.step.BurstState.{BurstState}
use Rattle.sim_burst.specs.Model.Burst.{BurstOk, Reached}
use Rattle.sim_burst.specs.Model.Words.{WordsOk}
use Rattle.sim.specs.Model.Engine.{task, Conf, matches}
use Rattle.sim.specs.Model.Turns.{RunOk}
use Rattle.sim.proofs.Facts.TurnCases.{RunInv}
use Rattle.sim.proofs.Facts.BurstSteps.{walked}
use Rattle.sim.specs.Model.Bursts.{Misses, Small, burst_start, into, BurstAllowed, BurstAllowedIf, OneTapeOk, SameRunOne, SameRun}

-- ---- the stop rule's state

module _ (rule : Option State) where
  pub misses_never : (stop : ℕ) → rule ≡ None → Misses rule stop
  unfolding matches
  misses_never stop e = record { misses = λ q h. rw e }

  pub misses_from : (p : State) → rule ≡ Some p → Misses rule p.0
  unfolding matches
  misses_from p e = record { misses = λ q h. rw e (ne_eqb p.0 q (λ z. h (sym z))) }

-- ---- whether a burst may run

module _ (tapes : ℕ) (v : Simulator) where
  pub not_allowed : BurstAllowedIf false tapes v
  not_allowed = record { burst_allowed = λ z. absurd (clash z refl) }

  pub allowed_run : tapes ≡ 1 → v.t0.lowest ≤ v.t0.head → v.t0.head ≤ v.t0.highest → v.t0.highest < v.t0.len
      → v.t1.len ≤ v.t1.head → v.t2.len ≤ v.t2.head → BurstAllowedIf true tapes v
  allowed_run a b c d e f = record { burst_allowed = λ _. record { one_tape_holds = a; low_in = b; high_in = c; high_len = d; none1 = e; none2 = f } }

pub burst_starts : (m : Machine) (v : Simulator) (c : List ℕ) (left : ℕ) (b : Bool) (x : BurstState) → OneTapeOk m v c left → BurstAllowedIf b m.tapes v → b ≡ true
    → (x ≡ burst_start v left) × (x.state < 65536) → BurstOk c m.symbols v.t0.len x
burst_starts m v c left b x ok allowed z e =
    let burst_allowed : BurstAllowed m.tapes v = allowed.burst_allowed z in
    let t : TapeOk v.t0 c = ok.safe0.ok in
    let i : v.t0.head < v.t0.len = omega arith in
    let n : v.state.0 < 65536 = omega (arith, ap (λ (h : BurstState). h.state) e.0, e.1) in
    rw e.0
    (record {
      k_in = ok.symbols_in;
      len_in = t.len_in;
      cap = ok.safe0.sized i;
      head_in = i;
      low_in = burst_allowed.low_in;
      high_in = burst_allowed.high_in;
      high_len = burst_allowed.high_len;
      state_in_holds = n;
    })

-- ---- the engine after a burst

pub after_asks : (Known : List ℕ → Type 0) (m : Machine) (v : Simulator) (c : List ℕ) (left : ℕ) (p : Bool) (stop k len : ℕ) (x y : BurstState) (d : List ℕ)
    → OneTapeOk m v c left → (x ≡ burst_start v left) × (x.state < 65536) → Reached Known p stop k len x c y d
    → (v.steps + left ≤ steps_most) × (y.left ≤ left) × (y.state < 65536)
after_asks Known m v c left p stop k len x y d ok e r =
    let l : x.left ≡ left = ap (λ (h : BurstState). h.left) e.0 in
    (ok.steps_in, omega (arith, r.less), r.ok.state_in_holds)

module _ (m : Machine) (s : List ℕ) (p : Bool) (stop : ℕ) (v : Simulator) (c : List ℕ) (left : ℕ) (b : Bool) (allowed : BurstAllowedIf b m.tapes v) (z : b ≡ true)
    (start at : BurstState) (c' : List ℕ) (from : (start ≡ burst_start v left) × (start.state < 65536)) (v' : Simulator) (left' : ℕ)
    (after : (v' ≡ into v (v.steps + (left - at.left)) at) × (left' ≡ at.left)) where
  same_run : (Known : List ℕ → Type 0) → Known s → Reached Known p stop m.symbols v.t0.len (burst_start v left) c at c'
      → SameRunOne m s p stop v c left (into v (v.steps + (left - at.left)) at) c' at.left
  same_run Known known r =
      record {
        same = λ rule miss c1 c2. walked Known m s known p rule stop v c1 c2 (allowed.burst_allowed z) miss (burst_start v left) c at c' r.walk v.steps;
        okay = λ stride c1 c2 ok. record {
          ok = record {
            symbols_in = ok.ok.symbols_in;
            stride_is = ok.ok.stride_is;
            stride_in = ok.ok.stride_in;
            safe0 = safe ok.ok.safe0 r.ok;
            safe1 = ok.ok.safe1;
            safe2 = ok.ok.safe2;
          };
          steps_in = omega (arith, ok.steps_in, r.less);
        };
        less = r.less;
        lens = r.lens;
      }
    where
      safe : TapeSafe v.t0 c → BurstOk c' m.symbols v.t0.len at → TapeSafe (into v (v.steps + (left - at.left)) at).t0 c'
      safe t o =
          let k : TapeOk v.t0 c = t.ok in
          record {
            ok = record { len_in = o.len_in; len_small = k.len_small; head_in = omega arith; origin_in = k.origin_in; low_in = omega arith; high_in = omega arith };
            sized = λ h. o.cap;
          }

  pub same_run_burst : (Known : List ℕ → Type 0) → Known s → Reached Known p stop m.symbols v.t0.len start c at c' → SameRunOne m s p stop v c left v' c' left'
  same_run_burst Known known r = rw (after.0, after.1) (same_run Known known (rw from.0 at r))

-- ---- a burst in the loop

pub burst_asks : (m : Machine) (stride : ℕ) (v : Simulator) (c0 c1 c2 : List ℕ) (left : ℕ) → RunOk m stride v c0 c1 c2 left → OneTapeOk m v c0 left
burst_asks m stride v c0 c1 c2 left ok = record { symbols_in = ok.ok.symbols_in; safe0 = ok.ok.safe0; steps_in = ok.steps_in }

pub same_run_one : (m : Machine) (s : List ℕ) (p : Bool) (stop : ℕ) (v v' : Simulator) (c0 c1 c2 d0 : List ℕ) (left left' : ℕ)
    → SameRunOne m s p stop v c0 left v' d0 left' → SameRun m s p stop v c0 c1 c2 left v' d0 c1 c2 left'
same_run_one m s p stop v v' c0 c1 c2 d0 left left' r = record {
  same = λ rule miss. r.same rule miss c1 c2;
  okay = λ stride ok. r.okay stride c1 c2 ok;
  less = r.less;
  lens0 = r.lens;
  lens1 = refl;
  lens2 = refl;
}

pub same_run_inv : (m : Machine) (s : List ℕ) (p : Bool) (rule : Option State) (stride fuel : ℕ) (σ : Conf) (v : Simulator) (c0 c1 c2 : List ℕ) (left : ℕ)
    → RunInv (task m s p rule) stride fuel σ v c0 c1 c2 left → (stop : ℕ) (v' : Simulator) (d0 d1 d2 : List ℕ) (left' : ℕ) → Misses rule stop
    → SameRun m s p stop v c0 c1 c2 left v' d0 d1 d2 left' → RunInv (task m s p rule) stride fuel σ v' d0 d1 d2 left'
same_run_inv m s p rule stride fuel σ v c0 c1 c2 left i stop v' d0 d1 d2 left' miss r =
    record {
      same = r.same rule miss ∙ i.same;
      now_ok = r.okay stride i.now_ok;
      len0 = r.lens0 ∙ i.len0;
      len1 = r.lens1 ∙ i.len1;
      len2 = r.lens2 ∙ i.len2;
    }

-- ---- a small table, packed into the first words of an array of 256

module _ (m : Machine) where
  pub small_words : (s out words : List ℕ) → table_check m s ≡ Ok tt → Small m → length out ≡ 256
      → words ≡ fill_from (word_at s m.symbols) (m.states * m.symbols) 0 out → WordsOk m s (take (m.states * m.symbols) words)
  unfolding word_at
  small_words s out words t small room e =
      let c : m.states * m.symbols ≤ 256 = small.count_in in
      let l : length words ≡ length out = ap length e ∙ length_fill _ _ 0 out in
      record {
        checked = t;
        one_tape_holds = small.one_tape_holds;
        count = length-take-le _ words (omega arith);
        holds = λ i h. get_or-take _ words i 0 h ∙ rw e (fill_in _ _ 0 out i 0 (omega arith) (omega arith) (omega arith));
      }
