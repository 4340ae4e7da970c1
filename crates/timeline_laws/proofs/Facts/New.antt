-- A new timeline meets the invariant, at the step of its engine. Assumes nothing.
use Rattle.outcome.specs.declared.Refusal.{Refusal}
use Rattle.std.specs.Prelude.{ℕ, ◌+◌, ◌*◌, ◌≤◌, ◌<◌, Bool, ltb, Err, Ok, Result, ⊤}
use Rattle.std.proofs.Math.Path.{◌≡◌, refl}
use Rattle.std.proofs.Common.{sym, ◌∙◌, ap, subst, zero-mul, arith}
use Rattle.std.proofs.Math.Bool.{true, false}
use borrow.Author.Tests.{leb-true, ltb-true}
use Rattle.notation.specs.Choice.{pick}
use Rattle.notation.proofs.Facts.Tests.{both_split}
use Rattle.outcome.specs.declared.Refusal.TheVariants as Why
use Rattle.machine.specs.Model.Check.{within, checked_on, demand}
use Rattle.timeline_rule.specs.Model.Engine.{Ops}
use Rattle.timeline_rule.specs.Model.Timeline.{TimelineOver, answered, new_ok, new_check, born, on_new, new}
use Rattle.timeline_laws.specs.Automaton.{Automaton}
use Rattle.timeline_laws.specs.Laws.{Laws}
use Rattle.timeline_laws.proofs.Facts.Steps.{base, at_low, pos, pos_base}
use Rattle.timeline_laws.proofs.Facts.Invariant.{Slot, Inv}

-- ---- what the checks imply for a new timeline that is made

pub record Settings (m k : ℕ) : Type 0 where
  m_low : 1 ≤ m
  m_high : m ≤ 512
  k_low : 1 ≤ k
  k_high : k ≤ 4294967296

settings : (m k : ℕ) → new_ok m k ≡ true → Settings m k
unfolding new_ok
settings m k q = record { m_low = of_m.0; m_high = of_m.1; k_low = of_k.0; k_high = of_k.1 }
  where
    inside : (a b x : ℕ) → within a b x ≡ true → (a ≤ x) × (x ≤ b)
    inside a b x q = (leb-true a x (both_split q).0, leb-true x b (both_split q).1)

    of_m : (1 ≤ m) × (m ≤ 512)
    of_m = inside 1 512 m (both_split q).0

    of_k : (1 ≤ k) × (k ≤ 4294967296)
    of_k = inside 1 4294967296 k (both_split q).1

-- the facts about a new timeline that was made
pub record Begun {Out : Type 0} (O : Ops Out) (m k : ℕ) (s : O.State) (t : O.Store) (w : TimelineOver O) : Type 0 where
  pub checked : O.check s ≡ Ok tt
  pub settings_in : Settings m k
  pub slots_in : m < O.slots t
  pub is : born O m k s t ≡ w

module _ {Out : Type 0} (O : Ops Out) (m k : ℕ) (s : O.State) (t : O.Store) (w : TimelineOver O) where
  takes : (c : Result ⊤ Refusal) (a b : Bool) → O.check s ≡ c → new_ok m k ≡ a → ltb m (O.slots t) ≡ b
      → on_new O (checked_on c (demand a Why.Settings (demand b Why.StoreSize (Ok tt)))) (born O m k s t) ≡ answered w → Begun O m k s t w
  unfolding pick
  takes (Err why) a b x y z q = let n : ◌≡◌ {A = ℕ} 0 1 = cc in absurd (omega arith)
  takes (Ok tt) false b x y z q = let n : ◌≡◌ {A = ℕ} 0 1 = cc in absurd (omega arith)
  takes (Ok tt) true false x y z q = let n : ◌≡◌ {A = ℕ} 0 1 = cc in absurd (omega arith)
  takes (Ok tt) true true x y z q = record { checked = x; settings_in = settings m k y; slots_in = ltb-true m (O.slots t) z; is = cc }

  pub begun : new O m k s t ≡ answered w → Begun O m k s t w
  unfolding new new_check
  begun q = takes (O.check s) (new_ok m k) (ltb m (O.slots t)) refl refl refl q

-- ---- its slot 0 holds the engine

module _ {M : Automaton} {O : Ops M.Out} (E : Laws M O) where
  pub born_inv : (m k : ℕ) (s : O.State) (t : O.Store) (f : E.Fits s) → Settings m k → m < O.slots t
      → Inv E (E.mean s) (E.fits_good s f) (born O m k s t) (base E (E.mean s))
  born_inv m k s t f c l = record {
    engine_at = record {
      fits = f;
      low = omega arith;
      here = sym (at_low E (E.mean s) (base E (E.mean s)) (omega arith));
      exactly = pos_base E (E.mean s);
      room = λ j a b. absurd (omega arith);
      small = omega (arith, now, E.fits_low s f);
    };
    tidy = record {
      most_low = c.m_low;
      most_high = c.m_high;
      room_for_holds = rw (E.save_slots 0 s t f (omega arith)) l;
      first_is = now;
      count_low = omega arith;
      every_low = c.k_low;
      every_high = omega (arith, c.k_high);
      last_low = omega (arith, E.fits_low s f);
      slot = λ i b. only i (omega arith);
    };
    count_high = c.m_low;
    behind = omega (arith, now);
  }
    where
      now : O.now s ≡ base E (E.mean s)
      now = E.now_is s

      only : (i : ℕ) → i ≡ 0 → Slot E (E.mean s) (E.fits_good s f) (O.save 0 s t) (record { most = m; first = O.now s; count = 1; every = k }) i
      only i q = record {
        engine = s;
        kept = subst (λ n. E.Holds (O.save 0 s t) n s) (sym q) (E.save_same 0 s t f (omega arith));
        means = sym (at_low E (E.mean s) (O.now s + i * k) (omega (arith, now, none)));
        step = subst (λ n. pos E (E.mean s) n ≡ n) here (pos_base E (E.mean s));
      }
        where
          none : i * k ≡ 0
          none = ap (λ n. n * k) q ∙ zero-mul k

          here : base E (E.mean s) ≡ O.now s + i * k
          here = omega (arith, now, none)
