-- The numbers of a run-length engine, a lemma for each path through the code. Assumes nothing.
use Rattle.std.specs.Prelude.{◌≡◌, Bool, true, false, ℕ, ◌+◌, min, max}
use Rattle.std.proofs.Common.{eq-eqb, ne_eqb}
use Rattle.notation.specs.Choice.{pick}
use Rattle.outcome.specs.declared.Outcome.{Outcome}
use Rattle.outcome.specs.declared.Outcome.TheVariants.{OutOfFuel, Stopped}
use Rattle.rle_counts.specs.Model.Counts.{fuel_then, Tally, tallied}

-- ---- fuel, the stop rule

module _ {A : Type 0} (end : Outcome → A) (fuel steps : ℕ) (stops : Bool) (go : A) where
  pub then_spent : fuel ≡ 0 → end (OutOfFuel steps) ≡ fuel_then end fuel steps stops go
  unfolding pick
  then_spent e = rw (eq-eqb fuel 0 e)

  pub then_stops : (fuel ≡ 0 → ⊥) → stops ≡ true → end (Stopped steps) ≡ fuel_then end fuel steps stops go
  unfolding pick
  then_stops h e = rw (ne_eqb fuel 0 h, e)

  pub then_goes : (fuel ≡ 0 → ⊥) → stops ≡ false → go ≡ fuel_then end fuel steps stops go
  unfolding pick
  then_goes h e = rw (ne_eqb fuel 0 h, e)

-- ---- a macro step

pub tally_made : (t : Tally) (n head lo hi : ℕ) → lo ≡ min t.lowest head → hi ≡ max t.highest head
    → record { steps = t.steps + n; macros = t.macros + 1; head = head; lowest = lo; highest = hi } ≡ tallied t n head
tally_made t n head lo hi a b i = record { steps = t.steps + n; macros = t.macros + 1; head = head; lowest = a i; highest = b i }
