-- The tapes of a configuration: a cell after a write, equal tapes, and the tapes that the machine lacks, which stay blank. Assumes nothing.
use Rattle.std.specs.Prelude.{◌≡◌, List, [], ℤ, pos, negsuc, None, Option, Some}
use Rattle.std.proofs.Math.Path.{refl}
use Rattle.std.proofs.Common.{sym, ◌∙◌}
use Prim.Native.Nat.{ℕ, zero, suc}
use Rattle.notation.specs.Choice.{pick}
use Rattle.notation.specs.Position.{eq_z}
use Rattle.notation.proofs.Facts.Position.{eq_z_true, eq_z_refl}
use Rattle.notation.proofs.Facts.Tests.{by_test, pick_cases, pick_true, pick_false}
use Rattle.symbol.specs.declared.Dir.TheVariants.{N}
use Rattle.machine.specs.declared.Machine.{Machine}
use Rattle.machine.specs.declared.Action.{Action}
use Rattle.table_laws.specs.WellFormed.{ActionOf}
use Rattle.table_machine.specs.TableMachine.{Table, Tape, Config, read_t, put, update, word_cell, blank_tape, start, entry, act, act_on, step, run}
use Rattle.table_machine.specs.Tables.{TableOf, Bare}

-- ---- a cell after a write

pub put_same : (f : ℤ → ℕ) (h : ℤ) (w : ℕ) → put f h w h ≡ w
unfolding put
put_same f h w = pick_true (eq_z h h) w (f h) (eq_z_refl h)

pub put_other : (f : ℤ → ℕ) (h z : ℤ) (w : ℕ) → ¬ (z ≡ h) → put f h w z ≡ f z
unfolding put
put_other f h z w n = by_test (eq_z z h) (λ t. absurd (n (eq_z_true z h t))) (pick_false (eq_z z h) w (f z))

-- two tapes are equal where their parts are equal
pub tape-≡ : (s t : Tape) → ((z : ℤ) → s.cell z ≡ t.cell z) → s.head ≡ t.head → s.low ≡ t.low → s.high ≡ t.high → s ≡ t
tape-≡ s t c h l g = λ i. record { cell = λ z. c z i; head = h i; low = l i; high = g i }

-- ---- a tape that the machine lacks is blank and never moves

pub blank_stays : update blank_tape zero N ≡ blank_tape
unfolding put pick
blank_stays = tape-≡ (update blank_tape zero N) blank_tape cells refl refl refl
  where
    blank : (z : ℤ) → word_cell [] z ≡ zero
    blank (pos n) = refl
    blank (negsuc n) = refl

    cells : (z : ℤ) → put (word_cell []) (pos zero) zero z ≡ word_cell [] z
    cells z = pick_cases (eq_z z (pos zero)) zero (word_cell [] z) (λ (x : ℕ). x ≡ word_cell [] z) (λ _. sym (blank z)) (λ _. refl)

module _ (m : Machine) (d : Table) (table : TableOf m d) where
  pub bare_act : (c : Config) (a : Action) → entry d c ≡ Some a → Bare m.tapes c → Bare m.tapes (act c a)
  bare_act c a e b =
      let o : ActionOf m a = table c.state (read_t c.tape0) (read_t c.tape1) (read_t c.tape2) a e in
      record {
        second = λ l. (λ i. update (b.second l i) ((o.lacks1 l).0 i) ((o.lacks1 l).1 i)) ∙ blank_stays;
        third = λ l. (λ i. update (b.third l i) ((o.lacks2 l).0 i) ((o.lacks2 l).1 i)) ∙ blank_stays;
      }

  pub bare_step : (c : Config) → Bare m.tapes c → Bare m.tapes (step d c)
  unfolding step
  bare_step c b = by (entry d c) refl
    where
      by : (x : Option Action) → entry d c ≡ x → Bare m.tapes (act_on c x)
      by None e = b
      by (Some a) e = bare_act c a e b

  pub bare_run : (n : ℕ) (c : Config) → Bare m.tapes c → Bare m.tapes (run d n c)
  unfolding run
  bare_run zero c b = b
  bare_run (suc n) c b = bare_run n (step d c) (bare_step c b)

pub bare-start : (t q : ℕ) (w : List ℕ) → Bare t (start q w)
bare-start t q w = record { second = λ _. refl; third = λ _. refl }
