-- A run of a machine's table stays among the machine's configurations. Assumes nothing.
use Rattle.std.specs.Prelude.{◌≡◌, List, [], ℤ, pos, negsuc, None, Option, Some}
use Rattle.std.proofs.Math.Path.{refl}
use Rattle.std.proofs.Common.{ap}
use Prim.Native.Nat.{ℕ, zero, suc, ◌≤◌, ◌<◌}
use Rattle.notation.specs.Position.{eq_z}
use Rattle.notation.proofs.Facts.Tests.{pick_cases}
use Rattle.machine.specs.declared.Machine.{Machine}
use Rattle.machine.specs.declared.Action.{Action}
use Rattle.table_laws.specs.WellFormed.{ActionOf}
use Rattle.table_machine.specs.TableMachine.{Table, Config, put, word_cell, start, entry, act, act_on, step, run, read_t}
use Rattle.table_machine.specs.Tables.{TableOf, Bare}
use Rattle.table_machine.proofs.Facts.Tape.{bare_act, bare-start}
use Rattle.table_machine_symmetry.specs.Claims.{WordBelow, Reads}

-- a configuration of the machine: a state below n, symbols below k, the tapes that it lacks blank
pub record ConfigOf (m : Machine) (c : Config) : Type 0 where
  pub state_in_holds : c.state < m.states
  pub symbols0 : (z : ℤ) → c.tape0.cell z < m.symbols
  pub symbols1 : (z : ℤ) → c.tape1.cell z < m.symbols
  pub symbols2 : (z : ℤ) → c.tape2.cell z < m.symbols
  pub bare : Bare m.tapes c

pub config_reads : (m : Machine) (c : Config) → ConfigOf m c → Reads m (read_t c.tape0) (read_t c.tape1) (read_t c.tape2)
config_reads m c g = record {
  first = g.symbols0 c.tape0.head;
  second = g.symbols1 c.tape1.head;
  third = g.symbols2 c.tape2.head;
  lacks1 = λ l. ap read_t (g.bare.second l);
  lacks2 = λ l. ap read_t (g.bare.third l);
}

put_in : (k : ℕ) (f : ℤ → ℕ) (h : ℤ) (w : ℕ) → w < k → ((z : ℤ) → f z < k) → (z : ℤ) → put f h w z < k
unfolding put
put_in k f h w l g z = pick_cases (eq_z z h) w (f z) (λ (x : ℕ). x < k) (λ _. l) (λ _. g z)

word_in : (k : ℕ) (word : List ℕ) → 1 ≤ k → WordBelow k word → (z : ℤ) → word_cell word z < k
word_in k word l f (pos n) = f n
word_in k word l f (negsuc n) = l

pub config_start : (m : Machine) (q : ℕ) (word : List ℕ) → 1 ≤ m.symbols → q < m.states → WordBelow m.symbols word → ConfigOf m (start q word)
config_start m q word k l f = record {
  state_in_holds = l;
  symbols0 = word_in m.symbols word k f;
  symbols1 = word_in m.symbols [] k (λ j. k);
  symbols2 = word_in m.symbols [] k (λ j. k);
  bare = bare-start m.tapes q word;
}

module _ (m : Machine) (d : Table) (table : TableOf m d) where
  config_act : (c : Config) (a : Action) → entry d c ≡ Some a → ConfigOf m c → ConfigOf m (act c a)
  config_act c a e g =
      let o : ActionOf m a = table c.state (read_t c.tape0) (read_t c.tape1) (read_t c.tape2) a e in
      record {
        state_in_holds = o.next_in;
        symbols0 = put_in m.symbols c.tape0.cell c.tape0.head a.write0.0 o.write0_in g.symbols0;
        symbols1 = put_in m.symbols c.tape1.cell c.tape1.head a.write1.0 o.write1_in g.symbols1;
        symbols2 = put_in m.symbols c.tape2.cell c.tape2.head a.write2.0 o.write2_in g.symbols2;
        bare = bare_act m d table c a e g.bare;
      }

  pub config_step : (c : Config) → ConfigOf m c → ConfigOf m (step d c)
  unfolding step
  config_step c g = by (entry d c) refl
    where
      by : (x : Option Action) → entry d c ≡ x → ConfigOf m (act_on c x)
      by None e = g
      by (Some a) e = config_act c a e g

  pub config_run : (n : ℕ) (c : Config) → ConfigOf m c → ConfigOf m (run d n c)
  unfolding run
  config_run zero c g = g
  config_run (suc n) c g = config_run n (step d c) (config_step c g)
