-- The facts to prove for a kind of engine, of each of its engines that the check accepts. Definitions only.
use Rattle.std.specs.Prelude.{ℕ, ◌≡◌, ◌↔◌, List, Ok}
use Rattle.machine.specs.declared.Machine.{Machine}
use Rattle.table_laws.specs.WellFormed.{Bytes}
use Rattle.table_machine.specs.TableMachine.{start}
use Rattle.table_machine.specs.Tables.{table_of, TableOf, Bare}
use Rattle.timeline_rule.specs.Model.Timeline.{answered}
use Rattle.timeline_rule.specs.Model.Kind.{ops_for}
use Rattle.timeline_laws.specs.Automaton.{iterate}
use Rattle.timeline_laws.specs.Laws.{Laws}
use Rattle.timeline_laws.specs.TableRun.{machine}
use Rattle.timeline_laws.specs.Meaning.{EngineMeaning}

-- the facts of the engine e
pub record Instance (X : EngineMeaning) (m : Machine) (s : List ℕ) (e : X.kind.State) : Type 1 where
  pub table : TableOf m (table_of m s)
  pub laws : Laws (machine m s table) (ops_for X.kind m s e)
  pub fits : laws.Fits e
  -- the tapes that the machine lacks are blank
  pub bare : Bare m.tapes (X.config m e)
  -- the slot's size stays the same
  pub same_size : (u : X.kind.State) → laws.Fits u → X.kind.slot_size m u ≡ X.kind.slot_size m e
  pub same_config : (u : X.kind.State) → laws.config (laws.mean u) ≡ X.config m u
  pub same_engine : (u v : X.kind.State) → laws.Same u v → X.Same m u v
  pub full_is : (j : ℕ) → laws.NoRoom (iterate laws.next j (laws.mean e)) ↔ X.FullStep m s e j

-- the facts of every engine that the check accepts
abbrev pub Instances : EngineMeaning → Type 1
Instances X = (m : Machine) (s : List ℕ) → Bytes s → (e : X.kind.State) → X.kind.check m s e ≡ Ok tt → Instance X m s e

-- a fresh engine holds the word's configuration
abbrev pub Beginnings : EngineMeaning → Type 0
Beginnings X = (m : Machine) (s w : List ℕ) (b : X.kind.Lent) (e : X.kind.State) → X.kind.create m s w b ≡ answered e → X.config m e ≡ start m.start w
