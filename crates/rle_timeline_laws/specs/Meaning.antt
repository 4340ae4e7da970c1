-- The run-length engine beside the table machine, for the timeline: what its value means, the next step, and when that is full. Definitions only.
use Rattle.std.specs.Prelude.{◌≡◌, List, ℕ}
use Rattle.machine.specs.declared.Machine.{Machine}
use Rattle.table_machine.specs.TableMachine.{Config, step, run}
use Rattle.table_machine.specs.Tables.{table_of}
use Rattle.rle.specs.Model.Engine.{Conf, left_of, right_of}
use Rattle.rle_refines.specs.Meaning.{stack_of, config_of}
use Rattle.rle_refines.specs.Full.{FullAt}
use Rattle.timeline_laws.specs.Meaning.{EngineMeaning}
use Rattle.rle_slots.specs.Model.Slots.{lefts_of, rights_of}
use Rattle.rle_slots.specs.Model.Kind.{chain_kind}

-- what determines all later steps: the configuration held, and the numbers of lent places of the two sides,
-- but neither the macro steps nor what lies past the live runs
pub record Meant : Type 0 where
  pub config : Config
  pub lefts : ℕ
  pub rights : ℕ

abbrev pub meant : Config → (lefts rights : ℕ) → Meant
meant c l r = record { config = c; lefts = l; rights = r }

abbrev pub mean_of : Conf → Meant
mean_of σ = meant (config_of σ) (lefts_of σ) (rights_of σ)

module _ (m : Machine) (s : List ℕ) where
  -- a step of the table machine; the places stay the same
  abbrev pub next_of : Meant → Meant
  next_of x = meant (step (table_of m s) x.config) x.lefts x.rights

  -- "Full exactly when the step's push needs a new run on a side whose live runs fill its lent places."
  abbrev pub NoRoom : Meant → Type 0
  NoRoom x = FullAt m (table_of m s) x.lefts x.rights x.config

  -- the same for the step from configuration j of the run from the configuration that e holds, with the places of e
  abbrev pub FullStep : Conf → ℕ → Type 0
  FullStep e j = FullAt m (table_of m s) (lefts_of e) (rights_of e) (run (table_of m s) j (config_of e))

-- Two values are the same engine, in as many places: all that document 01 determines is equal. (It does not determine what lies past the live runs.)
pub record SameEngine (v u : Conf) : Type 0 where
  -- state, steps, macro steps, the cell read, head, lowest and highest, and how many runs each side has
  pub value : v.sim ≡ u.sim
  -- the runs
  pub lefts : stack_of (left_of v) ≡ stack_of (left_of u)
  pub rights : stack_of (right_of v) ≡ stack_of (right_of u)
  -- the lent places
  pub left_places : lefts_of v ≡ lefts_of u
  pub right_places : rights_of v ≡ rights_of u

-- the kind of engine, the configuration that its value holds, its full steps, and when two values are the same engine
abbrev pub chain_engine : EngineMeaning
chain_engine = record { kind = chain_kind; config = λ m σ. config_of σ; FullStep = FullStep; Same = λ m v u. SameEngine v u }
