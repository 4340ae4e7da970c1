-- THE MIRROR (document 02, request 10): "exchanging L and R .. negates the head and reflects the cells and the extent". Definitions only.
use Rattle.std.specs.Prelude.{neg_ℤ, None, Option, Some}
use Rattle.symbol.specs.Kinds.{reversed_of}
use Rattle.outcome.specs.declared.NonHaltProof.{NonHaltProof}
use Rattle.outcome.specs.declared.NonHaltProof.TheVariants.{StayLoop, ChainToInfinity}
use Rattle.outcome.specs.declared.Outcome.{Outcome}
use Rattle.outcome.specs.declared.Outcome.TheVariants.{Halted, OutOfFuel, NeverHalts, Stopped, Full}
use Rattle.machine.specs.declared.Action.{Action}
use Rattle.table_machine.specs.TableMachine.{Table, Tape, Config}

-- ---- the table: "exchanging L and R"

abbrev pub mirrored_action : Action → Action
mirrored_action a = record {
  next = a.next;
  write0 = a.write0;
  write1 = a.write1;
  write2 = a.write2;
  dir0 = reversed_of a.dir0;
  dir1 = reversed_of a.dir1;
  dir2 = reversed_of a.dir2;
}

abbrev pub mirrored_entry : Option Action → Option Action
mirrored_entry None = None
mirrored_entry (Some a) = Some (mirrored_action a)

abbrev pub mirrored_table : Table → Table
mirrored_table d q x y z = mirrored_entry (d q x y z)

-- ---- the configuration: "negates the head and reflects the cells and the extent"

abbrev pub mirrored_tape : Tape → Tape
mirrored_tape t = record { cell = λ z. t.cell (neg_ℤ z); head = neg_ℤ t.head; low = neg_ℤ t.high; high = neg_ℤ t.low }

abbrev pub mirrored_config : Config → Config
mirrored_config c = record {
  state = c.state;
  steps = c.steps;
  tape0 = mirrored_tape c.tape0;
  tape1 = mirrored_tape c.tape1;
  tape2 = mirrored_tape c.tape2;
}

-- ---- the verdict: "with the never pattern's move exchanged for the mirror"

abbrev pub mirrored_proof : NonHaltProof → NonHaltProof
mirrored_proof (StayLoop q) = StayLoop q
mirrored_proof (ChainToInfinity q d) = ChainToInfinity q (reversed_of d)

abbrev pub mirrored_outcome : Outcome → Outcome
mirrored_outcome (Halted n q) = Halted n q
mirrored_outcome (OutOfFuel n) = OutOfFuel n
mirrored_outcome (NeverHalts n p) = NeverHalts n (mirrored_proof p)
mirrored_outcome (Stopped n) = Stopped n
mirrored_outcome (Full n) = Full n
