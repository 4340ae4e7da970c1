-- THE THIRD DEMAND: "Take any fresh timeline, whatever its settings, over a fresh engine of either kind, and any list of seek, forward and back calls on it,
-- refused ones included, none ending for lack of space. After the list the engine holds the table machine's configuration after p steps, p read from the list
-- by document 01's rule. Each accepted call is answered with the verdict of the configuration that the engine then holds. A call is refused exactly when its
-- target is over 2^62. So from any such p, forward a and then forward b end in the same configuration and answer as one forward a + b, where p + a + b is
-- within that limit and none of the three calls ends for lack of space. Where an answer is never, the table machine, run without limits, halts at no later
-- step."
-- `Demand` (timeline_laws/Statement) is the claim. `WholeList` there is the claim about one list, also for lists with calls that end for lack of space.
-- The calls and the new timeline are `call_on` and `new_on` (timeline_rule/Model/Kind), which the contracts of `new`, `seek`, `forward` and `back` cite for `plain_kind` and
-- `chain_kind`.
use Rattle.timeline_laws.specs.Meaning.{EngineMeaning}
use Rattle.timeline_laws.specs.Statement.{Demand, DemandFrom}
use Rattle.timeline_laws.proofs.Facts.Third.{demand, demand_from}
use Rattle.sim_timeline_laws.specs.Meaning.{plain_engine}
use Rattle.sim_timeline_laws.proofs.Facts.Instance.{plain_instances, plain-begins}
use Rattle.rle_timeline_laws.specs.Meaning.{chain_engine}
use Rattle.rle_timeline_laws.proofs.Facts.Instance.{chain_instances, chain-begins}

-- the kind of engine
pub data Kinds : Type 0 where
  plain chain : Kinds

abbrev pub engine_of : Kinds → EngineMeaning
engine_of plain = plain_engine
engine_of chain = chain_engine

pub third_demand : (k : Kinds) → Demand (engine_of k)
third_demand plain = demand plain_engine plain_instances plain-begins
third_demand chain = demand chain_engine chain_instances chain-begins

-- The same claim about a new timeline over any engine value that it accepts. The configuration that the value holds replaces the start, and its step count replaces
-- 0: "A new timeline saves slot 0 at its starting step." "A target below the start counts as the start." The part `slots` of both claims says: "reading a recorded
-- slot must give the engine saved."
pub third_demand_from : (k : Kinds) → DemandFrom (engine_of k)
third_demand_from plain = demand_from plain_engine plain_instances
third_demand_from chain = demand_from chain_engine chain_instances
