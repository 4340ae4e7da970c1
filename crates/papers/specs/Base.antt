-- THE CHANGE REQUESTS (document 02). "Begin with the proof of the base. After that, do these requests, one landing for each." The base is the customer's three
-- demands and the starred cases of document 01. A request may change definitions that they cite; it must keep this theorem. Each request has a file `PaperNN` beside
-- this one, with the customer's sentence above each of its parts.
use Rattle.demands.specs.First.{FirstDemand, first-demand}
use Rattle.demands.specs.Second.{SecondDemand, second_demand}
use Rattle.demands.specs.Third.{Kinds, engine_of, third_demand, third_demand_from}
use Rattle.demands.specs.Cases.{AllRight, starred, starred_cases}
use Rattle.timeline_laws.specs.Statement.{Demand, DemandFrom}

pub record Base : Type 1 where
  pub first : FirstDemand
  pub second : SecondDemand
  pub third : (k : Kinds) → Demand (engine_of k)
  pub third_from : (k : Kinds) → DemandFrom (engine_of k)
  pub cases : AllRight starred

pub base : Base
base = record { first = first-demand; second = second_demand; third = third_demand; third_from = third_demand_from; cases = starred_cases }
