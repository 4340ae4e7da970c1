use mathlib.Core.Path.{refl}
use Rattle.sim_burst.specs.Model.Burst.{Is}
use Rattle.sim_burst.specs.Model.Words.{Packs}
use Rattle.sim_burst.proofs.Facts.Words.{packs_of}
use Rattle.sim.proofs.Facts.BurstCases.{same_run_burst}
use Rattle.sim.proofs.Simulator.burst_one.Goals as goal

pub returns-in-Some : goal.returns-in-Some
returns-in-Some c = same_run_burst _ _ _ _ _ _ _ _ c.burst_allowed.ensures c.if-not-burst_allowed.false _ _ _ c.burst_start-start.ensures _ _ c.after.ensures (Packs c.in-Some.entries.now c.args.job.m.symbols) (packs_of c.args.job.m c.args.job.table.now _ (rw c.in-Some.is at c.requires.words_if)) c.burst-at.ensures

pub returns : goal.returns
returns c = same_run_burst _ _ _ _ _ _ _ _ c.burst_allowed.ensures c.if-not-burst_allowed.false _ _ _ c.burst_start-start.ensures _ _ c.after-2.ensures (Is c.args.job.table.now) refl c.burst-at-2.ensures
