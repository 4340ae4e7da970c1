use Rattle.std.proofs.lemmas.Grind.{common_steps}
use native.Mathlib.Omega.{arith}
use Rattle.notation.specs.Choice.{both}
use Rattle.run_checks.specs.Model.Look.{rooms_of}
use Rattle.run_checks.proofs.inner.look.rooms.Goals as goal

pub returns-then-room-2 : goal.returns-then-room-2
unfolding rooms_of both
returns-then-room-2 c = grind (arith, common_steps)

pub returns-else-room-2 : goal.returns-else-room-2
unfolding rooms_of both
returns-else-room-2 c = grind (arith, common_steps)
