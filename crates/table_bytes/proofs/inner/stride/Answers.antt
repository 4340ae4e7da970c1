use native.Mathlib.Omega.{arith}
use Rattle.table_bytes.proofs.Facts.EntryCases.{cube_fits, stride_one, stride_three}
use Rattle.table_bytes.proofs.inner.stride.Goals as goal

pub returns-in-1 : goal.returns-in-1
returns-in-1 c = (search stride_one, omega arith)

pub returns-in_default : goal.returns-in_default
returns-in_default c = (search stride_three, cube_fits _ c.requires.2)
