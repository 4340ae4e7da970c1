use Prim.Native.Nat.{◌+◌, ◌^◌}
use native.Mathlib.Omega.{arith}
use mathlib.Core.Path.{◌≡◌, ◌∙◌}
use mir.Syntax.{w64}
use mir.ValLaws.{to_z-of_z}
use Rattle.notation.specs.Position.{up, dn}
use Rattle.symbol.proofs.Facts.Places.{index_alike}
use Rattle.symbol.proofs.position.index_of.Goals as goal

pub returns : goal.returns
returns c =
    let z = c.args.at in
    let e = to_z-of_z w64 z c.ranges.at in
    let q : c.raised.result + dn z ≡ 2 ^ 63 + up z = rw e at c.raised.ensures.1 in
    c.index_of_raised.ensures ∙ index_alike _ _ _ _ _ _ (omega arith)
