use Prim.Native.Nat.{◌+◌, ◌-◌, ◌^◌}
use mathlib.Core.Path.{◌∙◌}
use mir.Syntax.{w64}
use mir.ValLaws.{to_z-of_z}
use Rattle.notation.proofs.Facts.Position.{ints, diff-⊖}
use Rattle.symbol.proofs.position.of_index.Goals as goal

pub returns : goal.returns
returns c =
    let i = c.args.index in
    let o = c.args.origin in
    to_z-of_z w64 c.signed.result (record { sfits = c.signed.type_inv })
    ∙ c.signed.ensures
    ∙ omega (ints, diff-⊖ i o, diff-⊖ (2 ^ 63 + i - o) (2 ^ 63))
