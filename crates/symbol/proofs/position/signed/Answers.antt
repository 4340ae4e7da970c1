use Prim.Native.Nat.{◌-◌, ◌^◌}
use native.Mathlib.Omega.{arith}
use mathlib.Core.Path.{◌≡◌, ◌∙◌}
use lib.IntN.{pos, negsuc}
use mir.Syntax.{w64}
use mir.Val.{SFits, to_z}
use mir.ValLaws.{to_z-of_z}
use mir.Facts.{to_z_pos}
use Rattle.symbol.proofs.Laws.{below_zero, below_is, above_is}
use Rattle.symbol.proofs.position.signed.Goals as goal

pub returns-then-raised-lt-RAISED_ZERO : goal.returns-then-raised-lt-RAISED_ZERO
returns-then-raised-lt-RAISED_ZERO c =
    let b = c.args.raised in
    let n = 9223372036854775807 - b in
    let e : to_z w64 n ≡ pos n = to_z_pos w64 {n = n} (omega arith) in
    let f : SFits w64 (negsuc n) = record { sfits = omega arith } in
    rw (e, below_zero n) (to_z-of_z w64 (negsuc n) f ∙ below_is n b (2 ^ 63) (omega arith))

pub returns : goal.returns
returns c =
    let b = c.args.raised in
    let n = b - 2 ^ 63 in
    to_z_pos w64 {n = n} (omega arith) ∙ above_is n b (2 ^ 63) (omega arith)
