use Rattle.std.proofs.Common.{◌≡◌, ◌+◌, ◌∙◌, sym, arith, None, Some, Option, ℕ}
use mir.ValLaws.{to_z-of_z}
use Rattle.tape_cells.specs.Model.{first_written}
use Rattle.tape_cells.proofs.Facts.LoopCases.{first-none, first-some, first_reach}
use Rattle.tape_positions.proofs.Facts.Cases.{first_is}
use Rattle.tape_positions.proofs.inner.Placed.first_from.Goals as goal

pub returns-in_err-i : goal.returns-in_err-i
returns-in_err-i c =
    let f : ◌≡◌ {A = Option ℕ} None (first_written c.args.self.now.cells.now c.cells_below-start.result c.args.self.now.len) =
    first-none _ _ _ c.args.self.now.inside.len_in (omega arith) (sym c.in_err-i.was ∙ c.first_written.ensures) in
    rw c.from_residual.ensures (search (first_is, to_z-of_z), omega arith)

pub returns : goal.returns
returns c =
    let f : ◌≡◌ {A = Option ℕ} (Some (c.cells_below-start.result + c.in_ok-i.i)) (first_written c.args.self.now.cells.now c.cells_below-start.result c.args.self.now.len) =
    first-some _ _ _ c.args.self.now.inside.len_in (omega arith) _ (sym c.in_ok-i.was ∙ c.first_written.ensures) in
    (search (first_is, to_z-of_z), first_reach _ _ _ _ _ f (omega arith))
