use Rattle.std.proofs.Common.{rules, subst}
use Rattle.std.specs.Prelude.{OnOk}
use Rattle.std.specs.Io.KnownBytes.{Appends}
use Rattle.seekrun.proofs.Printed.{printed, not_refused}
use Rattle.seekrun.proofs.answer.Goals as goal

pub returns-in-Ok-clause-written : goal.returns-in-Ok-clause-written
returns-in-Ok-clause-written g c =
    let says = printed _ _ _ _ c.list.ensures.0 (search rules) _ c.in-Ok.is in
    subst (λ bs. OnOk c.write_output.result (Appends (g.W.Write.contents c.args.writer.now) (g.W.Write.contents c.write_output.new.writer) bs)) says c.write_output.ensures.written

pub returns-in-Err-clause-written : goal.returns-in-Err-clause-written
returns-in-Err-clause-written g c = absurd (not_refused _ _ _ _ c.list.ensures.0 (search rules) _ c.in-Err.is)
