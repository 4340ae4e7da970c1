use Rattle.std.proofs.Common.{ap, not}
use Rattle.machine.proofs.Facts.Check.{within-passed}
use Rattle.machine.proofs.Facts.CheckCases.{count_fits, count_small, size_via}
use Rattle.machine.specs.Model.Check.{table_check}
use Rattle.notation.proofs.Facts.Tests.{tests, via}
use Rattle.machine.proofs.Machine.check.Goals as goal

pub returns-then-not-within : goal.returns-then-not-within
unfolding table_check
returns-then-not-within c = search (tests, via) depth 9

pub returns-then-not-within-2 : goal.returns-then-not-within-2
unfolding table_check
returns-then-not-within-2 c = search (tests, via) depth 9

pub returns-then-not-within-3 : goal.returns-then-not-within-3
unfolding table_check
returns-then-not-within-3 c = search (tests, via) depth 9

pub returns-then-self : goal.returns-then-self
unfolding table_check
returns-then-self c = search (tests, via) depth 9

pub stride-stride-requires : goal.stride-stride-requires
stride-stride-requires c =
    let t = within-passed _ _ _ _ c.within.ensures (ap not c.if-not-within.false) in
    let k = within-passed _ _ _ _ c.within-2.ensures (ap not c.if-not-within-2.false) in
    (t.0, t.1, k.1)

pub overflow_mul-self : goal.overflow_mul-self
overflow_mul-self c =
    let n = within-passed _ _ _ _ c.within-3.ensures (ap not c.if-not-within-3.false) in
    record { fits = count_small _ _ n.1 c.stride-stride.ensures.1 }

pub check_size-requires : goal.check_size-requires
check_size-requires c =
    let n = within-passed _ _ _ _ c.within-3.ensures (ap not c.if-not-within-3.false) in
    count_fits _ _ n.1 c.stride-stride.ensures.1

pub returns : goal.returns
unfolding table_check
returns c = search (tests, via, size_via) depth 9
