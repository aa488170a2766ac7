use Rattle.std.proofs.Common.{Err, ap}
use Rattle.std.proofs.lemmas.Result.{err_from_is_err_and}
use Rattle.host_program.proofs.FormLemmas.{never_bench, never_check, never_new, unread}
use Rattle.host_program.proofs.top.perform.Goals as goal

pub returns-in-New-clause-usage : goal.returns-in-New-clause-usage
returns-in-New-clause-usage g c is =
    absurd (never_new 8 c.in-New.image.now c.in-New.geometry c.create.result _ _ (c.create.ensures (g.D.Lines.state c.args.device.now) (g.T.Source.left c.args.script.now) (g.T.Source.count c.args.script.now)) is)

pub returns-in-NewByte-clause-usage : goal.returns-in-NewByte-clause-usage
returns-in-NewByte-clause-usage g c is =
    absurd (never_new 1 c.in-NewByte.image.now c.in-NewByte.geometry c.create-in-NewByte.result _ _ (c.create-in-NewByte.ensures (g.D.Lines.state c.args.device.now) (g.T.Source.left c.args.script.now) (g.T.Source.count c.args.script.now)) is)

pub returns-in-Check-clause-usage : goal.returns-in-Check-clause-usage
returns-in-Check-clause-usage g c is =
    absurd (never_check c.in-Check.image.now c.check.result _ _ (c.check.ensures (g.T.Source.left c.args.script.now) (g.T.Source.count c.args.script.now)) is)

pub returns-in-Bench-clause-usage : goal.returns-in-Bench-clause-usage
returns-in-Bench-clause-usage g c is =
    absurd (never_bench c.in-Bench.seed c.in-Bench.count c.bench.result _ _
    (c.bench.ensures (g.F.Images.held c.args.images.now) (g.F.Images.count c.args.images.now) (g.T.Source.left c.args.script.now) (g.T.Source.count c.args.script.now)) is)

pub returns-in_err-image-clause-outcome : goal.returns-in_err-image-clause-outcome
returns-in_err-image-clause-outcome g c =
    let p = err_from_is_err_and c.from_residual.result c.from_residual.ensures.1 in
    rw (p.1, p.2) (λ form is. unread c.in_err-image.field-0.0 form _ (λ used. c.in_err-image.ensures.usage (ap (λ fault. Err fault) used) form is))
