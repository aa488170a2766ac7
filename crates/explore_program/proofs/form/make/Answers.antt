use Rattle.std.proofs.lemmas.Result.{err_from_is_err_and}
use Rattle.image_file.specs.Text.{snapshot_of}
use Rattle.program_base.specs.Opening.{opened}
use Rattle.explore_program.specs.Stops.{of_explore}
use Rattle.explore_program.proofs.CauseLemmas.{explore_unanswered, fell_on, unanswered_later}
use Rattle.explore_program.proofs.form.make.Goals as goal

pub returns-in_err-make-clause-cause : goal.returns-in_err-make-clause-cause
returns-in_err-make-clause-cause g c counted counts =
    let p = err_from_is_err_and c.from_residual-in_err-make.result c.from_residual-in_err-make.ensures.1 in
    let old = (g.D.Lines.state c.args.device.now).panel in
    let begun = (g.D.Lines.state c.begin.new.device).panel in
    let new = (g.D.Lines.state c.make.new.device).panel in
    rw (p.1, p.2) (unanswered_later (of_explore c.in_err-make.field-0.0) counted counts old begun new c.in_ok-host.ensures.counts
    (explore_unanswered c.in_err-make.field-0.0 counted counts begun new (c.in_err-make.ensures.cause (opened (snapshot_of c.args.image.now)) c.in_ok-host.ensures.stands c.in_ok-host.ensures.begins)))

pub returns-clause-counts : goal.returns-clause-counts
returns-clause-counts g c =
    fell_on (g.D.Lines.state c.args.device.now).panel (g.D.Lines.state c.begin.new.device).panel (g.D.Lines.state c.make.new.device).panel c.in_ok-host.ensures.counts c.in_ok-make.ensures.counts

pub returns-clause-text : goal.returns-clause-text
returns-clause-text g c = c.in_ok-make.ensures.text (opened (snapshot_of c.args.image.now)) c.in_ok-host.ensures.stands c.in_ok-host.ensures.begins
