use Rattle.std.proofs.Common.{◌++◌, ap, sym, ◌∙◌}
use Rattle.std.proofs.lemmas.Result.{err_from_is_err_and}
use Rattle.outcome_lists.specs.AskedReads.Program.{inputs_of_lines}
use Rattle.outcome_lists.specs.Explorer.Reporting.{refusals_from}
use Rattle.outcome_lists.specs.OutcomeTest.Finds.{armed}
use Rattle.outcome_lists.proofs.Explorer.LedLemmas.{armed_led}
use Rattle.image_file.specs.Text.{snapshot_of}
use Rattle.program_base.specs.Opening.{opened}
use Rattle.explore_program.specs.Stops.{of_explore}
use Rattle.explore_program.proofs.CauseLemmas.{explore_unanswered, fell_on, unanswered_later}
use Rattle.explore_program.proofs.refusing.refused.Goals as goal

pub returns-in_err-report_refusals-clause-cause : goal.returns-in_err-report_refusals-clause-cause
returns-in_err-report_refusals-clause-cause g c counted counts =
    let p = err_from_is_err_and c.from_residual-in_err-report_refusals.result c.from_residual-in_err-report_refusals.ensures.1 in
    let old = (g.D.Lines.state c.args.device.now).panel in
    let begun = (g.D.Lines.state c.begin.new.device).panel in
    let new = (g.D.Lines.state c.report_refusals.new.device).panel in
    rw (p.1, p.2) (unanswered_later (of_explore c.in_err-report_refusals.field-0.0) counted counts old begun new c.in_ok-host.ensures.counts
    (explore_unanswered c.in_err-report_refusals.field-0.0 counted counts begun new (c.in_err-report_refusals.ensures.cause)))

pub returns-clause-counts : goal.returns-clause-counts
returns-clause-counts g c =
    fell_on (g.D.Lines.state c.args.device.now).panel (g.D.Lines.state c.begin.new.device).panel (g.D.Lines.state c.report_refusals.new.device).panel c.in_ok-host.ensures.counts c.in_ok-report_refusals.ensures.counts

pub returns-clause-text : goal.returns-clause-text
returns-clause-text g c =
    let image = (snapshot_of c.args.image.now) in
    let first = inputs_of_lines c.args.first.now in
    c.in_ok-report_refusals.ensures.text (opened image) c.in_ok-host.ensures.stands c.in_ok-host.ensures.begins.ready
    ∙ ap (λ m. refusals_from 1 (armed (opened image)) first c.args.wanted.now ++ refusals_from 1 m (inputs_of_lines c.args.program.now) c.args.wanted.now)
    (sym (armed_led (opened image) first c.requires.first.program))
