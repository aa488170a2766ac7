use Rattle.std.proofs.Common.{◌++◌, ap, ◌∙◌}
use Rattle.cut_places.specs.Outcomes.Finds.{armed}
use Rattle.cut_places.specs.AskedReads.Program.{inputs_of_lines}
use Rattle.explorer.specs.Leading.{led_through}
use Rattle.explorer.specs.Reporting.{refusals_from}
use Rattle.explorer.specs.Stopping.{DeviceStopped}
use Rattle.explorer.proofs.CauseLemmas.{fell_later, handed_on, stopped_later}
use Rattle.explorer.proofs.PerformLemmas.{ready_armed}
use Rattle.explorer.proofs.reporting.report_refusals.Goals as goal

pub returns-clause-text : goal.returns-clause-text
returns-clause-text g c = λ h stands ready.
    let first = inputs_of_lines c.args.first.now in
    let wanted = c.args.wanted.now in
    let to = led_through (armed h) first in
    let at = c.in_ok-arm.ensures.arms h stands ready in
    let led = c.in_ok-report_lines.ensures.leads (armed h) at (ready_armed h ready) in
    c.in_ok-report_lines-2.ensures.text to led.0 led.1
    ∙ ap (λ t. t ++ refusals_from 1 to (inputs_of_lines c.args.program.now) wanted)
    (c.in_ok-report_lines.ensures.text (armed h) at (ready_armed h ready) ∙ ap (λ t. t ++ refusals_from 1 (armed h) first wanted) c.new-text.ensures)

pub returns-clause-counts : goal.returns-clause-counts
returns-clause-counts g c =
    let old = (g.D.Lines.state c.args.device.now).panel in
    let mid = (g.D.Lines.state c.arm.new.device).panel in
    let led = (g.D.Lines.state c.report_lines.new.device).panel in
    fell_later old led (g.D.Lines.state c.report_lines-2.new.device).panel (fell_later old mid led c.in_ok-arm.ensures.counts c.in_ok-report_lines.ensures.counts)
    c.in_ok-report_lines-2.ensures.counts

pub returns-in_err-arm-clause-cause : goal.returns-in_err-arm-clause-cause
returns-in_err-arm-clause-cause g c =
    let old = (g.D.Lines.state c.args.device.now).panel in
    handed_on (DeviceStopped old (g.D.Lines.state c.arm.new.device).panel) c.in_err-arm.field-0.0 c.from_residual-in_err-arm.result c.from_residual-in_err-arm.ensures.1
    c.in_err-arm.ensures.cause

pub returns-in_err-report_lines-clause-cause : goal.returns-in_err-report_lines-clause-cause
returns-in_err-report_lines-clause-cause g c =
    let old = (g.D.Lines.state c.args.device.now).panel in
    let new = (g.D.Lines.state c.report_lines.new.device).panel in
    handed_on (DeviceStopped old new) c.in_err-report_lines.field-0.0 c.from_residual-in_err-report_lines.result c.from_residual-in_err-report_lines.ensures.1
    (λ is. stopped_later old (g.D.Lines.state c.arm.new.device).panel new c.in_ok-arm.ensures.counts (c.in_err-report_lines.ensures.cause is))

pub returns-in_err-report_lines-2-clause-cause : goal.returns-in_err-report_lines-2-clause-cause
returns-in_err-report_lines-2-clause-cause g c =
    let old = (g.D.Lines.state c.args.device.now).panel in
    let mid = (g.D.Lines.state c.arm.new.device).panel in
    let led = (g.D.Lines.state c.report_lines.new.device).panel in
    let new = (g.D.Lines.state c.report_lines-2.new.device).panel in
    handed_on (DeviceStopped old new) c.in_err-report_lines-2.field-0.0 c.from_residual-in_err-report_lines-2.result c.from_residual-in_err-report_lines-2.ensures.1
    (λ is. stopped_later old led new (fell_later old mid led c.in_ok-arm.ensures.counts c.in_ok-report_lines.ensures.counts) (c.in_err-report_lines-2.ensures.cause is))
