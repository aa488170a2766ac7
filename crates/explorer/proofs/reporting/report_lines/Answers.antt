use Rattle.std.proofs.Common.{◌≡◌, ◌+◌, ◌++◌, false, get_or, refl, subst, sym, ◌∙◌}
use Rattle.script_text.specs.Action.{action_of}
use Rattle.cut_places.specs.MachineModel.Commands.{refusal}
use Rattle.cut_places.specs.Outcomes.Finds.{IsReady}
use Rattle.cut_places.proofs.GoingLemmas.{program_at}
use Rattle.machine_host.specs.Stands.{Stands}
use Rattle.explorer.specs.Reporting.{refusal_line}
use Rattle.explorer.specs.Stopping.{DeviceStopped}
use Rattle.explorer.proofs.CauseLemmas.{handed_on, stopped_later}
use Rattle.explorer.proofs.ReportLemmas.{reported_first, reported_last, reported_on, reported_past}
use Rattle.explorer.proofs.WentLemmas.{went_first, went_last, went_on, went_past}
use Rattle.explorer.proofs.reporting.report_lines.Goals.{in-Some+in_ok-report_command, in_default}
use Rattle.explorer.proofs.reporting.report_lines.Goals as goal

pub loop-i-init : goal.loop-i-init
loop-i-init g c =
    went_first c.args.lines.now c.args.host.now (g.D.Lines.state c.args.device.now) _ c.requires.known (reported_first c.args.lines.now c.args.wanted.now c.args.text.now.items)

pub report_command-requires-clause-program : goal.report_command-requires-clause-program
report_command-requires-clause-program g c =
    program_at c.args.lines.now c.loop-i.i c.in-Some.command c.index-lines-i.result c.loop-i-test.true (sym c.in-Some.is ∙ c.index-lines-i.is) c.requires.program

pub loop-i-preserved : goal.loop-i-preserved
loop-i-preserved g c =
    let lines = c.args.lines.now in
    let wanted = c.args.wanted.now in
    let first = c.args.host.now in
    let begun = g.D.Lines.state c.args.device.now in
    let i = c.loop-i.i in
    let text = c.loop-i.text.items in
    let line = c.index-lines-i.result in
    let mark = get_or wanted i false in
    elim c.match-line.branch [
      | in-Some+in_ok-report_command w ↦ rw (w.host-is, w.device-is, w.text-is) (
          went_on lines first begun i c.loop-i.host (g.D.Lines.state c.loop-i.device) _ c.loop-i.invariant line c.loop-i-test.true c.index-lines-i.is _
          w.in-Some.command w.in-Some.is w.report_command.new.host (g.D.Lines.state w.report_command.new.device)
          (λ m. w.report_command.new.text.items ≡ text ++ refusal_line (i + 1) (refusal m (action_of w.in-Some.command)) mark)
          w.in_ok-report_command.ensures.known w.in_ok-report_command.ensures.counts w.in_ok-report_command.ensures.text
          (λ h to told more.
          reported_on lines wanted c.args.text.now.items i text line mark c.loop-i-test.true c.requires.marks c.index-lines-i.is refl h to told w.in-Some.command w.in-Some.is
          w.report_command.new.text.items more))
      | in_default w ↦ rw (w.host-is, w.device-is, w.text-is) (
          went_past lines first begun i c.loop-i.host (g.D.Lines.state c.loop-i.device) _ c.loop-i.invariant line c.loop-i-test.true c.index-lines-i.is _ w.in_default.is
          (λ h to told. reported_past lines wanted c.args.text.now.items i text line mark c.loop-i-test.true c.requires.marks c.index-lines-i.is refl h to told w.in_default.is))
    ]

pub returns-clause-leads : goal.returns-clause-leads
returns-clause-leads g c = λ h stands ready.
    let last = went_last c.args.lines.now c.args.host.now (g.D.Lines.state c.args.device.now) c.loop-i.i c.loop-i.host (g.D.Lines.state c.loop-i.device) _
    c.loop-i.invariant c.loop-i-test.false h stands ready in
    (subst (Stands c.loop-i.host (g.D.Lines.state c.loop-i.device)) last.1 last.2, subst IsReady last.1 last.3)

pub returns-clause-text : goal.returns-clause-text
returns-clause-text g c = λ h stands ready.
    let last = went_last c.args.lines.now c.args.host.now (g.D.Lines.state c.args.device.now) c.loop-i.i c.loop-i.host (g.D.Lines.state c.loop-i.device) _
    c.loop-i.invariant c.loop-i-test.false h stands ready in
    reported_last c.args.lines.now c.args.wanted.now c.args.text.now.items c.loop-i.i c.loop-i.text.items h last.0 c.loop-i-test.false last.4

pub returns-in_err-report_command-clause-cause : goal.returns-in_err-report_command-clause-cause
returns-in_err-report_command-clause-cause g c =
    let old = (g.D.Lines.state c.args.device.now).panel in
    let new = (g.D.Lines.state c.report_command.new.device).panel in
    handed_on (DeviceStopped old new) c.in_err-report_command.field-0.0 c.from_residual.result c.from_residual.ensures.1
    (λ is. stopped_later old (g.D.Lines.state c.loop-i.device).panel new c.loop-i.invariant.counts (c.in_err-report_command.ensures.cause is))
