use Rattle.std.proofs.Common.{◌≡◌, subst, sym, ◌∙◌}
use Rattle.std.specs.Option.{is_none}
use Rattle.script_text.specs.Action.{action_of}
use Rattle.cut_places.specs.Following.{Follows, IsWithin}
use Rattle.cut_places.specs.MachineModel.Commands.{refusal}
use Rattle.cut_places.proofs.GoingLemmas.{program_at}
use Rattle.machine_host.specs.Stands.{Stands}
use Rattle.explorer.specs.Stopping.{DeviceStopped}
use Rattle.explorer.proofs.CauseLemmas.{handed_on, stopped_later}
use Rattle.explorer.proofs.WentLemmas.{went_first, went_last, went_on, went_past}
use Rattle.explorer.proofs.leading.lead.Goals.{in-Some+in_ok-done+in_ok-follow, in_default}
use Rattle.explorer.proofs.leading.lead.Goals as goal

pub loop-line-init : goal.loop-line-init
loop-line-init g c = record {
  went = went_first c.args.lines.now c.args.host.now (g.D.Lines.state c.args.device.now) _ c.requires.known (λ h follows. follows);
  whole = λ question whole. whole;
  within = subst (IsWithin c.args.sight.now) (sym c.geometry-geometry.ensures) c.requires.within;
}

pub is_done-requires-clause-program : goal.is_done-requires-clause-program
is_done-requires-clause-program g c =
    program_at c.args.lines.now c.loop-line.line-index c.in-Some.command c.line-item.result c.loop-line-test.true (sym c.in-Some.is ∙ c.line-item.is) c.requires.program

pub follow-requires-clause-program : goal.follow-requires-clause-program
follow-requires-clause-program g c =
    program_at c.args.lines.now c.loop-line.line-index c.in-Some.command c.line-item.result c.loop-line-test.true (sym c.in-Some.is ∙ c.line-item.is) c.requires.program

pub loop-line-preserved : goal.loop-line-preserved
loop-line-preserved g c =
    let lines = c.args.lines.now in
    let first = c.args.host.now in
    let begun = g.D.Lines.state c.args.device.now in
    let i = c.loop-line.line-index in
    let were = c.loop-line.invariant in
    let line = c.line-item.result in
    elim c.match-line.branch [
      | in-Some+in_ok-done+in_ok-follow w ↦ rw (w.host-is, w.device-is, w.sight-is) (record {
        went = went_on lines first begun i c.loop-line.host (g.D.Lines.state c.loop-line.device) _ were.went line c.loop-line-test.true c.line-item.is _
            w.in-Some.command w.in-Some.is w.is_done.new.host (g.D.Lines.state w.is_done.new.device)
            (λ m. is_none (refusal m (action_of w.in-Some.command)) ≡ w.in_ok-done.done) w.in_ok-done.ensures.known w.in_ok-done.ensures.counts w.in_ok-done.ensures.done
            (λ h to told is follows. w.in_ok-follow.ensures.follows to (told follows) is);
        whole = λ question whole. w.in_ok-follow.ensures.whole question (were.whole question whole);
        within = w.in_ok-follow.ensures.within;
      })
      | in_default w ↦ rw (w.host-is, w.device-is, w.sight-is) (record {
        went = went_past lines first begun i c.loop-line.host (g.D.Lines.state c.loop-line.device) _ were.went line c.loop-line-test.true c.line-item.is _ w.in_default.is
            (λ h to told. told);
        whole = were.whole;
        within = were.within;
      })
    ]

pub returns-clause-leads : goal.returns-clause-leads
returns-clause-leads g c = λ h stands follows.
    let geo = c.geometry-geometry.ensures in
    let last = went_last c.args.lines.now c.args.host.now (g.D.Lines.state c.args.device.now) c.loop-line.line-index c.loop-line.host (g.D.Lines.state c.loop-line.device) _
    c.loop-line.invariant.went c.loop-line-test.false h stands follows.ready in
    let after = subst (λ sizes. Follows c.loop-line.sight sizes last.0) geo (last.4 (subst (λ sizes. Follows c.args.sight.now sizes h) (sym geo) follows)) in
    (subst (Stands c.loop-line.host (g.D.Lines.state c.loop-line.device)) last.1 last.2, subst (Follows c.loop-line.sight c.args.host.now.geometry) last.1 after)

pub returns-clause-within : goal.returns-clause-within
returns-clause-within g c = subst (IsWithin c.loop-line.sight) c.geometry-geometry.ensures c.loop-line.invariant.within

pub returns-in_err-done-clause-cause : goal.returns-in_err-done-clause-cause
returns-in_err-done-clause-cause g c =
    let old = (g.D.Lines.state c.args.device.now).panel in
    let new = (g.D.Lines.state c.is_done.new.device).panel in
    handed_on (DeviceStopped old new) c.in_err-done.field-0.0 c.from_residual.result c.from_residual.ensures.1
    (λ is. stopped_later old (g.D.Lines.state c.loop-line.device).panel new c.loop-line.invariant.went.counts (c.in_err-done.ensures.cause is))
