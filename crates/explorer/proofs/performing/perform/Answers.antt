use Rattle.std.proofs.Common.{◌≡◌, ◌+◌, ◌++◌, Bool, cond, [], ◌∷◌, ap, subst, sym, ◌∙◌}
use Rattle.std.specs.Result.{is_ok}
use Rattle.explorer.specs.Stopping.{DeviceStopped}
use Rattle.explorer.proofs.CauseLemmas.{fell_later, handed_on, none_fell, stopped_later}
use Rattle.explorer.proofs.PerformLemmas.{Performs, line_at, performed, performs_first, performs_on}
use Rattle.explorer.proofs.performing.perform.Goals as goal

pub loop-line-init : goal.loop-line-init
loop-line-init g c =
    let d = g.D.Lines.state c.args.device.now in
    subst (λ done. Performs c.args.program.now c.args.host.now d 0 done c.args.host.now d) (sym c.new-done.ensures.items)
    (performs_first c.args.program.now c.args.host.now d c.requires.known (none_fell d.panel))

pub line_done-requires-clause-program : goal.line_done-requires-clause-program
line_done-requires-clause-program g c = line_at c.args.program.now c.loop-line.line-index c.line-item.result c.line-item.result c.loop-line-test.true c.line-item.is c.requires.program

pub loop-line-preserved : goal.loop-line-preserved
loop-line-preserved g c =
    let begun = g.D.Lines.state c.args.device.now in
    let old = g.D.Lines.state c.loop-line.device in
    let new = g.D.Lines.state c.line_done.new.device in
    let done = c.loop-line.done.items in
    let pushed : c.push.new.self.items ≡ done ++ c.in_ok-is_done.is_done ∷ [] =
    c.push.ensures.items ∙ ap (λ (b : Bool). cond b (done ++ c.in_ok-is_done.is_done ∷ []) done) (sym c.map_err.ensures.variant ∙ ap is_ok c.in_ok-map_err.was) in
    subst (λ items. Performs c.args.program.now c.args.host.now begun (c.loop-line.line-index + 1) items c.line_done.new.host new) (sym pushed)
    (performs_on c.args.program.now c.args.host.now c.loop-line.host c.line_done.new.host begun old new c.loop-line.line-index done c.line-item.result c.in_ok-is_done.is_done
    c.loop-line.invariant c.loop-line-test.true c.line-item.is c.in_ok-is_done.ensures.known
    (fell_later begun.panel old.panel new.panel c.loop-line.invariant.counts c.in_ok-is_done.ensures.counts) c.in_ok-is_done.ensures.done)

pub returns-clause-done : goal.returns-clause-done
returns-clause-done g c =
    performed c.args.program.now c.args.host.now c.loop-line.host (g.D.Lines.state c.args.device.now) (g.D.Lines.state c.loop-line.device) c.loop-line.line-index c.loop-line.done.items
    c.loop-line.invariant c.loop-line-test.false

pub returns-in_err-is_done-clause-cause : goal.returns-in_err-is_done-clause-cause
returns-in_err-is_done-clause-cause g c =
    let old = (g.D.Lines.state c.args.device.now).panel in
    let new = (g.D.Lines.state c.line_done.new.device).panel in
    handed_on (DeviceStopped old new) c.in_err-is_done.field-0.0 c.from_residual.result c.from_residual.ensures.1
    (λ is. stopped_later old (g.D.Lines.state c.loop-line.device).panel new c.loop-line.invariant.counts (c.in_err-is_done.ensures.cause is))
