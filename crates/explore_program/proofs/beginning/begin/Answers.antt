use Rattle.std.proofs.Common.{ap}
use Rattle.std.proofs.lemmas.Result.{err_from_is_err_and}
use Rattle.line_device.specs.Panel.{Panel}
use Rattle.image_file.specs.Text.{snapshot_of}
use Rattle.explore_program.specs.declared.stop.Stop.TheVariants as stops
use Rattle.explore_program.proofs.BeginLemmas.{at_start}
use Rattle.explore_program.proofs.CauseLemmas.{fell_disarmed, fell_opened, unanswered_later, unmounted_unanswered}
use Rattle.explore_program.proofs.beginning.begin.Goals as goal

pub returns-in_err-start-clause-cause : goal.returns-in_err-start-clause-cause
returns-in_err-start-clause-cause g c counted counts =
    let p = err_from_is_err_and c.from_residual.result c.from_residual.ensures.1 in
    let old = (g.D.Lines.state c.args.device.now).panel in
    let disarmed = (g.D.Lines.state c.disarm.new.self).panel in
    let new = (g.D.Lines.state c.start.new.device).panel in
    rw (p.1, p.2) (unanswered_later (stops.Early c.in_err-start.field-0.0) counted counts old disarmed new (fell_disarmed old disarmed c.disarm.ensures.panel)
    (unmounted_unanswered (snapshot_of c.args.image.now) c.in_err-start.field-0.0 counted counts disarmed new c.requires.image.right c.in_err-start.ensures.cause))

pub returns-clause-stands : goal.returns-clause-stands
returns-clause-stands g c =
    at_start (snapshot_of c.args.image.now) c.in_ok-start.field-0 (g.D.Lines.state c.disarm.new.self) (g.D.Lines.state c.start.new.device) c.in_ok-start.ensures.mounts
    (ap (λ (p : Panel). p.cut_armed) c.disarm.ensures.panel) (ap (λ (p : Panel). p.fail_armed) c.disarm.ensures.panel)

pub returns-clause-begins : goal.returns-clause-begins
returns-clause-begins g c = c.images_begin.ensures (snapshot_of c.args.image.now) c.requires.image

pub returns-clause-counts : goal.returns-clause-counts
returns-clause-counts g c =
    fell_opened (g.D.Lines.state c.args.device.now).panel (g.D.Lines.state c.disarm.new.self).panel (g.D.Lines.state c.start.new.device).panel c.disarm.ensures.panel c.in_ok-start.ensures.opens
