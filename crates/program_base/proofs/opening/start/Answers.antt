use Rattle.std.proofs.Common.{refl, subst, sym}
use Rattle.image_file.specs.Devices.{image_of}
use Rattle.image_file.specs.Text.{snapshot_of}
use Rattle.image_file.proofs.ShownLemmas.{depicted}
use Rattle.line_device.specs.Device.{Depicts}
use Rattle.line_device.specs.Medium.{Medium}
use Rattle.program_base.proofs.OpenLemmas.{mounts}
use Rattle.program_base.proofs.opening.start.Goals as goal

pub returns-clause-mounts : goal.returns-clause-mounts
returns-clause-mounts g c =
    let mid = g.D.Lines.state c.install.new.device in
    let image = snapshot_of c.args.image.now in
    let is = c.in_ok-install.ensures.lines in
    let done = c.in_ok-mount.ensures in
    let shown = image_of image.unit image.lines in
    let shows : Depicts mid.medium shown = subst (λ (m : Medium). Depicts m shown) (sym is) (depicted image.unit image.lines) in
    mounts image c.in_ok-mount.field-0 (g.D.Lines.state c.args.device.now) mid (g.D.Lines.state c.mount.new.device)
    is c.in_ok-install.ensures.sets_up done.finds done.leaves.outside.count done.serves (done.stands shown shows refl) done.runs
