use Rattle.std.proofs.lemmas.Result.{IfErr-weaker, IfOk-weaker}
use Rattle.image_file.specs.Text.{snapshot_of}
use Rattle.program_base.proofs.OpenLemmas.{closed_unmounted}
use Rattle.program_base.proofs.opening.open.Goals as goal

pub returns-clause-ready : goal.returns-clause-ready
returns-clause-ready g c =
    IfOk-weaker c.start.result _ _ (λ host mounted. record { image = snapshot_of c.in_ok-image.image; held_there = c.in_ok-image.ensures.there; mounted = mounted }) c.start.ensures.mounts

pub returns-clause-cause : goal.returns-clause-cause
returns-clause-cause g c =
    IfErr-weaker c.start.result _ _ (λ ending unmounted. closed_unmounted c.args.units c.args.name.now (g.F.Images.held c.args.images.now) (snapshot_of c.in_ok-image.image) ending
    (g.F.Images.count c.args.images.now) (g.F.Images.count c.fetch.new.images) (g.D.Lines.state c.args.device.now).panel (g.D.Lines.state c.start.new.device).panel c.in_ok-image.ensures.there unmounted) c.start.ensures.cause
