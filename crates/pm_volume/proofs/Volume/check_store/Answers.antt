use Rattle.pm_volume.proofs.PassLemmas.{storable, stores_checked}
use Rattle.pm_volume.proofs.Volume.check_store.Goals as goal

pub returns-clause-refused : goal.returns-clause-refused
returns-clause-refused g c =
    stores_checked _ c.args.self.now c.self.view_is _ c.lines-lines.ensures (g.L.Lines.state c.args.dev.now).medium c.args.span _ c.in_ok-check_extent.ensures.refused
    _ c.touches_absent.ensures c.in_ok-check_meta.ensures.refused c.check_lines.ensures.refused

pub returns-clause-storable : goal.returns-clause-storable
returns-clause-storable g c =
    let extent = c.in_ok-check_extent.ensures in
    storable _ c.args.self.now c.self.view_is _ c.lines-lines.ensures (g.L.Lines.state c.args.dev.now).medium c.args.span _ extent.some extent.within
    _ c.touches_absent.ensures c.in_ok-check_meta.ensures.good c.check_lines.ensures.refused
