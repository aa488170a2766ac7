use Rattle.pm_volume.proofs.PassLemmas.{readable, reads_checked}
use Rattle.pm_volume.proofs.Volume.check_readable.Goals as goal

pub returns-clause-refused : goal.returns-clause-refused
returns-clause-refused g c =
    reads_checked _ c.args.self.now c.self.view_is _ c.lines-lines.ensures (g.L.Lines.state c.args.dev.now).medium c.args.span _ c.in_ok-check_extent.ensures.refused c.check_lines.ensures.refused

pub returns-clause-readable : goal.returns-clause-readable
returns-clause-readable g c =
    let extent = c.in_ok-check_extent.ensures in
    readable _ c.args.self.now c.self.view_is _ c.lines-lines.ensures (g.L.Lines.state c.args.dev.now).medium c.args.span _ extent.some extent.within c.check_lines.ensures.refused
