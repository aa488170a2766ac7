use Rattle.volume_view.proofs.ShownLemmas.{weakening_shown}
use Rattle.volume_view.proofs.lines.ViewLines.weaken.Goals as goal

pub returns-clause-lines : goal.returns-clause-lines
returns-clause-lines g c =
    weakening_shown c.weaken.result c.args.self.now.set.now (g.L.Lines.state c.args.self.now.dev.now).medium (g.L.Lines.state c.weaken.new.self).medium c.args.line.0 c.behind-behind.result.0 c.requires c.behind-behind.ensures.shown c.weaken.ensures.lines
