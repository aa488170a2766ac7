use Rattle.volume_view.proofs.ShownLemmas.{cleared_shown}
use Rattle.volume_view.proofs.lines.ViewLines.clear.Goals as goal

pub returns-in-Ok-clause-lines : goal.returns-in-Ok-clause-lines
returns-in-Ok-clause-lines g c =
    cleared_shown c.args.self.now.set.now (g.L.Lines.state c.args.self.now.dev.now).medium (g.L.Lines.state c.clear.new.self).medium c.args.line.0 c.behind-behind.result.0 c.requires.within c.behind-behind.ensures.shown c.in-Ok.ensures.lines
