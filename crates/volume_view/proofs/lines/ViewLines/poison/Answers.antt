use Rattle.volume_view.proofs.ShownLemmas.{poisoned_shown}
use Rattle.volume_view.proofs.lines.ViewLines.poison.Goals as goal

pub returns-clause-lines : goal.returns-clause-lines
returns-clause-lines g c =
    poisoned_shown c.args.self.now.set.now (g.L.Lines.state c.args.self.now.dev.now).medium (g.L.Lines.state c.poison.new.self).medium c.args.line.0 c.behind-behind.result.0 c.requires c.behind-behind.ensures.shown c.poison.ensures.lines
