use Rattle.volume_view.proofs.ShownLemmas.{stored_shown}
use Rattle.volume_view.proofs.lines.ViewLines.store.Goals as goal

pub returns-in-Ok-clause-lines : goal.returns-in-Ok-clause-lines
returns-in-Ok-clause-lines g c =
    stored_shown c.args.self.now.set.now (g.L.Lines.state c.args.self.now.dev.now).medium (g.L.Lines.state c.store.new.self).medium c.args.line.0 c.behind-behind.result.0 c.args.at c.args.bytes.now c.requires.within c.behind-behind.ensures.shown c.in-Ok.ensures.lines
