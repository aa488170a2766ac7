use Rattle.std.proofs.Common.{sym, ◌∙◌}
use Rattle.page_lines.proofs.TurnLemmas.{bad-persisted}
use Rattle.page_lines.proofs.persisting.persist_one.Goals as goal

pub returns-then-is_bad-clause-lines : goal.returns-then-is_bad-clause-lines
returns-then-is_bad-clause-lines g c = bad-persisted _ c.args.line (g.met.L.Lines.sound c.args.dev.now) (sym c.is_bad.ensures ∙ c.if-is_bad.true)
