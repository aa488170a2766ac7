use Rattle.std.proofs.Common.{arith}
use Rattle.file_journal.proofs.CheckLemmas.{meta_good, meta_within}
use Rattle.file_actions.proofs.checks.check_meta.Goals as goal

pub first_bad-requires : goal.first_bad-requires
first_bad-requires g c = omega (arith, meta_within c.args.geo, c.meta_lines.ensures.lines, c.requires.lines)

pub returns-in-None-clause-good : goal.returns-in-None-clause-good
returns-in-None-clause-good g c = meta_good c.args.geo (g.L.Lines.state c.args.dev.now).medium c.meta_lines.result c.meta_lines.ensures.lines c.in-None.ensures.line
