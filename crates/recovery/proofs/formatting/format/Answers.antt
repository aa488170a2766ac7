use Rattle.recovery.proofs.FreshLemmas.{fresh_installed}
use Rattle.recovery.proofs.formatting.format.Goals as goal

pub returns-clause-ok : goal.returns-clause-ok
returns-clause-ok g c =
    fresh_installed c.install.result c.args.geo _ _ _ _ c.requires c.total_lines.ensures.lines c.in_ok-reset.ensures.lines c.install.ensures.lines
    c.superblock_line.ensures
