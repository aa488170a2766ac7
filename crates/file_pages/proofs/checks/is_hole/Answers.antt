use Rattle.std.proofs.Common.{is_some, sym, ap, ◌∙◌}
use Rattle.file_pages.proofs.HoleLemmas.{negated, page_there}
use Rattle.file_pages.proofs.checks.is_hole.Goals as goal

pub returns-clause-there : goal.returns-clause-there
returns-clause-there c =
    negated c.is_none.result _ (sym c.is_none.ensures ∙ ap is_some c.unit.ensures.unit ∙ page_there c.args.journal.now c.args.inode c.args.page c.requires.within)
