use Rattle.std.proofs.Common.{refl, rules, arith}
use Rattle.file_journal.proofs.CallLemmas.{refused_changes}
use Rattle.file_journal.proofs.ReplaceLemmas.{pages_at_most}
use Rattle.file_journal.proofs.RunLemmas.{few_runs, stopped_as}
use Rattle.file_journal.proofs.Journal.rename.Goals as goal

pub returns-in_err-inode : goal.returns-in_err-inode
returns-in_err-inode g c = record { changes = refused_changes _ _ _ _ _ _ _ _ (search rules) (search rules) c.requires.ready }

pub replace-requires-clause-set : goal.replace-requires-clause-set
replace-requires-clause-set g c =
    let few = pages_at_most _ _ c.in_ok-inode.ensures.table c.in_ok-inode.ensures.finds.within in
    record { name = c.in_ok-inode.ensures.may; pages = omega (arith, few, c.pages.ensures.pages) }

pub returns-in_err-replace : goal.returns-in_err-replace
returns-in_err-replace g c = search (rules, few_runs _ 0 _ _ _ _ (omega (arith, c.pages.ensures.pages)) (stopped_as _ _ c.from_residual-in_err-replace.ensures.1) c.in_err-replace.ensures.works.runs)

pub returns : goal.returns
returns g c = search (rules, few_runs _ 0 _ _ _ _ (omega (arith, c.pages.ensures.pages)) refl c.in_ok-replace.ensures.works.runs)
