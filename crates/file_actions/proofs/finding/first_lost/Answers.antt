use Rattle.std.proofs.Common.{ap, sym, subst, ◌∙◌, arith}
use Rattle.inode_table.specs.Slots.{pages_at}
use Rattle.file_journal.specs.Object.{JournalState}
use Rattle.file_journal.specs.Tables.{AreTables}
use Rattle.file_journal.proofs.ReplaceLemmas.{pages_at_most}
use Rattle.file_actions.proofs.KeptLemmas.{lost_first, lost_none}
use Rattle.file_actions.proofs.finding.first_lost.Goals as goal

pub returns-then-is_lost-clause-lost : goal.returns-then-is_lost-clause-lost
returns-then-is_lost-clause-lost g c = λ files file at.
    let s = c.args.files.now.journal in
    let m = (g.L.Lines.state c.args.dev.now).medium in
    let are = subst (λ (j : JournalState). AreTables j.geo.fpages j.tables) c.journal.ensures c.pages.ensures.tables in
    let pages = c.pages.ensures.pages ∙ ap (λ (j : JournalState). pages_at j.tables.files c.args.inode) c.journal.ensures in
    lost_first s m c.args.inode are c.args.ranges.now files file at c.loop-n.n (omega (arith, c.loop-n-test.true, c.loop-n.auto.n-end, pages))
    (c.loop-n.invariant files file at) (sym (c.if-is_lost.ensures.lost files file at))

pub returns-then-is_lost-clause-small : goal.returns-then-is_lost-clause-small
returns-then-is_lost-clause-small g c =
    let s = c.args.files.now.journal in
    let are = subst (λ (j : JournalState). AreTables j.geo.fpages j.tables) c.journal.ensures c.pages.ensures.tables in
    let pages = c.pages.ensures.pages ∙ ap (λ (j : JournalState). pages_at j.tables.files c.args.inode) c.journal.ensures in
    omega (arith, c.loop-n-test.true, c.loop-n.auto.n-end, pages, pages_at_most s.tables.files c.args.inode are.names c.requires.inode)

pub returns-clause-lost : goal.returns-clause-lost
returns-clause-lost g c = λ files file at.
    let s = c.args.files.now.journal in
    let m = (g.L.Lines.state c.args.dev.now).medium in
    let are = subst (λ (j : JournalState). AreTables j.geo.fpages j.tables) c.journal.ensures c.pages.ensures.tables in
    let pages = c.pages.ensures.pages ∙ ap (λ (j : JournalState). pages_at j.tables.files c.args.inode) c.journal.ensures in
    lost_none s m c.args.inode are c.args.ranges.now files file at c.loop-n.n (omega (arith, c.loop-n-test.false, c.loop-n.auto.n-end, pages)) (c.loop-n.invariant files file at)
