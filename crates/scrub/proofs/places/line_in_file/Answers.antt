use Rattle.std.proofs.Common.{◌≡◌, sym, subst, arith}
use Rattle.inode_table.specs.Slots.{pages_at}
use Rattle.file_journal.specs.Object.{JournalState}
use Rattle.file_journal.specs.Tables.{AreTables}
use Rattle.scrub.proofs.FilePlaceLemmas.{file_nowhere, file_there, past_file}
use Rattle.scrub.proofs.places.line_in_file.Goals as goal

pub returns-then-offset-pages-clause-refused : goal.returns-then-offset-pages-clause-refused
returns-then-offset-pages-clause-refused c m all file is =
    let s = c.args.files.now.journal in
    let size = subst (λ (j : JournalState). c.pages.result ≡ pages_at j.tables.files c.args.inode) c.journal-journal.ensures c.pages.ensures.pages in
    let are = subst (λ (j : JournalState). AreTables j.geo.fpages j.tables) c.journal-journal.ensures c.pages.ensures.tables in
    past_file s m c.args.inode c.args.offset are all file is (omega (arith, size))

pub returns-in-Some-clause-refused : goal.returns-in-Some-clause-refused
returns-in-Some-clause-refused c m all file is =
    let s = c.args.files.now.journal in
    let size = subst (λ (j : JournalState). c.pages.result ≡ pages_at j.tables.files c.args.inode) c.journal-journal.ensures c.pages.ensures.pages in
    let are = subst (λ (j : JournalState). AreTables j.geo.fpages j.tables) c.journal-journal.ensures c.pages.ensures.tables in
    file_there s m c.args.inode c.args.offset are all file is c.in-Some.line (omega (arith, size)) (sym c.in-Some.ensures.line)

pub returns-in-None-clause-refused : goal.returns-in-None-clause-refused
returns-in-None-clause-refused c m all file is =
    let s = c.args.files.now.journal in
    let size = subst (λ (j : JournalState). c.pages.result ≡ pages_at j.tables.files c.args.inode) c.journal-journal.ensures c.pages.ensures.pages in
    let are = subst (λ (j : JournalState). AreTables j.geo.fpages j.tables) c.journal-journal.ensures c.pages.ensures.tables in
    file_nowhere s m c.args.inode c.args.offset are all file is (omega (arith, size)) (sym c.in-None.ensures.line)
