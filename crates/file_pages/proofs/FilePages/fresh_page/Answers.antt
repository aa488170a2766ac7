use Rattle.std.proofs.Common.{◌+◌, ◌*◌, drop, take, subst}
use Rattle.nvm_model.specs.Cell.{CellStands}
use Rattle.page_lines.specs.Turns.{WritesBackOthers}
use Rattle.word_tables.specs.Layout.{file_line}
use Rattle.file_journal.specs.Object.{JournalState}
use Rattle.file_pages.specs.Fresh.{IsOfUnit, durable_cell}
use Rattle.file_pages.specs.Object.{PagesState}
use Rattle.file_pages.proofs.FilePages.fresh_page.Goals as goal

pub returns-in-Ok-clause-lines : goal.returns-in-Ok-clause-lines
returns-in-Ok-clause-lines g c = λ k below.
    let new = (g.L.Lines.state c.renew_unit.new.dev).medium in
    let unit = c.take-unit.result in
    subst (λ (p : PagesState). CellStands new (file_line p.journal.geo unit + k) (durable_cell (take 64 (drop (64 * k) c.args.bytes.now)))) c.self.view_is
    (subst (λ (j : JournalState). CellStands new (file_line j.geo unit + k) (durable_cell (take 64 (drop (64 * k) c.args.bytes.now)))) c.take-unit.ensures.takes.after (c.in-Ok.ensures.lines k below))

pub returns-in-Ok-clause-beside : goal.returns-in-Ok-clause-beside
returns-in-Ok-clause-beside g c =
    let old = (g.L.Lines.state c.args.dev.now).medium in
    let new = (g.L.Lines.state c.renew_unit.new.dev).medium in
    let unit = c.take-unit.result in
    subst (λ (p : PagesState). WritesBackOthers (IsOfUnit (file_line p.journal.geo unit)) old new) c.self.view_is
    (subst (λ (j : JournalState). WritesBackOthers (IsOfUnit (file_line j.geo unit)) old new) c.take-unit.ensures.takes.after c.in-Ok.ensures.beside)
