use Rattle.std.proofs.Common.{◌∙◌, not, sym, ap, subst}
use Rattle.std.specs.Option.{is_some}
use Rattle.inode_table.specs.Slots.{pages_at}
use Rattle.file_journal.specs.Object.{JournalState}
use Rattle.file_journal.specs.Tables.{AreTables}
use Rattle.machine_host.proofs.NewsLemmas.{byte_bad, ends_at, past_good}
use Rattle.machine_host.proofs.host.file_errors.is_bad_in.Goals as goal

pub returns-then-not-ends_past : goal.returns-then-not-ends_past
returns-then-not-ends_past g c = λ all file at. c.is_some.ensures ∙ ap is_some (c.next_bad.ensures.next all file at) ∙ byte_bad file.pages c.args.offset

pub returns-else-not-ends_past : goal.returns-else-not-ends_past
returns-else-not-ends_past g c = λ all file at.
    let s = c.args.files.now.journal in
    let m = (g.D.Lines.state c.args.device.now).medium in
    let pages = c.pages.ensures.pages ∙ ap (λ (j : JournalState). pages_at j.tables.files c.args.inode) c.journal.ensures in
    ap not c.if-not-ends_past.false ∙ sym (past_good file.pages c.args.offset (ends_at s m c.args.inode all file (subst (λ (j : JournalState). AreTables j.geo.fpages j.tables) c.journal.ensures c.pages.ensures.tables) at c.pages.result c.args.offset pages (sym c.ends_past.ensures ∙ c.if-not-ends_past.false)))
