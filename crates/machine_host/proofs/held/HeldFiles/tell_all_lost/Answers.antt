use Rattle.std.proofs.Common.{◌*◌, sym, ap, ◌∙◌, subst, arith}
use Rattle.file_journal.specs.Object.{JournalState}
use Rattle.file_journal.specs.Tables.{AreTables}
use Rattle.inode_table.specs.Slots.{pages_at}
use Rattle.machine_host.specs.Flushing.{HoldsLost, LinesTold}
use Rattle.machine_host.proofs.WholeFileLemmas.{first_bytes, holds_whole, told_none, told_whole}
use Rattle.machine_host.proofs.held.HeldFiles.tell_all_lost.Goals as goal

pub tell_lost-requires-clause-room : goal.tell_lost-requires-clause-room
tell_lost-requires-clause-room g c =
    let f = c.args.self.now in
    let m = (g.D.Lines.state c.args.device.now).medium in
    let right = subst (λ (j : JournalState). AreTables j.geo.fpages j.tables) c.journal.ensures c.pages-size.ensures.tables in
    let size = c.pages-size.ensures.pages ∙ ap (λ (j : JournalState). pages_at j.tables.files c.args.inode) c.journal.ensures in
    subst (λ n. HoldsLost f m c.args.inode (first_bytes (4096 * n))) (sym size) (holds_whole m c.args.inode f right c.requires.inode c.requires.room)

pub returns-then-size-gt0 : goal.returns-then-size-gt0
returns-then-size-gt0 g c =
    let f = c.args.self.now in
    let m = (g.D.Lines.state c.args.device.now).medium in
    let right = subst (λ (j : JournalState). AreTables j.geo.fpages j.tables) c.journal.ensures c.pages-size.ensures.tables in
    let size = c.pages-size.ensures.pages ∙ ap (λ (j : JournalState). pages_at j.tables.files c.args.inode) c.journal.ensures in
    told_whole m c.args.inode f right c.requires.inode c.args.name.now c.tell_lost.new.self
    (subst (λ n. LinesTold c.args.name.now c.args.inode (first_bytes (4096 * n)) m f c.tell_lost.new.self) size c.tell_lost.ensures)

pub returns-else-size-gt0 : goal.returns-else-size-gt0
returns-else-size-gt0 g c =
    let f = c.args.self.now in
    let m = (g.D.Lines.state c.args.device.now).medium in
    let right = subst (λ (j : JournalState). AreTables j.geo.fpages j.tables) c.journal.ensures c.pages-size.ensures.tables in
    let size = c.pages-size.ensures.pages ∙ ap (λ (j : JournalState). pages_at j.tables.files c.args.inode) c.journal.ensures in
    told_none m c.args.inode f right c.requires.inode c.args.name.now _ (omega (arith, size, c.if-size-gt0.false))
