use Rattle.std.proofs.Common.{◌≡◌, ◌∙◌, ◌/◌, sym, subst, arith}
use Rattle.inode_table.specs.Slots.{pages_at}
use Rattle.file_journal.specs.Object.{JournalState}
use Rattle.file_journal.specs.Tables.{AreTables}
use Rattle.marked_lines.proofs.ApartLemmas.{file_apart}
use Rattle.scrub.proofs.FilePlaceLemmas.{file_size}
use Rattle.machine_host.proofs.WeakMarkLemmas.{weak_nowhere, weak_past, weak_placed}
use Rattle.machine_host.proofs.host.file_errors.is_weak_in.Goals as goal

pub returns-then-offset-pages : goal.returns-then-offset-pages
returns-then-offset-pages g c = λ all file at.
    let s = c.args.files.now.journal in
    let m = (g.D.Lines.state c.args.device.now).medium in
    let are = subst (λ (j : JournalState). AreTables j.geo.fpages j.tables) c.journal.ensures c.pages.ensures.tables in
    let size = subst (λ (j : JournalState). c.pages.result ≡ pages_at j.tables.files c.args.inode) c.journal.ensures c.pages.ensures.pages in
    let long = file_size s m c.args.inode c.args.offset are all file at in
    sym (weak_past file.pages c.args.offset (omega (arith, size, long)))

pub is_weak-requires : goal.is_weak-requires
is_weak-requires g c =
    let s = c.args.files.now.journal in
    let are = subst (λ (j : JournalState). AreTables j.geo.fpages j.tables) c.journal.ensures c.pages.ensures.tables in
    (file_apart s (g.D.Lines.state c.args.device.now).medium c.args.inode are c.requires.inode c.requires.serves).on (c.args.offset / 64) c.in-Some.line.0 (sym c.in-Some.ensures.line)

pub returns-in-Some : goal.returns-in-Some
returns-in-Some g c = λ all file at.
    let s = c.args.files.now.journal in
    let m = (g.D.Lines.state c.args.device.now).medium in
    let are = subst (λ (j : JournalState). AreTables j.geo.fpages j.tables) c.journal.ensures c.pages.ensures.tables in
    c.is_weak.ensures ∙ weak_placed s m c.args.inode (c.args.offset / 64) are all file at c.in-Some.line.0 (g.met.D.Lines.sound c.args.device.now) (sym c.in-Some.ensures.line)

pub returns-in-None : goal.returns-in-None
returns-in-None g c = λ all file at.
    let s = c.args.files.now.journal in
    let m = (g.D.Lines.state c.args.device.now).medium in
    let are = subst (λ (j : JournalState). AreTables j.geo.fpages j.tables) c.journal.ensures c.pages.ensures.tables in
    sym (weak_nowhere s m c.args.inode (c.args.offset / 64) are all file at (sym c.in-None.ensures.line))
