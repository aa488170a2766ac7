use Rattle.std.proofs.Common.{◌≡◌, ◌*◌, Some, ap, ◌∙◌}
use Rattle.inode_table.specs.Slots.{inode_of, pages_at}
use Rattle.file_journal.specs.Object.{JournalState}
use Rattle.machine_model.specs.Meaning.{most_refusal}
use Rattle.machine_host.specs.Stands.{HostState}
use Rattle.machine_host.proofs.FilePageLemmas.{misread_answered}
use Rattle.machine_host.proofs.InsideLemmas.{left_of}
use Rattle.machine_host.proofs.host.Performer.fread_at.Goals as goal

pub returns-in-Some : goal.returns-in-Some
returns-in-Some g c =
    let name = c.args.name.now in
    let host = left_of c.self.view_is in
    let here : inode_of name host.files.pages.journal.tables.files ≡ Some c.args.inode = ap (λ (k : HostState). inode_of name k.files.pages.journal.tables.files) c.self.view_is ∙ c.requires.named in (
      misread_answered c.args.self.now host _ name c.args.inode c.args.offset c.args.len c.in-Some.why c.self.view_is c.requires.on c.requires.serves here
          (c.in-Some.ensures
          ∙ ap (λ n. most_refusal 65536 (4096 * n) c.args.offset c.args.len) (c.pages-size.ensures.pages ∙ ap (λ (j : JournalState). pages_at j.tables.files c.args.inode) c.journal.ensures)),
      tt,
    )
