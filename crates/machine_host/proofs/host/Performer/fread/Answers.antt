use Rattle.std.proofs.Common.{◌≡◌, None, refl, ap, ◌∙◌, arith}
use Rattle.inode_table.specs.Slots.{inode_of}
use Rattle.file_journal.specs.Object.{JournalState}
use Rattle.script_text.specs.Action.Action.{FRead}
use Rattle.machine_host.proofs.FilePageLemmas.{missing_answered}
use Rattle.machine_host.proofs.InsideLemmas.{left_of}
use Rattle.machine_host.proofs.host.Performer.fread.Goals as goal

pub returns-in-None : goal.returns-in-None
returns-in-None g c =
    let name = c.args.name.now in
    let host = left_of c.self.view_is in
    let none : None ≡ inode_of name host.files.pages.journal.tables.files = c.in-None.ensures.value ∙ ap (λ (j : JournalState). inode_of name j.tables.files) c.journal.ensures in (
      missing_answered c.args.self.now host _ name (FRead name c.args.offset c.args.len) c.self.view_is c.requires.on c.requires.serves
          none refl (λ h. refl) (omega arith),
      tt,
    )
