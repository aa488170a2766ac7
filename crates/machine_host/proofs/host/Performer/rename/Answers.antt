use Rattle.std.proofs.Common.{◌∙◌, ap, sym}
use Rattle.inode_table.specs.Slots.{inode_of}
use Rattle.file_journal.specs.Object.{JournalState}
use Rattle.nvm_model.specs.Mappings.{is_mapped}
use Rattle.machine_host.specs.Stands.{HostState}
use Rattle.machine_host.proofs.MappedFateLemmas.{exists_answered, renamed_answered}
use Rattle.machine_host.proofs.host.Performer.rename.Goals as goal

pub returns-then-is_some : goal.returns-then-is_some
returns-then-is_some g c =
    exists_answered c.args.self.now _ c.requires.on c.requires.serves c.args.name.now
    (ap (λ (k : HostState). is_mapped c.args.name.now k.files.mappings.mappings) (sym c.self.view_is) ∙ sym c.has.ensures ∙ c.if-not-has.false)
    c.args.to.now c.find.result (c.find.ensures.value ∙ ap (λ (j : JournalState). inode_of c.args.to.now j.tables.files) c.journal.ensures
    ∙ ap (λ (k : HostState). inode_of c.args.to.now k.files.pages.journal.tables.files) c.self.view_is)
    (sym c.is_some.ensures ∙ c.if-is_some.true)

pub returns : goal.returns
returns g c =
    renamed_answered c.args.self.now _ c.requires.on c.requires.serves c.args.name.now
    (ap (λ (k : HostState). is_mapped c.args.name.now k.files.mappings.mappings) (sym c.self.view_is) ∙ sym c.has.ensures ∙ c.if-not-has.false)
    c.args.to.now c.find.result (c.find.ensures.value ∙ ap (λ (j : JournalState). inode_of c.args.to.now j.tables.files) c.journal.ensures
    ∙ ap (λ (k : HostState). inode_of c.args.to.now k.files.pages.journal.tables.files) c.self.view_is)
    (sym c.is_some.ensures ∙ c.if-is_some.false)
