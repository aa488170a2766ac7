use Rattle.std.proofs.Common.{refl, ◌≡◌, ap, ◌∙◌}
use Rattle.file_journal.specs.Object.{JournalState}
use Rattle.nvm_model.specs.Listing.{file_name, without_file}
use Rattle.nvm_model.specs.Mappings.{is_mapped}
use Rattle.nvm_model.specs.Blocks.{first_there}
use Rattle.machine_model.specs.Meaning.{no_reasons}
use Rattle.machine_model.specs.OnFiles.{if_mapped, if_missing}
use Rattle.machine_host.specs.Stands.{HostState}
use Rattle.script_text.specs.Action.Action.{Delete}
use Rattle.machine_host.proofs.FilesCallLemmas.{change_answered, files_called, files_of_device, free_seen, sees_files}
use Rattle.machine_host.proofs.FilesFateLemmas.{fate_delete, delete_becomes}
use Rattle.machine_host.proofs.MappedLemmas.{spares-delete}
use Rattle.machine_host.proofs.InsideLemmas.{left_of, with_journal}
use Rattle.machine_host.proofs.host.Performer.delete_unmapped.Goals as goal
use Rattle.machine_host.proofs.WeakFileLemmas.{without-weak}

pub returns : goal.returns
returns g c =
    let said = c.delete-call.ensures.changes in
    let now = c.args.self.now in
    let host = with_journal (left_of c.self.view_is) c.journal_mut.result.now in
    let inside : host ≡ now = ap (λ (j : JournalState). with_journal (left_of c.self.view_is) j) c.journal_mut.ensures.value ∙ c.self.view_is in
    let free = ap (λ (k : HostState). is_mapped c.args.name.now k.files.mappings.mappings) inside ∙ c.requires.free in
    let old = g.D.Lines.state c.args.device.now in
    change_answered now host _ _ c.delete-call.result _ _ 261 (without_file file_name c.args.name.now) old _ inside c.journal_answer.ensures.state c.requires.on c.requires.serves
    (files_called g.D.Lines.state host _ _ _ c.delete-call.result _ _ 261 said)
    (λ are none. delete_becomes host.files.pages.journal old.medium are c.args.name.now)
    (λ are none. spares-delete (files_of_device host.files.pages.journal old.medium) c.args.name.now c.self.inside.files.mappings.mappings free)
    (without-weak c.args.name.now)
    (Delete c.args.name.now) (λ h. record no_reasons { named = first_there (if_missing c.args.name.now h.files) (if_mapped c.args.name.now h.mappings) }) refl _
    (λ h stands. fate_delete h host.files.pages.journal old.medium (sees_files now host old h inside c.requires.on c.requires.serves stands) c.args.name.now (free_seen c.args.name.now now old h c.requires.on stands c.requires.free))
    c.journal_answer.ensures.answer tt
