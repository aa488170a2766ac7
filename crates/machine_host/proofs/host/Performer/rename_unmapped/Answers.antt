use Rattle.std.proofs.Common.{refl, ◌≡◌, ap, ◌∙◌}
use Rattle.file_journal.specs.Object.{JournalState}
use Rattle.nvm_model.specs.Blocks.{first_there}
use Rattle.nvm_model.specs.Files.{with_name}
use Rattle.nvm_model.specs.Listing.{file_name, rename_file}
use Rattle.nvm_model.specs.Mappings.{is_mapped}
use Rattle.machine_model.specs.Meaning.{no_reasons}
use Rattle.machine_model.specs.OnFiles.{if_exists, if_mapped, if_missing}
use Rattle.machine_host.specs.Stands.{HostState}
use Rattle.script_text.specs.Action.Action.{Rename}
use Rattle.machine_host.proofs.FilesCallLemmas.{change_answered, files_called, free_seen, sees_files}
use Rattle.machine_host.proofs.FilesFateLemmas.{fate_rename, rename_becomes, rename_spares}
use Rattle.machine_host.proofs.InsideLemmas.{left_of, with_journal}
use Rattle.machine_host.proofs.host.Performer.rename_unmapped.Goals as goal
use Rattle.machine_host.proofs.WeakFileLemmas.{rename-weak}

pub returns : goal.returns
returns g c =
    let said = c.rename-call.ensures.changes in
    let now = c.args.self.now in
    let host = with_journal (left_of c.self.view_is) c.journal_mut.result.now in
    let inside : host ≡ now = ap (λ (j : JournalState). with_journal (left_of c.self.view_is) j) c.journal_mut.ensures.value ∙ c.self.view_is in
    let free = ap (λ (k : HostState). is_mapped c.args.name.now k.files.mappings.mappings) inside ∙ c.requires.free in
    let old = g.D.Lines.state c.args.device.now in
    change_answered now host _ _ c.rename-call.result _ _ 5 (rename_file file_name c.args.name.now (with_name c.args.to.now)) old _ inside c.journal_answer.ensures.state c.requires.on c.requires.serves
    (files_called g.D.Lines.state host _ _ _ c.rename-call.result _ _ 5 said)
    (λ are none. rename_becomes host.files.pages.journal old.medium are c.args.name.now c.args.to.now c.bytes-is_name.ensures.name none)
    (λ are none. rename_spares host.files.pages.journal old.medium are c.args.name.now c.args.to.now c.self.inside.files.mappings.mappings free none)
    (rename-weak c.args.name.now c.args.to.now)
    (Rename c.args.name.now c.args.to.now) (λ h. record no_reasons { named = first_there (if_missing c.args.name.now h.files) (first_there (if_exists c.args.to.now h.files) (if_mapped c.args.name.now h.mappings)) }) refl _
    (λ h stands. fate_rename h host.files.pages.journal old.medium (sees_files now host old h inside c.requires.on c.requires.serves stands) c.args.name.now c.args.to.now (free_seen c.args.name.now now old h c.requires.on stands c.requires.free))
    c.journal_answer.ensures.answer tt
