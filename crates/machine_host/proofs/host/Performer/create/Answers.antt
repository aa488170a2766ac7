use Rattle.std.proofs.Common.{refl, ◌≡◌, ap, ◌∙◌, arith}
use Rattle.file_journal.specs.Object.{JournalState}
use Rattle.nvm_model.specs.Files.{new_file}
use Rattle.nvm_model.specs.Listing.{file_name, put_file}
use Rattle.machine_model.specs.Meaning.{no_reasons}
use Rattle.machine_model.specs.OnFiles.{if_exists, if_many_files, if_many_pages}
use Rattle.script_text.specs.Action.Action.{Create}
use Rattle.machine_host.proofs.FilesCallLemmas.{change_answered, files_called, sees_files}
use Rattle.machine_host.proofs.FilesFateLemmas.{fate_create, create_becomes, create_spares}
use Rattle.machine_host.proofs.InsideLemmas.{left_of, with_journal}
use Rattle.machine_host.proofs.host.Performer.create.Goals as goal
use Rattle.machine_host.proofs.WeakFileLemmas.{new-weak}

pub returns : goal.returns
returns g c =
    let said = c.create-call.ensures.changes in
    let now = c.args.self.now in
    let host = with_journal (left_of c.self.view_is) c.journal_mut.result.now in
    let inside : host ≡ now = ap (λ (j : JournalState). with_journal (left_of c.self.view_is) j) c.journal_mut.ensures.value ∙ c.self.view_is in
    let old = g.D.Lines.state c.args.device.now in
    change_answered now host _ _ c.create-call.result _ _ 5 (put_file file_name (new_file c.args.name.now c.args.pages)) old _ inside c.journal_answer.ensures.state c.requires.on c.requires.serves
    (files_called g.D.Lines.state host _ _ _ c.create-call.result _ _ 5 said)
    (λ are none. create_becomes host.files.pages.journal old.medium are c.args.name.now c.args.pages c.bytes-is_name.ensures.name none)
    (λ are none. create_spares host.files.pages.journal old.medium are c.args.name.now c.args.pages c.self.inside.files.mappings.mappings none)
    (λ files. let same = new-weak c.args.name.now c.args.pages files in omega (arith, same))
    (Create c.args.name.now c.args.pages) (λ h. record no_reasons { named = if_exists c.args.name.now h.files; places = if_many_pages c.args.pages; full = if_many_files h.files }) refl _
    (λ h stands. fate_create h host.files.pages.journal old.medium (sees_files now host old h inside c.requires.on c.requires.serves stands) c.args.name.now c.args.pages)
    c.journal_answer.ensures.answer tt
