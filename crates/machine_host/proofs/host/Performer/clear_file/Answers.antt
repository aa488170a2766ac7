use Rattle.std.proofs.Common.{◌≡◌, Some, None, ap, refl, sym, ◌∙◌, arith}
use Rattle.inode_table.specs.Slots.{inode_of}
use Rattle.file_journal.specs.Object.{JournalState}
use Rattle.scrub.specs.Refusals.{scrub_says}
use Rattle.script_text.specs.Action.Action.{ClearFile}
use Rattle.machine_host.specs.Faults.{mode_after}
use Rattle.machine_host.specs.Stands.{HostState}
use Rattle.machine_host.proofs.CallLemmas.{on_refused-then}
use Rattle.machine_host.proofs.FileErrorLemmas.{clear_answered}
use Rattle.machine_host.proofs.FilePageLemmas.{missing_answered}
use Rattle.machine_host.proofs.InsideLemmas.{left_of}
use Rattle.machine_host.proofs.host.Performer.clear_file.Goals as goal

pub returns-in-Some : goal.returns-in-Some
returns-in-Some g c =
    let host = left_of c.self.view_is in
    let said = c.clear_file-call.ensures in
    let r = c.clear_file-call.result in
    let name = c.args.name.now in
    let here : inode_of name host.files.pages.journal.tables.files ≡ Some c.in-Some.inode = ap (λ (j : JournalState). inode_of name j.tables.files) (sym c.journal.ensures) ∙ sym c.in-Some.ensures.value in
    clear_answered c.args.self.now host _ r name c.in-Some.inode c.args.offset (g.D.Lines.state c.args.device.now) (g.D.Lines.state c.clear_file-call.new.dev) c.self.view_is
    (c.cleared.ensures.state ∙ ap (λ (k : HostState). record k { mode = mode_after scrub_says r }) (sym c.self.view_is)) c.requires.on c.requires.serves here
    (on_refused-then scrub_says r (λ same. ap g.D.Lines.state same) said.untouched) said.ok said.images said.outside said.metadata said.serves said.runs
    _ said.refused c.cleared.ensures.answer

pub returns-in-None : goal.returns-in-None
returns-in-None g c =
    let name = c.args.name.now in
    let host = left_of c.self.view_is in
    let none : None ≡ inode_of name host.files.pages.journal.tables.files = c.in-None.ensures.value ∙ ap (λ (j : JournalState). inode_of name j.tables.files) c.journal.ensures in
    missing_answered c.args.self.now host _ name (ClearFile name c.args.offset) c.self.view_is c.requires.on c.requires.serves none refl (λ h. refl) (omega arith)
