use Rattle.std.proofs.Common.{◌≡◌, ◌∙◌, Some, None, refl, sym, ap, arith}
use Rattle.inode_table.specs.Slots.{inode_of}
use Rattle.file_journal.specs.Object.{JournalState}
use Rattle.file_actions.specs.Refusals.{all_bytes}
use Rattle.script_text.specs.Action.Action.{FSync}
use Rattle.machine_host.proofs.FilePageLemmas.{missing_answered, right_now, room_now}
use Rattle.machine_host.proofs.FileSyncLemmas.{fsync_told, none_synced}
use Rattle.machine_host.proofs.LostLineLemmas.{holds_lost}
use Rattle.machine_host.proofs.InsideLemmas.{left_of}
use Rattle.machine_host.proofs.host.Performer.fsync.Goals as goal

pub tell_synced-requires-clause-room : goal.tell_synced-requires-clause-room
tell_synced-requires-clause-room g c =
    let now = c.args.self.now in
    let host = left_of c.self.view_is in
    let old = g.D.Lines.state c.args.device.now in
    let said = c.sync-call.ensures in
    let name = c.args.name.now in
    let here : inode_of name host.files.pages.journal.tables.files ≡ Some c.in-Some.inode = ap (λ (j : JournalState). inode_of name j.tables.files) (sym c.journal.ensures) ∙ sym c.in-Some.ensures.value in
    holds_lost host c.sync-call.new.files name c.in-Some.inode all_bytes old.medium (g.D.Lines.state c.sync-call.new.dev).medium
    (right_now now host old c.self.view_is c.requires.on c.requires.serves) here (room_now now host old c.self.view_is c.requires.on c.requires.serves) said.object.0 c.sync-call.result
    (λ files file at. none_synced file.pages c.sync-call.result (said.refused files file at)) said.ok

pub returns-in-Some : goal.returns-in-Some
returns-in-Some g c =
    let host = left_of c.self.view_is in
    let said = c.sync-call.ensures in
    let name = c.args.name.now in
    let here : inode_of name host.files.pages.journal.tables.files ≡ Some c.in-Some.inode = ap (λ (j : JournalState). inode_of name j.tables.files) (sym c.journal.ensures) ∙ sym c.in-Some.ensures.value in
    fsync_told g.D.Lines.state c.args.self.now host c.action_answer.new.self c.sync-call.new.files c.tell_synced.new.self c.sync-call.result name c.in-Some.inode c.args.device.now c.sync-call.new.dev _
    c.self.view_is c.requires.on c.requires.serves here c.action_answer.ensures.state said.refused said.untouched said.ok said.images said.outside said.metadata said.serves said.object said.runs
    c.tell_synced.ensures.done c.tell_synced.ensures.undone c.action_answer.ensures.answer

pub returns-in-None : goal.returns-in-None
returns-in-None g c =
    let name = c.args.name.now in
    let host = left_of c.self.view_is in
    let none : None ≡ inode_of name host.files.pages.journal.tables.files = c.in-None.ensures.value ∙ ap (λ (j : JournalState). inode_of name j.tables.files) c.journal.ensures in
    missing_answered c.args.self.now host _ name (FSync name) c.self.view_is c.requires.on c.requires.serves none refl (λ h. refl) (omega arith)
