use Rattle.std.proofs.Common.{◌≡◌, ◌∙◌, Some, None, ap, sym, take, length}
use Rattle.inode_table.specs.Slots.{inode_of}
use Rattle.file_journal.specs.Object.{JournalState}
use Rattle.flush_engine.specs.Refusals.{flushed}
use Rattle.machine_host.specs.Stands.{HostState}
use Rattle.machine_host.proofs.FilePageLemmas.{right_now, room_now}
use Rattle.machine_host.proofs.FlushLemmas.{flush_told, mapped_found}
use Rattle.machine_host.proofs.HandleCallLemmas.{told_of}
use Rattle.machine_host.proofs.InsideLemmas.{left_of}
use Rattle.machine_host.proofs.host.Performer.flush_shared.Goals as goal
use Rattle.machine_host.proofs.LostLineLemmas.{holds_lost, none_flushed}

pub unreachable-requires : goal.unreachable-requires
unreachable-requires g c =
    let now = c.args.self.now in
    let told = told_of now.files.mappings.mappings c.args.handle c.args.info.now c.requires.told in
    let none : None ≡ inode_of c.args.info.now.name now.files.pages.journal.tables.files =
    c.in_default.ensures.value ∙ ap (λ (j : JournalState). inode_of c.args.info.now.name j.tables.files) c.journal.ensures ∙ ap (λ (k : HostState). inode_of c.args.info.now.name k.files.pages.journal.tables.files) c.self.view_is in
    mapped_found now (g.D.Lines.state c.args.device.now) c.args.handle c.args.info.now c.requires.on c.requires.serves told none

pub tell_flushed-requires-clause-room : goal.tell_flushed-requires-clause-room
tell_flushed-requires-clause-room g c =
    let now = c.args.self.now in
    let host = left_of c.self.view_is in
    let old = g.D.Lines.state c.args.device.now in
    let said = c.flush_file-call.ensures.said in
    let here : inode_of c.args.info.now.name host.files.pages.journal.tables.files ≡ Some c.in-Some.inode = ap (λ (j : JournalState). inode_of c.args.info.now.name j.tables.files) (sym c.journal.ensures) ∙ sym c.in-Some.ensures.value in
    holds_lost host c.flush_file-call.new.pages c.args.info.now.name c.in-Some.inode (take (length c.args.spans.now) c.all_moved-moved.result) old.medium (g.D.Lines.state c.flush_file-call.new.device).medium
    (right_now now host old c.self.view_is c.requires.on c.requires.serves) here (room_now now host old c.self.view_is c.requires.on c.requires.serves) said.object.0 (flushed c.flush_file-call.result)
    (λ files file at. none_flushed file.pages (take (length c.args.spans.now) c.all_moved-moved.result) (flushed c.flush_file-call.result) (said.refused files file at)) said.ok

pub returns : goal.returns
returns g c = λ action row wide.
    let now = c.args.self.now in
    let host = left_of c.self.view_is in
    let told = told_of now.files.mappings.mappings c.args.handle c.args.info.now c.requires.told in
    let here : inode_of c.args.info.now.name host.files.pages.journal.tables.files ≡ Some c.in-Some.inode = ap (λ (j : JournalState). inode_of c.args.info.now.name j.tables.files) (sym c.journal.ensures) ∙ sym c.in-Some.ensures.value in
    flush_told g.D.Lines.state now host c.flushed.new.self c.flush_file-call.new.pages c.tell_flushed.new.self c.flush_file-call.result c.args.handle c.in-Some.inode c.args.look c.args.spans.now
    (take (length c.args.spans.now) c.all_moved-moved.result) c.args.device.now c.flush_file-call.new.device _ c.args.info.now
    c.self.view_is c.requires.on c.requires.serves told c.requires.shared c.requires.right here c.all_moved-moved.ensures c.flushed.ensures.state
    c.flush_file-call.ensures.said c.tell_flushed.ensures.done c.tell_flushed.ensures.undone c.flushed.ensures.answer action row wide
