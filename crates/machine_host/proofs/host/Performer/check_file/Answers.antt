use Rattle.std.proofs.Common.{◌≡◌, Some, None, ap, refl, sym, ◌∙◌, arith}
use Rattle.inode_table.specs.Slots.{inode_of}
use Rattle.file_journal.specs.Object.{JournalState}
use Rattle.marked_lines.specs.Spans.{lines_says}
use Rattle.marked_lines.specs.Spans.SpanRefusal.{Range, Length}
use Rattle.script_text.specs.Action.Action.{CheckFile}
use Rattle.machine_host.proofs.FileCheckLemmas.{check_done, check_refused}
use Rattle.machine_host.proofs.FilePageLemmas.{missing_answered}
use Rattle.machine_host.proofs.InsideLemmas.{left_of}
use Rattle.machine_host.proofs.host.Performer.check_file.Goals as goal

pub returns-in_default : goal.returns-in_default
returns-in_default g c =
    let name = c.args.name.now in
    let host = left_of c.self.view_is in
    let none : None ≡ inode_of name host.files.pages.journal.tables.files = c.in_default.ensures.value ∙ ap (λ (j : JournalState). inode_of name j.tables.files) c.journal.ensures in
    missing_answered c.args.self.now host _ name (CheckFile name c.args.span.start c.args.span.len) c.self.view_is c.requires.on c.requires.serves none refl (λ h. refl) (omega arith)

pub returns-in-Ok : goal.returns-in-Ok
returns-in-Ok g c =
    let name = c.args.name.now in
    let host = left_of c.self.view_is in
    let here : inode_of name host.files.pages.journal.tables.files ≡ Some c.in-Some.inode = ap (λ (j : JournalState). inode_of name j.tables.files) (sym c.journal.ensures) ∙ sym c.in-Some.ensures.value in
    check_done c.args.self.now host _ c.self.view_is c.requires.on c.requires.serves name c.in-Some.inode c.in-Some.ensures.within here c.args.span c.in-Ok.offsets c.in-Ok.offsets.items c.in-Ok.ensures.refused c.in-Ok.ensures.ok

pub returns-in-Err-Range : goal.returns-in-Err-Range
returns-in-Err-Range g c =
    let name = c.args.name.now in
    let host = left_of c.self.view_is in
    let here : inode_of name host.files.pages.journal.tables.files ≡ Some c.in-Some.inode = ap (λ (j : JournalState). inode_of name j.tables.files) (sym c.journal.ensures) ∙ sym c.in-Some.ensures.value in
    check_refused c.args.self.now host _ c.self.view_is c.requires.on c.requires.serves name c.in-Some.inode c.in-Some.ensures.within here c.args.span _ c.in-Err-Range.field-0 Range (ap lines_says c.in-Err-Range.field-0-is) c.in-Err-Range.ensures.refused

pub returns-in-Err-Length : goal.returns-in-Err-Length
returns-in-Err-Length g c =
    let name = c.args.name.now in
    let host = left_of c.self.view_is in
    let here : inode_of name host.files.pages.journal.tables.files ≡ Some c.in-Some.inode = ap (λ (j : JournalState). inode_of name j.tables.files) (sym c.journal.ensures) ∙ sym c.in-Some.ensures.value in
    check_refused c.args.self.now host _ c.self.view_is c.requires.on c.requires.serves name c.in-Some.inode c.in-Some.ensures.within here c.args.span _ c.in-Err-Length.field-0 Length (ap lines_says c.in-Err-Length.field-0-is) c.in-Err-Length.ensures.refused
