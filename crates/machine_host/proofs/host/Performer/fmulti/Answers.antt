use Rattle.std.proofs.Common.{◌≡◌, Some, None, refl, sym, ap, ◌∙◌, arith}
use Rattle.inode_table.specs.Slots.{inode_of}
use Rattle.file_journal.specs.Object.{JournalState}
use Rattle.script_text.specs.Action.Action.{FMulti}
use Rattle.machine_host.proofs.FileActionLemmas.{together_answered}
use Rattle.machine_host.proofs.FilePageLemmas.{missing_answered}
use Rattle.machine_host.proofs.InsideLemmas.{left_of}
use Rattle.machine_host.proofs.host.Performer.fmulti.Goals as goal

pub returns-in-Some : goal.returns-in-Some
returns-in-Some g c =
    let said = c.atomic_multiwrite-call.ensures in
    let host = left_of c.self.view_is in
    let name = c.args.name.now in
    let here : inode_of name host.files.pages.journal.tables.files ≡ Some c.in-Some.inode = ap (λ (j : JournalState). inode_of name j.tables.files) (sym c.journal.ensures) ∙ sym c.in-Some.ensures.value in
    together_answered g.D.Lines.state c.args.self.now host _ _ c.atomic_multiwrite-call.result name c.in-Some.inode _ _ c.self.view_is c.action_answer.ensures.state c.requires.on c.requires.serves here
    (FMulti name c.args.ranges.now c.args.bytes.now) c.args.ranges.now c.args.bytes.now refl refl
    (record {
      refused = said.refused;
      untouched = said.untouched;
      ok = said.ok;
      images = said.images;
      outside = said.outside;
      marks = said.metadata;
      serves = said.serves;
      tables = said.tables;
      names = said.files;
      object = said.object;
      held = said.held;
      runs = said.runs;
    })
    _ c.action_answer.ensures.answer

pub returns-in-None : goal.returns-in-None
returns-in-None g c =
    let name = c.args.name.now in
    let host = left_of c.self.view_is in
    let none : None ≡ inode_of name host.files.pages.journal.tables.files = c.in-None.ensures.value ∙ ap (λ (j : JournalState). inode_of name j.tables.files) c.journal.ensures in
    missing_answered c.args.self.now host _ name (FMulti name c.args.ranges.now c.args.bytes.now) c.self.view_is c.requires.on c.requires.serves none refl (λ h. refl) (omega arith)
