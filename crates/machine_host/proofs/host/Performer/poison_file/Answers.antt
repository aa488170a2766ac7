use Rattle.std.proofs.Common.{◌≡◌, ◌&&◌, Bool, not, Some, None, is_ok, ap, refl, subst, sym, ◌∙◌, arith}
use Rattle.inode_table.specs.Slots.{inode_of}
use Rattle.file_journal.specs.Object.{JournalState}
use Rattle.scrub.specs.Refusals.{place_says}
use Rattle.reply_text.specs.Answer.{answer_of}
use Rattle.script_text.specs.Action.Action.{PoisonFile}
use Rattle.machine_host.specs.Responding.{Answered}
use Rattle.machine_host.specs.Stands.{HostState, HostServes}
use Rattle.machine_host.proofs.CallLemmas.{on_refused-then}
use Rattle.machine_host.proofs.FileNewsLemmas.{poison_told}
use Rattle.machine_host.proofs.FilePageLemmas.{missing_answered}
use Rattle.machine_host.proofs.InsideLemmas.{left_of}
use Rattle.machine_host.proofs.host.Performer.poison_file.Goals as goal
use Rattle.machine_host.proofs.host.Performer.poison_file.Goals.{then-is_ok, else-is_ok}

pub returns-in_default : goal.returns-in_default
returns-in_default g c =
    let name = c.args.name.now in
    let host = left_of c.self.view_is in
    let none : None ≡ inode_of name host.files.pages.journal.tables.files = c.in_default.ensures.value ∙ ap (λ (j : JournalState). inode_of name j.tables.files) c.journal.ensures in
    missing_answered c.args.self.now host _ name (PoisonFile name c.args.offset) c.self.view_is c.requires.on c.requires.serves none refl (λ h. refl) (omega arith)

pub returns : goal.returns
returns g c =
    let host = left_of c.self.view_is in
    let old = g.D.Lines.state c.args.device.now in
    let new = g.D.Lines.state c.poison_file-call.new.dev in
    let said = c.poison_file-call.ensures.marks in
    let r = c.poison_file-call.result in
    let name = c.args.name.now in
    let reserved = c.in_ok-reserve_event.ensures in
    let serves = subst (λ k. HostServes k old) (sym c.self.view_is) c.requires.serves in
    let on = ap (λ (k : HostState). k.mode) c.self.view_is ∙ c.requires.on in
    let here : inode_of name host.files.pages.journal.tables.files ≡ Some c.in-Some.inode = ap (λ (j : JournalState). inode_of name j.tables.files) (sym c.journal.ensures) ∙ sym c.in-Some.ensures.value in
    let was = c.is_bad_in-was_bad.result in
    let news : c.if-is_ok.is_news ≡ (is_ok r && not was) = elim c.if-is_ok.branch [
      | then-is_ok w ↦ w.is_news-is ∙ ap (λ (b : Bool). b && not was) (sym (sym c.is_ok.ensures.value ∙ w.if-is_ok.true))
      | else-is_ok w ↦ w.is_news-is ∙ w.if-is_ok.false ∙ ap (λ (b : Bool). b && not was) (sym (sym c.is_ok.ensures.value ∙ w.if-is_ok.false))
    ] in
    subst (λ (k : HostState). Answered (PoisonFile name c.args.offset) (answer_of c.marked.result) k (record host { files = c.tell_news.new.self }) old new) c.self.view_is
    (poison_told host old new on serves name c.in-Some.inode c.args.offset here c.reserve_event.new.self reserved.others reserved.items reserved.ok
    c.tell_news.new.self r was c.if-is_ok.is_news c.tell_news.ensures.others c.tell_news.ensures.items c.tell_news.ensures.spare c.is_bad_in-was_bad.ensures news reserved.spare c.tell_news.ensures.silent (answer_of c.marked.result) said.panel
    said.refused (on_refused-then place_says r (λ same. ap g.D.Lines.state same) said.untouched) said.ok said.outside said.serves c.marked.ensures)
