use Rattle.std.proofs.Common.{◌≡◌, Some, None, Err, ap, refl, subst, sym, ◌∙◌, arith}
use Rattle.std.proofs.lemmas.Result.{err_from_is_err_and}
use Rattle.inode_table.specs.Slots.{inode_of}
use Rattle.file_journal.specs.Object.{JournalState}
use Rattle.scrub.specs.Refusals.{weaken_says}
use Rattle.script_text.specs.Action.Action.{WeakenFile}
use Rattle.machine_model.specs.Meaning.Starved.{WrittenBack}
use Rattle.machine_host.specs.Responding.{Responds}
use Rattle.machine_host.specs.Stands.{HostState, HostServes}
use Rattle.machine_host.specs.declared.held.HeldFiles.{HeldFiles}
use Rattle.machine_host.proofs.CallLemmas.{on_refused-then}
use Rattle.machine_host.proofs.FileNewsLemmas.{weaken_starved, weaken_told}
use Rattle.machine_host.proofs.FilePageLemmas.{missing_answered}
use Rattle.machine_host.proofs.StepLemmas.{leaves_all}
use Rattle.machine_host.proofs.WeakenLemmas.{weaken_responds}
use Rattle.machine_host.proofs.InsideLemmas.{left_of}
use Rattle.machine_host.proofs.host.Performer.weaken_file.Goals as goal

pub returns-in_default : goal.returns-in_default
returns-in_default g c =
    let name = c.args.name.now in
    let host = left_of c.self.view_is in
    let none : None ≡ inode_of name host.files.pages.journal.tables.files = c.in_default.ensures.value ∙ ap (λ (j : JournalState). inode_of name j.tables.files) c.journal.ensures in
    missing_answered c.args.self.now host _ name (WeakenFile name c.args.offset) c.self.view_is c.requires.on c.requires.serves none refl (λ h. refl) (omega arith)

pub returns-in_err-reserve_event : goal.returns-in_err-reserve_event
returns-in_err-reserve_event g c =
    let host = left_of c.self.view_is in
    let old = g.D.Lines.state c.args.device.now in
    let p = err_from_is_err_and c.from_residual.result c.from_residual.ensures.1 in
    let same : record host { files = c.reserve_event.new.self } ≡ c.args.self.now = ap (λ (f : HeldFiles). record host { files = f }) c.in_err-reserve_event.ensures.err ∙ c.self.view_is in
    rw p.1 (subst (λ (k : HostState). Responds (WeakenFile c.args.name.now c.args.offset) (Err p.0) c.args.self.now k old old) (sym same)
    (record { leaves = leaves_all WrittenBack c.args.self.now old; serves = c.requires.serves }))

pub returns : goal.returns
returns g c =
    let host = left_of c.self.view_is in
    let old = g.D.Lines.state c.args.device.now in
    let new = g.D.Lines.state c.weaken_file-call.new.dev in
    let said = c.weaken_file-call.ensures.marks in
    let r = c.weaken_file-call.result in
    let name = c.args.name.now in
    let f = c.reserve_event.new.self in
    let reserved = c.in_ok-reserve_event.ensures in
    let serves = subst (λ k. HostServes k old) (sym c.self.view_is) c.requires.serves in
    let on = ap (λ (k : HostState). k.mode) c.self.view_is ∙ c.requires.on in
    let here : inode_of name host.files.pages.journal.tables.files ≡ Some c.in-Some.inode = ap (λ (j : JournalState). inode_of name j.tables.files) (sym c.journal.ensures) ∙ sym c.in-Some.ensures.value in
    subst (λ (k : HostState). Responds (WeakenFile name c.args.offset) c.weakened.result k (record host { files = f }) old new) c.self.view_is
    (weaken_responds (WeakenFile name c.args.offset) r c.weakened.result host (record host { files = f }) old new c.weakened.ensures
    (λ answer told is. weaken_told host old new on serves name c.in-Some.inode c.args.offset here f reserved.others reserved.items reserved.ok reserved.spare r answer told said.panel said.refused
    (on_refused-then weaken_says r (λ same. ap g.D.Lines.state same) said.untouched) said.ok said.outside said.serves is)
    (λ starved. weaken_starved host old new on serves name c.in-Some.inode c.args.offset here f reserved.others reserved.items reserved.ok reserved.spare (c.weaken_file-call.ensures.memory starved) said.panel))
