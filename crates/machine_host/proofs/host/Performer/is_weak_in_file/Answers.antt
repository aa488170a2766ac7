use Rattle.std.proofs.Common.{◌≡◌, ℕ, ◌*◌, ◌/◌, Some, None, sym, ap, subst, ◌∙◌}
use Rattle.inode_table.specs.Slots.{inode_of}
use Rattle.nvm_model.specs.Page.{cell_of}
use Rattle.file_journal.specs.Object.{JournalState}
use Rattle.file_pages.specs.Object.{IsFileAt}
use Rattle.machine_model.specs.OnFileErrors.{is_weak_line}
use Rattle.machine_host.specs.Stands.{HostState}
use Rattle.machine_host.proofs.WeakMarkLemmas.{weak_found, weak_missing}
use Rattle.machine_host.proofs.host.Performer.is_weak_in_file.Goals as goal

pub returns-in-Some : goal.returns-in-Some
returns-in-Some g c = λ h stands.
    let name = c.args.name.now in
    let host = c.args.self.now in
    let d = g.D.Lines.state c.args.device.now in
    let here : inode_of name host.files.pages.journal.tables.files ≡ Some c.in-Some.inode =
    ap (λ (s : HostState). inode_of name s.files.pages.journal.tables.files) (sym c.self.view_is)
    ∙ ap (λ (j : JournalState). inode_of name j.tables.files) (sym c.journal.ensures) ∙ sym c.in-Some.ensures.value in
    weak_found host d h name c.args.line c.requires.on c.requires.serves stands c.in-Some.inode here c.is_weak_in.result
    (λ all file at. c.is_weak_in.ensures all file (subst (λ (s : HostState). IsFileAt s.files.pages.journal d.medium c.in-Some.inode all file) (sym c.self.view_is) at)
    ∙ ap (λ (k : ℕ). is_weak_line (cell_of file.pages (64 * k / 64))) c.from.ensures)

pub returns-in-None : goal.returns-in-None
returns-in-None g c = λ h stands.
    let name = c.args.name.now in
    let host = c.args.self.now in
    let none : inode_of name host.files.pages.journal.tables.files ≡ None =
    ap (λ (s : HostState). inode_of name s.files.pages.journal.tables.files) (sym c.self.view_is)
    ∙ ap (λ (j : JournalState). inode_of name j.tables.files) (sym c.journal.ensures) ∙ sym c.in-None.ensures.value in
    weak_missing host (g.D.Lines.state c.args.device.now) h name c.args.line c.requires.on c.requires.serves stands none
