use Rattle.std.proofs.Common.{◌≡◌, ◌↔◌, ◌-◌, ℕ, List, Some, drop, sym, ap, subst, ◌∙◌, arith}
use Rattle.std.specs.List.{Contains}
use Rattle.nvm_base.specs.declared.files.FileEntry.{FileEntry}
use Rattle.inode_table.specs.Slots.{IsTable}
use Rattle.nvm_model.specs.Listing.{in_order, put_file, rises}
use Rattle.nvm_model.proofs.ListedLemmas.{contains-in_order, in_order-contains}
use Rattle.nvm_model.proofs.RiseLemmas.{rises-in_order}
use Rattle.file_journal.specs.Listing.{entry_name}
use Rattle.file_journal.specs.Object.{JournalState}
use Rattle.file_journal.proofs.ListingLemmas.{in_order-file, in_order-free, in_order-none}
use Rattle.file_journal.proofs.Journal.list.Goals as goal
use Rattle.file_journal.proofs.Journal.list.Goals.{in-Some+in_ok-insert, in_default}

pub loop-done-init : goal.loop-done-init
loop-done-init c =
    let table = subst (λ (s : JournalState). IsTable s.tables.files) c.self.view_is c.count.ensures.table in
    c.in_ok-reserve.ensures.items ∙ c.new-list.ensures ∙ sym (in_order-none c.args.self.now.tables.files table.all)

pub loop-done-preserved : goal.loop-done-preserved
loop-done-preserved c =
    let files = c.args.self.now.tables.files in
    let done = c.loop-done.done in
    let table = subst (λ (s : JournalState). IsTable s.tables.files) c.self.view_is c.count.ensures.table in
    elim c.match-slot.branch [
      | in-Some+in_ok-insert w ↦
          ap (λ l. l.items) w.list-is ∙ w.in_ok-insert.ensures.ok ∙ ap (put_file entry_name w.in-Some.file) c.loop-done.invariant
          ∙ sym (in_order-file files done w.in-Some.file table.all c.loop-done-test.true (sym c.slot.ensures ∙ w.in-Some.is))
      | in_default w ↦
          ap (λ l. l.items) w.list-is ∙ c.loop-done.invariant
          ∙ sym (in_order-free files done table.all c.loop-done-test.true (sym c.slot.ensures ∙ w.in_default.is))
    ]

pub returns-clause-order : goal.returns-clause-order
returns-clause-order c =
    let files = c.args.self.now.tables.files in
    let table = subst (λ (s : JournalState). IsTable s.tables.files) c.self.view_is c.count.ensures.table in
    let all : 64 - c.loop-done.done ≡ 0 = omega arith in
    ap (rises entry_name) c.loop-done.invariant ∙ ap (λ (k : ℕ). rises entry_name (in_order entry_name (drop k files))) all
    ∙ rises-in_order entry_name files table.apart

pub returns-clause-files : goal.returns-clause-files
returns-clause-files c =
    let files = c.args.self.now.tables.files in
    let all : 64 - c.loop-done.done ≡ 0 = omega arith in
    let is : c.loop-done.list.items ≡ in_order entry_name files = c.loop-done.invariant ∙ ap (λ (k : ℕ). in_order entry_name (drop k files)) all in
    λ file.
    subst (λ (l : List FileEntry). Contains l file ↔ Contains files (Some file)) (sym is) (in_order-contains entry_name files file, contains-in_order entry_name files file)
