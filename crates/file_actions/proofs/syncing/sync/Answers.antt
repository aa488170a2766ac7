use Rattle.std.proofs.Common.{◌*◌, Err, Ok, ap, subst, sym, ◌∙◌, arith}
use Rattle.line_words.specs.Told.{Answers}
use Rattle.inode_table.specs.Slots.{pages_at}
use Rattle.nvm_model.specs.Files.{OneFileLeft}
use Rattle.nvm_model.specs.Interrupted.{MaySyncAll}
use Rattle.nvm_model.specs.Touched.{next_bad_touched, persist_spans}
use Rattle.nvm_model.proofs.OneFileLemmas.{left-change}
use Rattle.nvm_model.proofs.SeveralLemmas.{may_sync_all-done}
use Rattle.page_lines.specs.Placed.{IsPlaced}
use Rattle.page_lines.proofs.OthersLemmas.{others-refl, others-wider}
use Rattle.file_journal.specs.Object.{JournalState}
use Rattle.file_journal.specs.Standing.{FilesStand}
use Rattle.file_journal.specs.Tables.{AreTables}
use Rattle.file_journal.proofs.ReplaceLemmas.{pages_at_most}
use Rattle.file_pages.specs.Object.{IsFileLine, file_place}
use Rattle.file_pages.specs.Refusals.{page_says}
use Rattle.file_pages.proofs.WorkLemmas.{reads-left}
use Rattle.file_actions.specs.Refusals.{action_says, all_bytes}
use Rattle.file_actions.proofs.SyncedLemmas.{IsCounted, synced-images, synced-none, synced-refused, synced-same, synced-unrefused}
use Rattle.file_actions.proofs.ToldLemmas.{told-answers, told-done, told-worked}
use Rattle.file_actions.proofs.syncing.sync.Given as given
use Rattle.file_actions.proofs.syncing.sync.Goals as goal
use Rattle.file_actions.proofs.syncing.sync.Goals.{After-pages-pages}

counted : (g : given.Over) (c : goal.After-pages-pages g) → IsCounted c.args.files.now.journal c.args.inode c.pages-pages.result
counted g c = record {
  are = subst (λ (j : JournalState). AreTables j.geo.fpages j.tables) c.journal.ensures c.pages-pages.ensures.tables;
  low = c.requires.inode;
  count = c.pages-pages.ensures.pages ∙ ap (λ (j : JournalState). pages_at j.tables.files c.args.inode) c.journal.ensures;
}

pub returns-then-pages-eq0-clause-refused : goal.returns-then-pages-eq0-clause-refused
returns-then-pages-eq0-clause-refused g c = λ listed file at.
    subst (λ o. Answers {T = Unit {0}} action_says o (Ok tt)) (sym (synced-unrefused (counted g (goal.at.returns-then-pages-eq0-clause-refused g c).After-pages-pages) listed file at c.if-pages-eq0.true)) tt

pub returns-then-pages-eq0-clause-ok : goal.returns-then-pages-eq0-clause-ok
returns-then-pages-eq0-clause-ok g c = λ listed file at.
    let s = c.args.files.now.journal in
    subst (FilesStand s.geo (g.L.Lines.state c.args.dev.now).medium s.tables) (sym (synced-none (counted g (goal.at.returns-then-pages-eq0-clause-ok g c).After-pages-pages) listed file at c.if-pages-eq0.true)) at.stand

pub returns-then-pages-eq0-clause-images : goal.returns-then-pages-eq0-clause-images
returns-then-pages-eq0-clause-images g c = λ listed file at.
    let is = (counted g (goal.at.returns-then-pages-eq0-clause-images g c).After-pages-pages) in
    reads-left c.args.files.now.journal (g.L.Lines.state c.args.dev.now).medium listed (OneFileLeft file.name (MaySyncAll all_bytes) listed) is.are c.requires.serves at.stand
    (subst (OneFileLeft file.name (MaySyncAll all_bytes) listed) (synced-none is listed file at c.if-pages-eq0.true)
    (left-change file.name (persist_spans all_bytes) (MaySyncAll all_bytes) (may_sync_all-done all_bytes) listed))

pub returns-then-pages-eq0-clause-beside : goal.returns-then-pages-eq0-clause-beside
returns-then-pages-eq0-clause-beside g c = others-refl _ _

pub returns-then-pages-eq0-clause-outside : goal.returns-then-pages-eq0-clause-outside
returns-then-pages-eq0-clause-outside g c = others-refl _ _

pub overflow_mul-span : goal.overflow_mul-span
overflow_mul-span g c =
    let most = pages_at_most c.journal.result.now.tables.files c.args.inode c.pages-pages.ensures.tables.names c.requires.inode in
    omega (arith, most, c.pages-pages.ensures.pages)

pub returns-in_err-persist-clause-refused : goal.returns-in_err-persist-clause-refused
returns-in_err-persist-clause-refused g c = λ listed file at.
    told-answers (next_bad_touched all_bytes file.pages 0) c.in_err-persist.field-0.0 c.from_residual.result c.from_residual.ensures.1
    (subst (λ o. Answers {T = Unit {0}} page_says o (Err c.in_err-persist.field-0.0)) (synced-refused (counted g (goal.at.returns-in_err-persist-clause-refused g c).After-pages-pages) listed file at (omega (arith, c.if-pages-eq0.false)))
    (c.in_err-persist.ensures.refused listed file at))

pub returns-in_err-persist-clause-beside : goal.returns-in_err-persist-clause-beside
returns-in_err-persist-clause-beside g c =
    others-wider (IsPlaced (file_place c.args.files.now.journal c.args.inode) 0 (4096 * c.pages-pages.result)) (IsFileLine c.args.files.now.journal c.args.inode) _ _ (λ line is. (is.0, is.2)) c.in_err-persist.ensures.beside

pub returns-in_err-persist-clause-images : goal.returns-in_err-persist-clause-images
returns-in_err-persist-clause-images g c =
    told-worked c.in_err-persist.field-0.0 c.from_residual.result c.from_residual.ensures.1
    (λ images listed file at. synced-images (counted g (goal.at.returns-in_err-persist-clause-images g c).After-pages-pages) listed file at (g.L.Lines.state c.persist.new.dev).medium (images listed file at))
    c.in_err-persist.ensures.images

pub returns-clause-refused : goal.returns-clause-refused
returns-clause-refused g c = λ listed file at.
    told-done (next_bad_touched all_bytes file.pages 0)
    (subst (λ o. Answers {T = Unit {0}} page_says o (Ok tt)) (synced-refused (counted g (goal.at.returns-clause-refused g c).After-pages-pages) listed file at (omega (arith, c.if-pages-eq0.false))) (c.in_ok-persist.ensures.refused listed file at))

pub returns-clause-ok : goal.returns-clause-ok
returns-clause-ok g c = λ listed file at.
    let s = c.args.files.now.journal in
    subst (FilesStand s.geo (g.L.Lines.state c.persist.new.dev).medium s.tables) (synced-same (counted g (goal.at.returns-clause-ok g c).After-pages-pages) listed file at) (c.in_ok-persist.ensures.ok listed file at)

pub returns-clause-beside : goal.returns-clause-beside
returns-clause-beside g c =
    others-wider (IsPlaced (file_place c.args.files.now.journal c.args.inode) 0 (4096 * c.pages-pages.result)) (IsFileLine c.args.files.now.journal c.args.inode) _ _ (λ line is. (is.0, is.2)) c.in_ok-persist.ensures.beside

pub returns-clause-images : goal.returns-clause-images
returns-clause-images g c = λ listed file at.
    synced-images (counted g (goal.at.returns-clause-images g c).After-pages-pages) listed file at (g.L.Lines.state c.persist.new.dev).medium (c.in_ok-persist.ensures.images listed file at)
