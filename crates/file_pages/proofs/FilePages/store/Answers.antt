use Rattle.std.proofs.Common.{List, Ok, length, sym, subst}
use Rattle.line_words.proofs.ToldLemmas.{checks_answers, on_worked}
use Rattle.line_words.specs.Told.{Answers}
use Rattle.word_tables.specs.declared.geometry.Geometry.{Geometry}
use Rattle.nvm_model.specs.Files.{OneFileLeft}
use Rattle.nvm_model.specs.Interrupted.{MayStore}
use Rattle.nvm_model.specs.Storage.{File}
use Rattle.page_lines.specs.Turns.{WritesBackOthers}
use Rattle.page_lines.proofs.OthersLemmas.{others-refl, others-trans}
use Rattle.file_journal.specs.Area.{IsOfFiles}
use Rattle.file_journal.specs.Standing.{EachReadsFiles}
use Rattle.file_pages.specs.Object.{IsFileAt, PagesState}
use Rattle.file_pages.specs.Refusals.{page_says, store_refusal}
use Rattle.file_pages.proofs.StoreLemmas.{IsFilled, filled_reads, stored_files, stored_reads}
use Rattle.file_pages.proofs.FilePages.store.Given as given
use Rattle.file_pages.proofs.FilePages.store.Goals as goal
use Rattle.file_pages.proofs.FilePages.store.Goals.{After-put, In_ok-fill}

filled : (g : given.Over) (c : goal.In_ok-fill g) → IsFilled c.args.self.now.journal c.fill.new.journal (g.L.Lines.state c.args.dev.now).medium (g.L.Lines.state c.fill.new.dev).medium c.args.inode c.args.offset c.args.bytes.now
filled g c =
    subst (λ (p : PagesState). IsFilled p.journal c.fill.new.journal (g.L.Lines.state c.args.dev.now).medium (g.L.Lines.state c.fill.new.dev).medium c.args.inode c.args.offset c.args.bytes.now) c.self.view_is
    (record { geo = c.fill.ensures.object.0; same = c.in_ok-fill.ensures.files; stand = c.in_ok-fill.ensures.ok })

outside : (g : given.Over) (c : goal.After-put g) → WritesBackOthers (IsOfFiles c.args.self.now.journal.geo) (g.L.Lines.state c.args.dev.now).medium (g.L.Lines.state c.put.new.dev).medium
outside g c =
    let old = (g.L.Lines.state c.args.dev.now).medium in
    let mid = (g.L.Lines.state c.fill.new.dev).medium in
    let new = (g.L.Lines.state c.put.new.dev).medium in
    subst (λ (p : PagesState). WritesBackOthers (IsOfFiles p.journal.geo) old new) c.self.view_is
    (others-trans (IsOfFiles c.self.inside.journal.geo) old mid new c.fill.ensures.outside
    (subst (λ (geo : Geometry). WritesBackOthers (IsOfFiles geo) mid new) c.fill.ensures.object.0 c.put.ensures.outside))

pub returns-in_err-check_store-clause-outside : goal.returns-in_err-check_store-clause-outside
returns-in_err-check_store-clause-outside g c = others-refl _ _

pub returns-in_err-fill-clause-images : goal.returns-in_err-fill-clause-images
returns-in_err-fill-clause-images g c =
    let old = (g.L.Lines.state c.args.dev.now).medium in
    let new = (g.L.Lines.state c.fill.new.dev).medium in
    on_worked page_says c.from_residual-in_err-fill.result
    (subst (λ (p : PagesState). (files : List File) (file : File) → IsFileAt p.journal old c.args.inode files file → EachReadsFiles p.journal.geo new (OneFileLeft file.name (MayStore c.args.offset c.args.bytes.now) files)) c.self.view_is
    (λ files file here. filled_reads c.self.inside.journal new c.args.offset c.args.bytes.now files file (c.fill.ensures.images files file here)))

pub returns-in_err-put-clause-images : goal.returns-in_err-put-clause-images
returns-in_err-put-clause-images g c =
    on_worked page_says c.from_residual-in_err-put.result (stored_reads (filled g (goal.at.returns-in_err-put-clause-images g c).In_ok-fill) _ c.put.ensures.images)

pub returns-clause-images : goal.returns-clause-images
returns-clause-images g c = stored_reads (filled g (goal.at.returns-clause-images g c).In_ok-fill) _ c.put.ensures.images

pub returns-clause-ok : goal.returns-clause-ok
returns-clause-ok g c = stored_files (filled g (goal.at.returns-clause-ok g c).In_ok-fill) _ c.in_ok-put.ensures.ok

pub returns-in_err-put-clause-outside : goal.returns-in_err-put-clause-outside
returns-in_err-put-clause-outside g c = outside g (goal.at.returns-in_err-put-clause-outside g c).After-put

pub returns-clause-outside : goal.returns-clause-outside
returns-clause-outside g c = outside g (goal.at.returns-clause-outside g c).After-put

pub returns-clause-refused : goal.returns-clause-refused
returns-clause-refused g c = λ files file at.
    let old = (g.L.Lines.state c.args.dev.now).medium in
    let here = subst (λ (p : PagesState). IsFileAt p.journal old c.args.inode files file) (sym c.self.view_is) at in
    subst (λ (p : PagesState). Answers {T = Unit {0}} page_says (store_refusal p.journal old file.pages c.args.offset (length c.args.bytes.now)) (Ok tt)) c.self.view_is
    (checks_answers page_says (store_refusal c.self.inside.journal old file.pages c.args.offset (length c.args.bytes.now)) (Ok tt) (c.in_ok-check_store.ensures.refused files file here))
