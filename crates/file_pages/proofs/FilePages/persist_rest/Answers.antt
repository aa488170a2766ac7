use Rattle.std.proofs.Common.{List, subst}
use Rattle.nvm_model.specs.Files.{OneFileLeft}
use Rattle.nvm_model.specs.Interrupted.{MaySync}
use Rattle.nvm_model.specs.Storage.{File}
use Rattle.page_lines.specs.Placed.{IsPlaced}
use Rattle.page_lines.specs.Turns.{WritesBackOthers}
use Rattle.file_journal.specs.Standing.{EachReadsFiles}
use Rattle.file_pages.specs.Object.{IsFileAt, PagesState, file_place}
use Rattle.file_pages.proofs.FilePages.persist_rest.Goals as goal

pub returns-in_err-persist-clause-images : goal.returns-in_err-persist-clause-images
returns-in_err-persist-clause-images g c =
    let old = (g.L.Lines.state c.args.dev.now).medium in
    let new = (g.L.Lines.state c.persist.new.dev).medium in
    subst (λ (p : PagesState). (files : List File) (file : File) → IsFileAt p.journal old c.args.inode files file → EachReadsFiles p.journal.geo new (OneFileLeft file.name (MaySync c.args.span.start c.args.span.len) files))
    c.self.view_is c.in_err-persist.ensures.images

pub returns-in_err-persist-clause-beside : goal.returns-in_err-persist-clause-beside
returns-in_err-persist-clause-beside g c =
    let old = (g.L.Lines.state c.args.dev.now).medium in
    let new = (g.L.Lines.state c.persist.new.dev).medium in
    subst (λ (p : PagesState). WritesBackOthers (IsPlaced (file_place p.journal c.args.inode) c.args.span.start c.args.span.len) old new) c.self.view_is c.in_err-persist.ensures.beside

pub returns-clause-images : goal.returns-clause-images
returns-clause-images g c =
    let old = (g.L.Lines.state c.args.dev.now).medium in
    let new = (g.L.Lines.state c.persist.new.dev).medium in
    subst (λ (p : PagesState). (files : List File) (file : File) → IsFileAt p.journal old c.args.inode files file → EachReadsFiles p.journal.geo new (OneFileLeft file.name (MaySync c.args.span.start c.args.span.len) files))
    c.self.view_is c.in_ok-persist.ensures.images

pub returns-clause-beside : goal.returns-clause-beside
returns-clause-beside g c =
    let old = (g.L.Lines.state c.args.dev.now).medium in
    let new = (g.L.Lines.state c.persist.new.dev).medium in
    subst (λ (p : PagesState). WritesBackOthers (IsPlaced (file_place p.journal c.args.inode) c.args.span.start c.args.span.len) old new) c.self.view_is c.in_ok-persist.ensures.beside
