use Rattle.std.proofs.Common.{◌≡◌, Some, ℕ, OnErr, OnOk, sym, subst}
use Rattle.nvm_model.specs.Cell.{persist_cell}
use Rattle.nvm_model.specs.Interrupted.{MayPersist}
use Rattle.page_lines.specs.Placed.{AreApart, IsPlaced}
use Rattle.page_lines.specs.Turns.{MayTurn, Turns, WritesBackOthers}
use Rattle.page_lines.proofs.ResultLemmas.{on_ok-then}
use Rattle.file_pages.specs.Object.{PlacesState, unit_place}
use Rattle.file_pages.proofs.PlaceLemmas.{places_apart, units_own}
use Rattle.file_pages.proofs.WorkLemmas.{IsWorked, persisted-files, persisted-images, turned-marks, turned-outside, turned-serves}
use Rattle.file_pages.proofs.syncing.persist.Given as given
use Rattle.file_pages.proofs.syncing.persist.Goals as goal
use Rattle.file_pages.proofs.syncing.persist.Goals.{After-persist_lines}

worked : (g : given.Over) (c : goal.After-persist_lines g) → IsWorked c.args.journal.now (g.L.Lines.state c.args.dev.now).medium (g.L.Lines.state c.persist_lines.new.dev).medium c.args.inode c.args.span.start c.args.span.len
worked g c = record {
  valid = c.requires.valid;
  are = c.requires.tables;
  low = c.requires.inode;
  serves = c.requires.serves;
  beside = subst (λ (l : PlacesState). WritesBackOthers (IsPlaced (unit_place l.geo l.units) c.args.span.start c.args.span.len) (g.L.Lines.state c.args.dev.now).medium (g.L.Lines.state c.persist_lines.new.dev).medium) c.of-lines.ensures c.persist_lines.ensures.outside;
}

pub persist_lines-requires-clause-apart : goal.persist_lines-requires-clause-apart
persist_lines-requires-clause-apart g c =
    let s = c.args.journal.now in
    let count = (g.L.Lines.state c.args.dev.now).medium.count in
    subst (λ (l : PlacesState). AreApart (unit_place l.geo l.units) count) (sym c.of-lines.ensures)
    (places_apart s.geo _ (units_own s.geo.fpages s.tables c.requires.tables c.args.inode c.requires.inode) count c.requires.serves.count)

pub returns-clause-ok : goal.returns-clause-ok
returns-clause-ok g c =
    let old = (g.L.Lines.state c.args.dev.now).medium in
    let new = (g.L.Lines.state c.persist_lines.new.dev).medium in
    on_ok-then c.persist_lines.result
    (λ turned. persisted-files (worked g (goal.at.returns-clause-ok g c).After-persist_lines) turned)
    (subst (λ (l : PlacesState). OnOk c.persist_lines.result ((n line : ℕ) → unit_place l.geo l.units n ≡ Some line → Turns (persist_cell c.args.span.start c.args.span.len n) line old new)) c.of-lines.ensures c.persist_lines.ensures.ok)

pub returns-clause-images : goal.returns-clause-images
returns-clause-images g c =
    let old = (g.L.Lines.state c.args.dev.now).medium in
    let new = (g.L.Lines.state c.persist_lines.new.dev).medium in
    persisted-images (worked g (goal.at.returns-clause-images g c).After-persist_lines) c.persist_lines.result
    (subst (λ (l : PlacesState). OnOk c.persist_lines.result ((n line : ℕ) → unit_place l.geo l.units n ≡ Some line → Turns (persist_cell c.args.span.start c.args.span.len n) line old new)) c.of-lines.ensures c.persist_lines.ensures.ok)
    (subst (λ (l : PlacesState). OnErr c.persist_lines.result ((n line : ℕ) → unit_place l.geo l.units n ≡ Some line → MayTurn (MayPersist c.args.span.start c.args.span.len n) line old new)) c.of-lines.ensures c.persist_lines.ensures.err)

pub returns-clause-beside : goal.returns-clause-beside
returns-clause-beside g c = (worked g (goal.at.returns-clause-beside g c).After-persist_lines).beside

pub returns-clause-outside : goal.returns-clause-outside
returns-clause-outside g c = turned-outside (worked g (goal.at.returns-clause-outside g c).After-persist_lines)

pub returns-clause-metadata : goal.returns-clause-metadata
returns-clause-metadata g c = turned-marks (worked g (goal.at.returns-clause-metadata g c).After-persist_lines)

pub returns-clause-serves : goal.returns-clause-serves
returns-clause-serves g c =
    turned-serves (worked g (goal.at.returns-clause-serves g c).After-persist_lines)
