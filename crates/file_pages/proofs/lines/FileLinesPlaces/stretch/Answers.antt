use Rattle.std.proofs.Common.{subst, arith}
use Rattle.page_lines.specs.Stretches.{IsStretchOf}
use Rattle.file_pages.specs.Object.{PlacesState, unit_place}
use Rattle.file_pages.proofs.StretchLemmas.{past_stretch}
use Rattle.file_pages.proofs.lines.FileLinesPlaces.stretch.Goals as goal

pub returns-then-page-pages-clause-lines : goal.returns-then-page-pages-clause-lines
returns-then-page-pages-clause-lines c =
    let j = c.self.inside.journal.now in
    let s = c.new in
    subst (λ (l : PlacesState). IsStretchOf (unit_place l.geo l.units) s.result) c.self.view_is
    (past_stretch j.geo j.tables c.self.inside.inode c.args.n s.result (omega (arith, c.pages.ensures.pages, c.if-page-pages.true)) s.ensures.start s.ensures.len s.ensures.line)
