use Rattle.std.proofs.Common.{◌≡◌, ◌%◌, ◌+◌, ◌/◌, ◌<◌, Some, None, sym, ap, subst, ◌∙◌, arith}
use Rattle.word_tables.specs.declared.geometry.Geometry.{Geometry}
use Rattle.word_tables.specs.Layout.{file_line}
use Rattle.file_pages.specs.Object.{PlacesState, unit_place}
use Rattle.file_pages.proofs.LineLemmas.{file_line-few, line_in_hole, line_of_unit, line_past, page_few, unit_below}
use Rattle.file_pages.proofs.lines.FileLinesPlaces.line.Goals as goal

pub returns-then-page-pages : goal.returns-then-page-pages
returns-then-page-pages c =
    let j = c.self.inside.journal.now in
    subst (λ (l : PlacesState). None ≡ unit_place l.geo l.units c.args.n) c.self.view_is
    (line_past j.geo j.tables c.self.inside.inode c.args.n (omega (arith, c.pages.ensures.pages, c.if-page-pages.true)))

pub unit-requires-clause-page : goal.unit-requires-clause-page
unit-requires-clause-page c =
    let j = c.self.inside.journal.now in
    page_few j.geo.fpages j.tables c.pages.ensures.tables c.self.inside.inode c.self.invariant (c.args.n / 64) (omega (arith, c.pages.ensures.pages, c.if-page-pages.false))

pub file_line-requires-clause-unit : goal.file_line-requires-clause-unit
file_line-requires-clause-unit c =
    let j = c.self.inside.journal.now in
    subst (λ (g : Geometry). c.in-Some.unit < g.fpages) (sym c.geometry-geo.ensures.geometry)
    (unit_below j.geo.fpages j.tables c.pages.ensures.tables c.self.inside.inode c.self.invariant (c.args.n / 64) (omega (arith, c.pages.ensures.pages, c.if-page-pages.false)) c.in-Some.unit (sym c.in-Some.is ∙ c.unit.ensures.unit))

pub overflow_add-result : goal.overflow_add-result
overflow_add-result c =
    let j = c.self.inside.journal.now in
    let below = unit_below j.geo.fpages j.tables c.pages.ensures.tables c.self.inside.inode c.self.invariant (c.args.n / 64) (omega (arith, c.pages.ensures.pages, c.if-page-pages.false)) c.in-Some.unit (sym c.in-Some.is ∙ c.unit.ensures.unit) in
    let few = file_line-few j.geo c.in-Some.unit c.args.n c.file_line.result c.geometry-geo.ensures.valid below (c.file_line.ensures ∙ ap (λ (g : Geometry). file_line g c.in-Some.unit) c.geometry-geo.ensures.geometry) in
    omega (arith, few)

pub returns-in-Some : goal.returns-in-Some
returns-in-Some c =
    let j = c.self.inside.journal.now in
    subst (λ (l : PlacesState). Some (c.file_line.result + c.args.n % 64) ≡ unit_place l.geo l.units c.args.n) c.self.view_is
    (line_of_unit j.geo j.tables c.self.inside.inode c.args.n c.in-Some.unit c.file_line.result (omega (arith, c.pages.ensures.pages, c.if-page-pages.false)) (sym c.in-Some.is ∙ c.unit.ensures.unit)
    (c.file_line.ensures ∙ ap (λ (g : Geometry). file_line g c.in-Some.unit) c.geometry-geo.ensures.geometry))

pub returns-in-None : goal.returns-in-None
returns-in-None c =
    let j = c.self.inside.journal.now in
    subst (λ (l : PlacesState). None ≡ unit_place l.geo l.units c.args.n) c.self.view_is
    (line_in_hole j.geo j.tables c.self.inside.inode c.args.n (omega (arith, c.pages.ensures.pages, c.if-page-pages.false)) (sym c.in-None.is ∙ c.unit.ensures.unit))
