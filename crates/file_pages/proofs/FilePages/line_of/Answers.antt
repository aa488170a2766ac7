use Rattle.std.proofs.Common.{◌≡◌, ◌/◌, Some, None, refl, sym, ap, subst, ◌∙◌}
use Rattle.std.proofs.lemmas.Bool.{false≢true}
use Rattle.file_pages.specs.Object.{PagesState, PlacesState, unit_place, units_of}
use Rattle.file_pages.proofs.LineLemmas.{unit_by_place, no_unit_by_place}
use Rattle.file_pages.proofs.FilePages.line_of.Goals as goal

pub returns-in-Some-clause-none : goal.returns-in-Some-clause-none
returns-in-Some-clause-none c =
    let s = c.args.self.now in
    let found = subst (λ (l : PlacesState). Some c.in-Some.line ≡ unit_place l.geo l.units (c.args.offset / 64)) (c.of.ensures ∙ ap (λ (p : PagesState). record { geo = p.journal.geo; units = units_of p.journal.tables c.args.inode }) c.self.view_is) (sym c.in-Some.is ∙ c.line.ensures) in
    (λ wrong. absurd (false≢true (sym wrong)), λ none. absurd (unit_by_place s.journal.geo s.journal.tables c.args.inode c.args.offset c.in-Some.line c.requires.offset found none))

pub returns-in-None-clause-none : goal.returns-in-None-clause-none
returns-in-None-clause-none c =
    let s = c.args.self.now in
    let found = subst (λ (l : PlacesState). None ≡ unit_place l.geo l.units (c.args.offset / 64)) (c.of.ensures ∙ ap (λ (p : PagesState). record { geo = p.journal.geo; units = units_of p.journal.tables c.args.inode }) c.self.view_is) (sym c.in-None.is ∙ c.line.ensures) in
    (λ _. no_unit_by_place s.journal.geo s.journal.tables c.args.inode c.args.offset c.requires.offset found, λ _. refl)
