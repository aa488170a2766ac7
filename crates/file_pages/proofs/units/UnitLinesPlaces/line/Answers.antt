use Rattle.std.proofs.Common.{◌≡◌, ◌/◌, Some, None, slice_index_or, sym, subst, ◌∙◌, arith}
use Rattle.file_pages.specs.Object.{PlacesState}
use Rattle.file_pages.proofs.LineLemmas.{file_line-few}
use Rattle.file_pages.proofs.units.UnitLinesPlaces.line.Goals as goal

pub file_line-requires-clause-unit : goal.file_line-requires-clause-unit
file_line-requires-clause-unit c =
    c.self.invariant.1.below (c.args.n / 64) c.in-Some.unit
    (subst (λ (l : PlacesState). slice_index_or l.units (c.args.n / 64) None ≡ Some c.in-Some.unit) (sym c.self.view_is) (sym c.unit.ensures ∙ c.in-Some.is))

pub overflow_add-result : goal.overflow_add-result
overflow_add-result c =
    let below = c.self.invariant.1.below (c.args.n / 64) c.in-Some.unit
    (subst (λ (l : PlacesState). slice_index_or l.units (c.args.n / 64) None ≡ Some c.in-Some.unit) (sym c.self.view_is) (sym c.unit.ensures ∙ c.in-Some.is)) in
    let few = file_line-few c.self.inside.geo c.in-Some.unit c.args.n c.file_line.result c.self.invariant.0 below c.file_line.ensures in
    omega (arith, few)
