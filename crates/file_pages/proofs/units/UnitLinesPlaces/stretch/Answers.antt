use Rattle.std.proofs.Common.{◌≡◌, ◌/◌, Some, None, slice_index_or, sym, ap, subst, ◌∙◌, arith}
use Rattle.std.specs.Option.{unwrap_or}
use Rattle.file_pages.specs.Object.{PlacesState}
use Rattle.file_pages.proofs.LineLemmas.{file_line-few}
use Rattle.file_pages.proofs.units.UnitLinesPlaces.stretch.Goals as goal
use Rattle.file_pages.proofs.units.UnitLinesPlaces.stretch.Goals.{in-Some, in-None}

pub new-requires : goal.new-requires
new-requires c =
    elim c.match-unit.branch [
      | in-Some w ↦
          let below = c.self.invariant.1.below (c.args.n / 64) w.in-Some.unit
          (subst (λ (l : PlacesState). slice_index_or l.units (c.args.n / 64) None ≡ Some w.in-Some.unit) (sym c.self.view_is) (sym c.unit.ensures ∙ w.in-Some.is)) in
          let few = file_line-few c.self.inside.geo w.in-Some.unit 0 w.file_line.result c.self.invariant.0 below w.file_line.ensures in
          record { fits = omega (arith, few, ap (λ line. unwrap_or line 0) w.line-is) }
      | in-None w ↦ record { fits = omega (arith, ap (λ line. unwrap_or line 0) w.line-is) }
    ]
