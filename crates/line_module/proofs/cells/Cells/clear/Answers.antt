use Rattle.std.proofs.Common.{◌≡◌, [], ◌∷◌, ◌∙◌, false}
use Rattle.line_device.specs.Medium.{renewed, cleared}
use Rattle.line_device.proofs.CellsLemmas.{word_at-zeros}
use Rattle.line_module.specs.Cells.{cells_medium}
use Rattle.line_module.proofs.cells.Cells.clear.Goals as goal

pub returns : goal.returns
returns c =
    let m = cells_medium c.args.self.now in
    let medium : cells_medium c.renew.new.self ≡ cleared m c.args.line.0 = c.renew.ensures.medium ∙ λ i. renewed m c.args.line.0 false false (λ w. word_at-zeros 64 w i ∷ []) in
    λ i. record { medium = medium i; order = c.renew.ensures.order i }
