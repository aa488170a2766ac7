use Rattle.std.proofs.Common.{[], ◌∷◌, ◌∙◌, false}
use Rattle.line_device.specs.Medium.{renewed}
use Rattle.line_device.specs.Cells.{medium_of}
use Rattle.line_device.proofs.CellsLemmas.{word_at-zeros}
use Rattle.line_device.proofs.plain.cells.Cells.clear.Goals as goal

pub returns : goal.returns
returns c = c.renew.ensures ∙ λ i. renewed (medium_of c.args.self.now) c.args.line.0 false false (λ w. word_at-zeros 64 w i ∷ [])
