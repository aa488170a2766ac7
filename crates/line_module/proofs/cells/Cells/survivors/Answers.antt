use Rattle.std.proofs.Common.{◌+◌, ◌*◌, ◌∙◌, ap}
use Rattle.line_module.specs.Survivors.{survivor_of}
use Rattle.line_module.specs.Cells.{cells_medium}
use Rattle.line_module.proofs.HeldLemmas.{latest-line}
use Rattle.line_module.proofs.cells.Cells.survivors.Goals as goal

pub returns-in-Lasts : goal.returns-in-Lasts
returns-in-Lasts c w below =
    let s = c.args.self.now in
    let line = c.args.line.0 in
    let place = 8 * line + w in
    ap (λ choice. survivor_of c.args.unit choice place ((cells_medium s).history place)) c.in-Lasts.is ∙ latest-line s.durable s.states.items line c.copy.result c.requires.within c.requires.good c.copy.ensures w below
