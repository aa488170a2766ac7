use Rattle.std.proofs.Common.{subst}
use Rattle.line_device.specs.Medium.{WritesBack, stored}
use Rattle.line_device.specs.Cells.{medium_of}
use Rattle.line_device.specs.declared.plain.cells.Cells.{Cells}
use Rattle.line_device.proofs.CellsLemmas.{write_back_from-ends_of}
use Rattle.line_device.proofs.plain.lines.PlainLines.store.Goals as goal

pub returns-clause-lines : goal.returns-clause-lines
returns-clause-lines c =
    let effect = λ (k : Cells). stored (medium_of k) c.args.line.0 c.args.at c.args.bytes.now in
    subst (λ (k : Cells). WritesBack (effect k) (medium_of c.store.new.self)) c.reach.ensures.cells (write_back_from-ends_of (effect c.reach.new.self.cells) _ c.store.ensures)
