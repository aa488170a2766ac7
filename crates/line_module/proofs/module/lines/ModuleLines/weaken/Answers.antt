use Rattle.std.proofs.Common.{ap}
use Rattle.line_device.specs.Medium.{WritesBack, Weakens}
use Rattle.line_module.specs.Memory.{Memory}
use Rattle.line_module.specs.Cells.{cells_medium}
use Rattle.std.specs.Prelude.{MatchResult}
use Rattle.std.proofs.lemmas.Result.{MatchResult-weaker}
use Rattle.line_device.proofs.CellsLemmas.{weakens_from-weakened}
use Rattle.line_device.proofs.WriteBackLemmas.{write_back_same}
use Rattle.line_module.proofs.MemoryLemmas.{from_cells}
use Rattle.line_module.proofs.module.lines.ModuleLines.weaken.Goals as goal

pub returns-in-Some-clause-lines : goal.returns-in-Some-clause-lines
returns-in-Some-clause-lines c =
    let cells = c.in-Some.cells in
    let line = c.args.line.0 in
    let old = cells_medium cells in
    let new = cells_medium c.weaken.new.self in
    from_cells c.args.self.now.cells cells (λ m. MatchResult c.weaken.result (λ _. Weakens line m new) (λ _. WritesBack m new)) c.in-Some.is
    (MatchResult-weaker c.weaken.result c.weaken.ensures.memory (λ _ is. weakens_from-weakened old new line (ap (λ (s : Memory). s.medium) is)) (λ _ is. write_back_same old new (ap (λ (s : Memory). s.medium) is)))
