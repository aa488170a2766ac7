use Rattle.std.proofs.Common.{◌≡◌, ◌++◌, drop, map, take}
use Rattle.cut_places.specs.FilesState.{line_within}
use Rattle.cut_places.proofs.lines.cut.Given as goal

abbrev pub invariant-loop-line : goal.invariant-loop-line
invariant-loop-line l = l.line-items ≡ map (line_within l.pages) (take l.line-index l.fn.lines.items) ++ drop l.line-index l.fn.lines.items
