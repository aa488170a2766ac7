use Rattle.std.proofs.Common.{◌≡◌, ◌++◌, drop, map, take}
use Rattle.cut_places.specs.FileChanges.{lines_of}
use Rattle.cut_places.specs.FilesState.{line_of_after}
use Rattle.cut_places.proofs.lines.change_all.Given as goal

abbrev pub invariant-loop-line : goal.invariant-loop-line
invariant-loop-line l = l.line-items ≡ map (line_of_after l.pages (lines_of l.change)) (take l.line-index l.fn.lines.items) ++ drop l.line-index l.fn.lines.items
