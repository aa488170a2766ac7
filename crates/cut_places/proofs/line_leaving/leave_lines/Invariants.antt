use Rattle.std.proofs.Common.{◌≡◌, ◌++◌, drop, map, take}
use Rattle.sights.specs.AskedReads.Reads.{file_reads_asked}
use Rattle.cut_places.specs.FileChanges.{lines_of}
use Rattle.cut_places.specs.FileLeaving.{line_left}
use Rattle.cut_places.proofs.line_leaving.leave_lines.Given as goal

abbrev pub invariant-loop-line : goal.invariant-loop-line
invariant-loop-line l =
    l.line-items ≡ map (line_left (file_reads_asked l.reads) l.name (lines_of l.change) l.pages) (take l.line-index l.fn.lines.items) ++ drop l.line-index l.fn.lines.items
