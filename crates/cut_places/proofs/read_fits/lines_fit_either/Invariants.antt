use Rattle.std.proofs.Common.{◌≡◌, true, take}
use Rattle.sights.specs.AskedReads.Reads.{page_read}
use Rattle.sights.specs.AskedReads.Reads.{file_reads_asked}
use Rattle.cut_places.specs.FileChanges.{lines_of}
use Rattle.cut_places.specs.FileFitting.{either_fits, seen_pass}
use Rattle.cut_places.proofs.read_fits.lines_fit_either.Given as goal

abbrev pub invariant-loop-line : goal.invariant-loop-line
invariant-loop-line l =
    seen_pass (either_fits (file_reads_asked l.reads) l.name (lines_of l.change) l.read.name l.file.pages) (page_read l.read.pages) (take l.line-index l.line-items) ≡ true
