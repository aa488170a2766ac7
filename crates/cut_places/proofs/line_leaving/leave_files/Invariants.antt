use Rattle.std.proofs.Common.{◌≡◌, ◌++◌, drop, take}
use Rattle.nvm_model.specs.Listing.{change_file}
use Rattle.sights.specs.AskedReads.Reads.{file_reads_asked}
use Rattle.cut_places.specs.FileChanges.{lines_of}
use Rattle.cut_places.specs.FileLeaving.{lines_left}
use Rattle.cut_places.specs.FilesState.{name_seen}
use Rattle.cut_places.proofs.line_leaving.leave_files.Given as goal

abbrev pub invariant-loop-file : goal.invariant-loop-file
invariant-loop-file l =
    l.file-items ≡ change_file name_seen l.name (lines_left (file_reads_asked l.reads) l.name (lines_of l.lines)) (take l.file-index l.fn.files.items) ++ drop l.file-index l.fn.files.items
