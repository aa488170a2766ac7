use Rattle.std.proofs.Common.{◌≡◌, ◌++◌, drop, take}
use Rattle.nvm_model.specs.Listing.{change_file}
use Rattle.cut_places.specs.FileChanges.{lines_of}
use Rattle.cut_places.specs.FilesState.{lines_after, name_seen}
use Rattle.cut_places.proofs.listing.change_lines.Given as goal

abbrev pub invariant-loop-file : goal.invariant-loop-file
invariant-loop-file l = l.file-items ≡ change_file name_seen l.name (lines_after (lines_of l.lines)) (take l.file-index l.fn.files.items) ++ drop l.file-index l.fn.files.items
