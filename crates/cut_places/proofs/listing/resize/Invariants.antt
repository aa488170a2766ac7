use Rattle.std.proofs.Common.{◌≡◌, ◌++◌, drop, take}
use Rattle.nvm_model.specs.Listing.{change_file}
use Rattle.cut_places.specs.FilesState.{name_seen, with_pages}
use Rattle.cut_places.proofs.listing.resize.Given as goal

abbrev pub invariant-loop-file : goal.invariant-loop-file
invariant-loop-file l = l.file-items ≡ change_file name_seen l.name (with_pages l.pages) (take l.file-index l.fn.files.items) ++ drop l.file-index l.fn.files.items
