use Rattle.std.proofs.Common.{◌≡◌, true, take}
use Rattle.std.specs.List.{list_all}
use Rattle.nvm_model.specs.Listing.{file_of}
use Rattle.sights.specs.AskedReads.Reads.{page_read}
use Rattle.sights.specs.AskedReads.declared.reads.FileRead.{FileRead as Asked}
use Rattle.sights.specs.AskedReads.Reads.{file_reads_asked}
use Rattle.cut_places.specs.FileChanges.{lines_of}
use Rattle.cut_places.specs.FileFitting.{either_fits, read_passes}
use Rattle.cut_places.specs.FilesState.{name_seen}
use Rattle.cut_places.proofs.files.FilesSeen.fits_by_line.Given as goal

abbrev pub invariant-loop-read : goal.invariant-loop-read
invariant-loop-read l =
    list_all (λ (r : Asked). read_passes (either_fits (file_reads_asked l.reads) l.name (lines_of l.lines) r.name) (page_read r.pages) (file_of name_seen r.name l.self.files)) (take l.read-index l.reads) ≡ true
