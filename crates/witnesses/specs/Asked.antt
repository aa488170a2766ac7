-- The reads that ask about the lines of one storage, and how its lines are named in a text.
use Rattle.std.specs.Prelude.{ℕ, List, [], ◌∷◌, ◌++◌, codes}
use Rattle.cut_places.specs.Outcomes.Files.{reads_of}
use Rattle.cut_places.specs.Outcomes.Pages.{PageRead}
use Rattle.cut_places.specs.AskedReads.Reads.{file_reads_asked, pages_asked}
use Rattle.witnesses.specs.declared.asked.Asked.{Asked}
use Rattle.witnesses.specs.declared.asked.Asked.TheVariants.{OfFile, OfVolume}

-- those of the volume, or those of the file of a name
abbrev pub reads_in : Asked → List PageRead
reads_in (OfVolume reads) = pages_asked reads.now
reads_in (OfFile reads name) = reads_of name.now (file_reads_asked reads.now)

-- what is printed before an offset
unfoldable pub volume_head : List ℕ
volume_head = codes " | volume "

unfoldable pub file_head : List ℕ → List ℕ
file_head name = codes " | file " ++ (name ++ (32 ∷ []))

abbrev pub head_of : Asked → List ℕ
head_of (OfVolume reads) = volume_head
head_of (OfFile reads name) = file_head name.now
