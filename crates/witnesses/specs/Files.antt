-- What is kept of the lines of files.
use Rattle.std.specs.Prelude.{◌/◌, ℕ, List, [], ◌∷◌, flat_map, map, nat_lt, Option, Some, None, option_and_then, option_map, if◌then◌else◌}
use Rattle.nvm_model.specs.Cell.{Cell}
use Rattle.nvm_model.specs.Listing.{file_of}
use Rattle.script_text.specs.Action.{Action}
use Rattle.cut_places.specs.Outcomes.Files.{FileRead, reads_of}
use Rattle.cut_places.specs.Outcomes.Pages.{lines_read}
use Rattle.cut_places.specs.FileChanges.{left_by}
use Rattle.cut_places.specs.FileCommands.{files_change}
use Rattle.cut_places.specs.FileLines.{line_held}
use Rattle.cut_places.specs.FileLeaving.{files_left}
use Rattle.cut_places.specs.FileMixing.{way_left}
use Rattle.cut_places.specs.FilesState.{FileState, FilesState, name_seen}
use Rattle.cut_places.specs.Sights.{files_once_done}
use Rattle.cut_places.specs.SightsSeen.declared.way.Way.{Way}
use Rattle.witnesses.specs.declared.file_kept.FileLineKept.{FileLineKept}
use Rattle.witnesses.specs.Leaving.{made_by, mixing}
use Rattle.witnesses.specs.Lines.{free_words, left_of}

-- line n of a file, if there is one
abbrev pub line_there : ℕ → Option FileState → Option Cell
line_there n None = None
line_there n (Some file) = if nat_lt (n / 64) file.pages then line_held n file.lines else None

-- how a cut inside a command mixes files
abbrev pub files_way : FilesState → Action → Option Way
files_way s action = way_left (left_by (files_change s.mappings.mappings action))

-- the files once the command is done, where a cut inside it may leave such; and as the cut leaves them
abbrev pub files_made : Option Action → FilesState → FilesState
files_made inside s = made_by files_once_done (mixing (option_and_then (files_way s) inside) inside) s

abbrev pub left_there : Option Action → List FileRead → FilesState → FilesState
left_there inside reads s = files_left (option_map (files_change s.mappings.mappings) inside) reads s

-- what is kept of line n of a file, which is now so, is made so, and is left as this line, by reads of that name; if there is one
abbrev pub line_kept_of : List FileRead → List ℕ → ℕ → Option FileState → Option FileState → Cell → FileLineKept
line_kept_of reads name n now made line =
    let kept = left_of (reads_of name reads) n line in record { name = name; number = n; left = kept; free = free_words (line_there n now) (line_there n made) kept }

abbrev pub line_kept_in : List FileRead → List ℕ → ℕ → Option FileState → Option FileState → Option Cell → List FileLineKept
line_kept_in reads name n now made None = []
line_kept_in reads name n now made (Some line) = line_kept_of reads name n now made line ∷ []

-- and of each line that exists at which a read looks
abbrev pub read_kept : List FileRead → FilesState → FilesState → FilesState → FileRead → List FileLineKept
read_kept reads now made left r =
    flat_map (λ n. line_kept_in reads r.name n (file_of name_seen r.name now.files) (file_of name_seen r.name made.files) (line_there n (file_of name_seen r.name left.files)))
    (lines_read r.pages.start r.pages.len r.pages.reply)

abbrev pub files_kept : Option Action → List FileRead → List FileRead → FilesState → List FileLineKept
files_kept inside reads looked s = flat_map (read_kept reads s (files_made inside s) (left_there inside reads s)) looked

-- which lines of which files: those that are kept, and those that reads look at
abbrev pub place_of : FileLineKept → List ℕ × ℕ
place_of kept = (kept.name, kept.number)

abbrev pub places_of : List FileLineKept → List (List ℕ × ℕ)
places_of lines = map place_of lines

abbrev pub places_read : List FileRead → List (List ℕ × ℕ)
places_read reads = flat_map (λ (r : FileRead). map (λ n. (r.name, n)) (lines_read r.pages.start r.pages.len r.pages.reply)) reads
