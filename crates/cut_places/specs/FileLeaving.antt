-- Files as a cut leaves them, so that reads may be answered as is asked.
use Rattle.std.specs.Prelude.{ℕ, Bool, List, map, Option, Some, None, if◌then◌else◌}
use Rattle.nvm_model.specs.Listing.{change_file}
use Rattle.sights.specs.Outcomes.Files.{FileRead}
use Rattle.cut_places.specs.declared.line.FileLine.{FileLine}
use Rattle.cut_places.specs.FileChanges.{FilesChange, LinesChange}
use Rattle.cut_places.specs.FileChanges.FilesChange.{Nothing, Makes, Removes, Renames, Resizes, Changes, Maps, Unmaps}
use Rattle.cut_places.specs.FileChanges.LinesChange.{Puts, Persists, Rewrites, Zeroes, Loses, Weakens, Clears}
use Rattle.cut_places.specs.FileFitting.{fit_inside, fit_now, now_fits}
use Rattle.cut_places.specs.FilesState.{FileState, FilesState, after, line_of_after, name_seen}

-- a line of a file of so many pages: as it is where it fits so, else changed
abbrev pub line_left : List FileRead → List ℕ → LinesChange → ℕ → FileLine → FileLine
line_left reads name change pages line = if now_fits reads name pages line then line else line_of_after pages change line

-- so are the lines of a file of that name
abbrev pub lines_left : List FileRead → List ℕ → LinesChange → FileState → FileState
lines_left reads name change file = record file { lines = map (line_left reads name change file.pages) file.lines }

abbrev pub left_by_line : List ℕ → LinesChange → List FileRead → FilesState → FilesState
left_by_line name change reads s = record s { files = change_file name_seen name (lines_left reads name change) s.files }

-- all files as they are where they fit so, else as the change makes them
abbrev pub left_either : FilesChange → List FileRead → FilesState → FilesState
left_either change reads s = if fit_now reads s then s else after change s

-- what a cut inside a change leaves
abbrev pub left_of_lines : List ℕ → LinesChange → List FileRead → FilesState → FilesState
left_of_lines name (Puts at bytes) reads s = left_by_line name (Puts at bytes) reads s
left_of_lines name (Persists spans) reads s = left_by_line name (Persists spans) reads s
left_of_lines name (Rewrites ranges bytes) reads s = left_either (Changes name (Rewrites ranges bytes)) reads s
left_of_lines name (Zeroes page count) reads s = left_either (Changes name (Zeroes page count)) reads s
left_of_lines name (Loses line) reads s = s
left_of_lines name (Weakens line) reads s = s
left_of_lines name (Clears line) reads s = left_either (Changes name (Clears line)) reads s

abbrev pub left_inside : FilesChange → List FileRead → FilesState → FilesState
left_inside Nothing reads s = s
left_inside (Makes name pages) reads s = left_either (Makes name pages) reads s
left_inside (Removes name) reads s = left_either (Removes name) reads s
left_inside (Renames name to) reads s = left_either (Renames name to) reads s
left_inside (Resizes name pages) reads s = left_either (Resizes name pages) reads s
left_inside (Changes name lines) reads s = left_of_lines name lines reads s
left_inside (Maps name span kind) reads s = s
left_inside (Unmaps handle) reads s = s

-- what one leaves before a command, or inside the change that it makes; and whether the reads may be answered so there
abbrev pub files_left : Option FilesChange → List FileRead → FilesState → FilesState
files_left None reads s = s
files_left (Some change) reads s = left_inside change reads s

abbrev pub fit_there : Option FilesChange → List FileRead → FilesState → Bool
fit_there None reads s = fit_now reads s
fit_there (Some change) reads s = fit_inside change reads s
