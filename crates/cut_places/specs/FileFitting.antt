-- Whether files that are held so may be read as is asked.
use Rattle.std.specs.Prelude.{◌*◌, ◌&&◌, ◌||◌, ℕ, Bool, false, not, List, Option, Some, None}
use Rattle.std.specs.List.{list_all}
use Rattle.std.specs.Str.{bytes_eq}
use Rattle.nvm_model.specs.Cell.{touches}
use Rattle.nvm_model.specs.Listing.{file_of}
use Rattle.reply_text.specs.declared.reply.Why.TheVariants as because
use Rattle.sights.specs.Outcomes.Files.{FileRead, reads_of}
use Rattle.sights.specs.Outcomes.Pages.{PageRead, PageReply, is_refused_for, is_reply}
use Rattle.sights.specs.Outcomes.Pages.PageReply.{Shows, Poison, Refuses}
use Rattle.sights.specs.AskedReads.Fitting.{cell_fits}
use Rattle.cut_places.specs.declared.line.FileLine.{FileLine}
use Rattle.cut_places.specs.FileChanges.{FilesChange, LinesChange}
use Rattle.cut_places.specs.FileChanges.FilesChange.{Nothing, Makes, Removes, Renames, Resizes, Changes, Maps, Unmaps}
use Rattle.cut_places.specs.FileChanges.LinesChange.{Puts, Persists, Rewrites, Zeroes, Loses, Weakens, Clears}
use Rattle.cut_places.specs.FilesState.{FileState, FilesState, after, line_of_after, name_seen}

-- a read that is answered so looks at line n
abbrev pub looks_at : ℕ → ℕ → PageReply → ℕ → Bool
looks_at start len (Shows bytes) n = touches start len n
looks_at start len (Poison at) n = touches start len n
looks_at start len (Refuses why) n = false

-- all lines that it looks at pass a test
abbrev pub seen_pass : (FileLine → Bool) → PageRead → List FileLine → Bool
seen_pass test r lines = list_all (λ (line : FileLine). not (looks_at r.start r.len r.reply line.number) || test line) lines

-- and its reply is one that a read has where there is such a file, or none
abbrev pub read_passes : (ℕ → FileLine → Bool) → PageRead → Option FileState → Bool
read_passes test r None = is_refused_for because.Missing r.reply
read_passes test r (Some file) = is_reply (4096 * file.pages) r && seen_pass (test file.pages) r file.lines

-- so it is of all reads, by a test of the lines of each file, of so many pages
abbrev pub reads_pass : (List ℕ → ℕ → FileLine → Bool) → List FileRead → List FileState → Bool
reads_pass test reads files = list_all (λ (r : FileRead). read_passes (test r.name) r.pages (file_of name_seen r.name files)) reads

-- a line of a file of so many pages may be read so as it is now; or, of the file of a name, as it is once it changed
abbrev pub now_fits : List FileRead → List ℕ → ℕ → FileLine → Bool
now_fits reads name pages line = cell_fits (reads_of name reads) line.number line.line

abbrev pub either_fits : List FileRead → List ℕ → LinesChange → List ℕ → ℕ → FileLine → Bool
either_fits reads text change name pages line =
    now_fits reads name pages line || (bytes_eq text name && now_fits reads name pages (line_of_after pages change line))

-- All reads may be answered so, as files are now; as they are or as a change makes them; or where each line of one is so.
abbrev pub fit_now : List FileRead → FilesState → Bool
fit_now reads s = reads_pass (now_fits reads) reads s.files

abbrev pub fit_either : FilesChange → List FileRead → FilesState → Bool
fit_either change reads s = fit_now reads s || fit_now reads (after change s)

abbrev pub fit_by_line : List ℕ → LinesChange → List FileRead → FilesState → Bool
fit_by_line name lines reads s = reads_pass (either_fits reads name lines) reads s.files

-- so they may where a cut falls inside the change
abbrev pub lines_fit_inside : List ℕ → LinesChange → List FileRead → FilesState → Bool
lines_fit_inside name (Puts at bytes) reads s = fit_by_line name (Puts at bytes) reads s
lines_fit_inside name (Persists spans) reads s = fit_by_line name (Persists spans) reads s
lines_fit_inside name (Rewrites ranges bytes) reads s = fit_either (Changes name (Rewrites ranges bytes)) reads s
lines_fit_inside name (Zeroes page count) reads s = fit_either (Changes name (Zeroes page count)) reads s
lines_fit_inside name (Loses line) reads s = fit_now reads s
lines_fit_inside name (Weakens line) reads s = fit_now reads s
lines_fit_inside name (Clears line) reads s = fit_either (Changes name (Clears line)) reads s

abbrev pub fit_inside : FilesChange → List FileRead → FilesState → Bool
fit_inside Nothing reads s = fit_now reads s
fit_inside (Makes name pages) reads s = fit_either (Makes name pages) reads s
fit_inside (Removes name) reads s = fit_either (Removes name) reads s
fit_inside (Renames name to) reads s = fit_either (Renames name to) reads s
fit_inside (Resizes name pages) reads s = fit_either (Resizes name pages) reads s
fit_inside (Changes name lines) reads s = lines_fit_inside name lines reads s
fit_inside (Maps name span kind) reads s = fit_now reads s
fit_inside (Unmaps handle) reads s = fit_now reads s
