-- Looks of several words of files, taken apart: where each word alone is shown, and, inside a command, where each group of them is wholly old or wholly new.
use Rattle.std.specs.Prelude.{◌≡◌, ◌*◌, ◌/◌, ◌%◌, ◌==◌, ◌&&◌, ◌||◌, ℕ, Bool, true, not, List, [], ◌∷◌, Option, Some, None}
use Rattle.std.specs.List.{list_all}
use Rattle.std.specs.Str.{bytes_eq}
use Rattle.nvm_model.specs.Storage.{File, Mapping}
use Rattle.script_text.specs.Action.{Action}
use Rattle.explorer.specs.MachineModel.Commands.{meaning}
use Rattle.explorer.specs.MachineModel.Meaning.{FilesLeft}
use Rattle.explorer.specs.MachineModel.Meaning.FilesLeft.{Unchanged, OldOrNew, StoredInPart, SyncedInPart}
use Rattle.explorer.specs.Outcomes.Files.{FileRead, each_file, files_fit}
use Rattle.explorer.specs.Outcomes.Pages.{PageRead, PageReply}
use Rattle.explorer.specs.Outcomes.Pages.PageReply.{Shows, Poison, Refuses}
use Rattle.outcome_lists.specs.Apart.{grouped}

-- the line that a reply names as bad, if it names one, is that of the word
abbrev pub NamesItsLine : ℕ → PageReply → Type 0
NamesItsLine start (Shows bytes) = Unit {0}
NamesItsLine start (Poison at) = at ≡ 64 * (start / 64)
NamesItsLine start (Refuses why) = Unit {0}

-- a read is of one word
abbrev pub IsOfOneWord : PageRead → Type 0
IsOfOneWord r = (r.start % 8 ≡ 0) × (r.len ≡ 8) × NamesItsLine r.start r.reply

-- two reads are of one file, and begin at the same byte of it; or at bytes of the same line
abbrev pub is_same_word : FileRead → FileRead → Bool
is_same_word r s = bytes_eq r.name s.name && (r.pages.start == s.pages.start)

abbrev pub is_same_line : FileRead → FileRead → Bool
is_same_line r s = bytes_eq r.name s.name && (r.pages.start / 64 == s.pages.start / 64)

-- reads are each of one word of a file, and no two of them of the same one
abbrev pub AreDistinctWords : List FileRead → Type 0
AreDistinctWords [] = Unit {0}
AreDistinctWords (r ∷ reads) = IsOfOneWord r.pages × (list_all (λ s. not (is_same_word r s)) reads ≡ true) × AreDistinctWords reads

-- files show this read alone
abbrev pub shows_word : List File → FileRead → Bool
shows_word files r = files_fit each_file (r ∷ []) files

-- reads of which some are shown by the old files, some by the new ones, as such an interruption may leave them
abbrev pub words_apart : FilesLeft → (FileRead → Bool) → (FileRead → Bool) → List FileRead → Bool
words_apart Unchanged old new reads = list_all old reads
words_apart OldOrNew old new reads = list_all old reads || list_all new reads
words_apart (StoredInPart name offset bytes) old new reads = grouped is_same_line old new reads
words_apart (SyncedInPart name spans) old new reads = grouped is_same_line old new reads

-- by what each read alone is shown, before the interrupted action and after it
abbrev pub words_shown_apart : List Mapping → Option Action → List FileRead → List File → Bool
words_shown_apart mappings None reads files = list_all (shows_word files) reads
words_shown_apart mappings (Some action) reads files =
    words_apart ((meaning action).files_left mappings) (shows_word files) (shows_word ((meaning action).files mappings files)) reads
