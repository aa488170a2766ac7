-- What an interruption may leave of storage: whether some of it passes a test of its lines and blocks.
use Rattle.std.specs.Prelude.{◌/◌, ◌||◌, ℕ, Bool, List, length, Option, Some, None}
use Rattle.nvm_base.specs.declared.units.Span.{Span}
use Rattle.nvm_model.specs.Blocks.{nth}
use Rattle.nvm_model.specs.Cell.{Cell}
use Rattle.nvm_model.specs.Page.{Page, cell_of, fill, persist, put}
use Rattle.nvm_model.specs.Storage.{Block, File, Mapping}
use Rattle.nvm_model.specs.Touched.{persist_spans}
use Rattle.word_tables.specs.declared.geometry.Geometry.{Geometry}
use Rattle.script_text.specs.Action.{Action}
use Rattle.machine_model.specs.Commands.{meaning}
use Rattle.machine_model.specs.Meaning.{BlocksLeft, FilesLeft, VolumeLeft}
use Rattle.machine_model.specs.Meaning.BlocksLeft.{Same, Either, Mixed}
use Rattle.machine_model.specs.Meaning.FilesLeft.{Unchanged, OldOrNew, StoredInPart, SyncedInPart}
use Rattle.machine_model.specs.Meaning.VolumeLeft.{Kept, PartStored, PartSynced, AllOrNone, PageByPage}
use Rattle.outcomes.specs.Files.{FileRead, all_but, each_file, files_fit}
use Rattle.outcomes.specs.Pages.{PageRead, all_lines_read, line_fits}
use Rattle.outcomes.specs.Ways.{all_pass, each_passes, groups_pass}

-- pages that were stored to in part: none of it, or absent ones are filled and each line is stored to or not
abbrev pub stored_passes : ℕ → List ℕ → (ℕ → Option Cell → Bool) → List Page → List ℕ → Bool
stored_passes offset bytes fits old lines =
    all_pass fits (cell_of old) lines
    || each_passes fits (cell_of (fill offset (length bytes) old)) (cell_of (put offset bytes (fill offset (length bytes) old))) lines

abbrev pub volume_passes : VolumeLeft → (ℕ → Option Cell → Bool) → List Page → List Page → List ℕ → Bool
volume_passes Kept fits old to lines = all_pass fits (cell_of old) lines
volume_passes (PartStored offset bytes) fits old to lines = stored_passes offset bytes fits old lines
volume_passes (PartSynced offset len) fits old to lines = each_passes fits (cell_of old) (cell_of (persist offset len old)) lines
volume_passes AllOrNone fits old to lines = all_pass fits (cell_of old) lines || all_pass fits (cell_of to) lines
volume_passes PageByPage fits old to lines = groups_pass fits (λ n. n / 64) (cell_of old) (cell_of to) lines

abbrev pub blocks_pass : BlocksLeft → (ℕ → Block → Bool) → List Block → List Block → List ℕ → Bool
blocks_pass Same fits old to numbers = all_pass fits (nth old) numbers
blocks_pass Either fits old to numbers = all_pass fits (nth old) numbers || all_pass fits (nth to) numbers
blocks_pass Mixed fits old to numbers = each_passes fits (nth old) (nth to) numbers

-- one file that was stored to in part, or of which spans were made durable in part
abbrev pub stored_file : ℕ → List ℕ → List PageRead → List Page → Bool
stored_file offset bytes reads pages = stored_passes offset bytes (line_fits reads) pages (all_lines_read reads)

abbrev pub synced_file : List Span → List PageRead → List Page → Bool
synced_file spans reads pages = each_passes (line_fits reads) (cell_of pages) (cell_of (persist_spans spans pages)) (all_lines_read reads)

abbrev pub files_pass : FilesLeft → List FileRead → List File → List File → Bool
files_pass Unchanged reads old to = files_fit each_file reads old
files_pass OldOrNew reads old to = files_fit each_file reads old || files_fit each_file reads to
files_pass (StoredInPart name offset bytes) reads old to = files_fit (all_but name (stored_file offset bytes)) reads old
files_pass (SyncedInPart name spans) reads old to = files_fit (all_but name (synced_file spans)) reads old

-- what may be left by the interrupted action, if there is one
abbrev pub volume_may_pass : Geometry → Option Action → (ℕ → Option Cell → Bool) → List Page → List ℕ → Bool
volume_may_pass geo None fits old lines = all_pass fits (cell_of old) lines
volume_may_pass geo (Some action) fits old lines = volume_passes ((meaning action).volume_left geo) fits old ((meaning action).volume geo old) lines

abbrev pub blocks_may_pass : Option Action → (ℕ → Block → Bool) → List Block → List ℕ → Bool
blocks_may_pass None fits old numbers = all_pass fits (nth old) numbers
blocks_may_pass (Some action) fits old numbers = blocks_pass (meaning action).blocks_left fits old ((meaning action).blocks old) numbers

abbrev pub files_may_pass : List Mapping → Option Action → List FileRead → List File → Bool
files_may_pass mappings None reads old = files_fit each_file reads old
files_may_pass mappings (Some action) reads old = files_pass ((meaning action).files_left mappings) reads old ((meaning action).files mappings old)
