-- How files are listed that a command made, or a restart read.
use Rattle.std.proofs.Common.{◌≡◌, ℕ, ◌+◌, Bool, true, false, Option, Some, None, List, [], ◌∷◌, length, map, refl, sym, ap, ap₂, ◌∙◌, ◌/◌, if◌then◌else◌}
use Rattle.std.proofs.lemmas.List.{length-map}
use Rattle.line_device.specs.Panel.{Image}
use Rattle.line_device.specs.declared.line.Choice.{Choice}
use Rattle.word_tables.specs.declared.geometry.Geometry.{Geometry}
use Rattle.nvm_base.specs.declared.files.FileEntry.{FileEntry}
use Rattle.nvm_base.specs.declared.units.Span.{Span}
use Rattle.nvm_model.specs.Cell.{Cell, clear_cell, lose_cell, weaken_cell}
use Rattle.nvm_model.specs.Files.{entry_of_file}
use Rattle.nvm_model.specs.Listing.{AreAlike, file_name}
use Rattle.nvm_model.specs.Page.{Page, change_line, discard, fill, is_present, put}
use Rattle.nvm_model.specs.Storage.{File, Mapping}
use Rattle.nvm_model.specs.Interrupted.{MaySyncAll}
use Rattle.nvm_model.specs.Touched.{persist_spans}
use Rattle.nvm_model.proofs.FileLeftLemmas.{one_left-entries}
use Rattle.nvm_model.proofs.MediaLemmas.{length-change}
use Rattle.nvm_model.proofs.OneFileLemmas.{left-change}
use Rattle.nvm_model.proofs.PageLemmas.{length-discard, length-put_fill, length-read_pages}
use Rattle.nvm_model.proofs.SeveralLemmas.{length-spans}
use Rattle.file_journal.specs.Files.{UnitFile, files_of, unit_file_name}
use Rattle.file_journal.specs.Reading.{tables_read}
use Rattle.file_journal.specs.Standing.{KeepsFile, KeepsFiles, file_read, files_read, line_of_file, pages_there}
use Rattle.file_actions.specs.Refusals.{all_bytes}
use Rattle.file_actions.specs.Rewriting.{rewritten}
use Rattle.script_text.specs.Action.{Action}
use Rattle.script_text.specs.Action.Action.{Create, Delete, Rename, Resize, FWrite, FAtomic, FMulti, FDiscard, FSync, Load, Store, Sync, Flush, FlushVerify, DeepFlush, PoisonFile, WeakenFile, ClearFile}
use Rattle.machine_model.specs.Commands.{meaning}
use Rattle.machine_model.specs.declared.look.Look.{Look}
use Rattle.machine_model.specs.declared.look.Look.TheVariants.{Once, Again}
use Rattle.machine_model.specs.OnFileErrors.{marked_in}
use Rattle.machine_model.specs.OnFileActions.{discarded_in, written_together}
use Rattle.machine_model.specs.OnFlushes.{all_moved, flush_file, flush_through, flush_with, nothing_done, synced_in}
use Rattle.machine_model.specs.OnMappings.{load_through, read_copy, store_through, write_copy}
use Rattle.machine_model.specs.OnPages.{fread, fwrite, stored_in}
use Rattle.nvm_model.specs.Mappings.{is_shared, mapping_of}
use Rattle.durable.specs.Files.{changes_files}
use Rattle.durable.proofs.RewrittenLemmas.{length-rewritten}
use Rattle.durable.proofs.StepKinds.{files_made}

-- what a restart left of files is listed as what it may have left
entries_kept : (choice : Choice) (geo : Geometry) (image : Image) (on : List UnitFile) (files : List File) → AreAlike unit_file_name file_name (KeepsFile choice geo image) on files
    → map entry_of_file (map (file_read geo image) on) ≡ map entry_of_file files
entries_kept choice geo image [] [] alike = refl
entries_kept choice geo image [] (y ∷ ys) alike = absurd alike
entries_kept choice geo image (x ∷ xs) [] alike = absurd alike
entries_kept choice geo image (x ∷ xs) (y ∷ ys) alike =
    let pages : length (file_read geo image x).pages ≡ length y.pages =
    length-read_pages (line_of_file geo x) image (pages_there x) ∙ ap length (sym alike.1.there) ∙ length-map y.pages is_present in
    let one : entry_of_file (file_read geo image x) ≡ entry_of_file y =
    ap₂ (λ (n : List ℕ) (k : ℕ). let e : FileEntry = record { name = n; pages = k } in e) alike.0 pages in
    ap₂ (λ (e : FileEntry) (es : List FileEntry). e ∷ es) one (entries_kept choice geo image xs ys alike.2)

pub entries_read : (choice : Choice) (geo : Geometry) (image : Image) (files : List File) → KeepsFiles choice geo image files
    → map entry_of_file (files_read geo image) ≡ map entry_of_file files
unfolding files_read
entries_read choice geo image files keeps = entries_kept choice geo image (files_of (tables_read geo image.word)) files keeps

-- bytes stored in a file
stored_entries : (name : List ℕ) (offset : ℕ) (bytes : List ℕ) (files : List File) → map entry_of_file (stored_in name offset bytes files) ≡ map entry_of_file files
stored_entries name offset bytes files =
    one_left-entries name (λ old new. length new ≡ length old) (λ old new same. same) files (stored_in name offset bytes files)
    (left-change name (λ pages. put offset bytes (fill offset (length bytes) pages)) (λ old new. length new ≡ length old)
    (λ pages. length-put_fill offset (length bytes) bytes pages) files)

-- lines of one flushed or marked
pub synced_entries : (name : List ℕ) (spans : List Span) (files : List File) → map entry_of_file (synced_in name spans files) ≡ map entry_of_file files
synced_entries name spans files =
    one_left-entries name (λ old new. length new ≡ length old) (λ old new same. same) files (synced_in name spans files)
    (left-change name (persist_spans spans) (λ old new. length new ≡ length old) (length-spans spans) files)

marked_entries : (mark : Cell → Cell) (name : List ℕ) (offset : ℕ) (files : List File) → map entry_of_file (marked_in mark name offset files) ≡ map entry_of_file files
marked_entries mark name offset files =
    one_left-entries name (λ old new. length new ≡ length old) (λ old new same. same) files (marked_in mark name offset files)
    (left-change name (change_line mark (offset / 64)) (λ old new. length new ≡ length old) (length-change mark (offset / 64)) files)

-- pages of one written as a whole, or made holes
rewritten_entries : (name : List ℕ) (ranges : List Span) (bytes : List ℕ) (files : List File)
    → map entry_of_file (written_together name ranges bytes files) ≡ map entry_of_file files
rewritten_entries name ranges bytes files =
    one_left-entries name (λ old new. length new ≡ length old) (λ old new same. same) files (written_together name ranges bytes files)
    (left-change name (rewritten ranges bytes) (λ old new. length new ≡ length old) (length-rewritten ranges bytes) files)

discarded_entries : (name : List ℕ) (page count : ℕ) (files : List File) → map entry_of_file (discarded_in name page count files) ≡ map entry_of_file files
discarded_entries name page count files =
    one_left-entries name (λ old new. length new ≡ length old) (λ old new same. same) files (discarded_in name page count files)
    (left-change name (discard page count) (λ old new. length new ≡ length old) (length-discard page count) files)

flushed_entries : (look : Look) (handle : ℕ) (spans : List Span) (mappings : List Mapping) (files : List File)
    → map entry_of_file ((flush_with look handle spans).files mappings files) ≡ map entry_of_file files
flushed_entries look handle spans mappings files = by_mapping (mapping_of handle mappings)
  where
    by_kind : (m : Mapping) (shared : Bool)
        → map entry_of_file ((if shared then flush_file look m.name (all_moved m.start spans) else nothing_done).files mappings files) ≡ map entry_of_file files
    by_kind m true = synced_entries m.name (all_moved m.start spans) files
    by_kind m false = refl

    by_mapping : (o : Option Mapping) → map entry_of_file (elim o [ None ↦ files | Some m ↦ (flush_through look spans m).files mappings files ]) ≡ map entry_of_file files
    by_mapping None = refl
    by_mapping (Some m) = by_kind m (is_shared m.kind)

pub may_spans-length : (spans : List Span) (old new : List Page) → MaySyncAll spans old new → length new ≡ length old
may_spans-length spans old new left = sym (length-map new is_present) ∙ ap length left.there ∙ length-map old is_present

-- a command that changes no list of files
pub entries_same : (action : Action) (mappings : List Mapping) (files : List File) → changes_files action ≡ false → map entry_of_file ((meaning action).files mappings files) ≡ map entry_of_file files
entries_same (Create name pages) mappings files none = cc none
entries_same (Delete name) mappings files none = cc none
entries_same (Rename name to) mappings files none = cc none
entries_same (Resize name pages) mappings files none = cc none
entries_same (FWrite name offset bytes) mappings files none = stored_entries name offset bytes files
entries_same (FAtomic name offset bytes) mappings files none = rewritten_entries name (record { start = offset; len = length bytes } ∷ []) bytes files
entries_same (FMulti name ranges bytes) mappings files none = rewritten_entries name ranges bytes files
entries_same (FDiscard name page count) mappings files none = discarded_entries name page count files
entries_same (FSync name) mappings files none = synced_entries name all_bytes files
entries_same (Load handle offset len) mappings files none = by_mapping (mapping_of handle mappings)
  where
    by_kind : (m : Mapping) (shared : Bool) → map entry_of_file ((if shared then fread m.name (m.start + offset) len else read_copy m offset len).files mappings files) ≡ map entry_of_file files
    by_kind m true = refl
    by_kind m false = refl

    by_mapping : (o : Option Mapping) → map entry_of_file (elim o [ None ↦ files | Some m ↦ (load_through offset len m).files mappings files ]) ≡ map entry_of_file files
    by_mapping None = refl
    by_mapping (Some m) = by_kind m (is_shared m.kind)
entries_same (Store handle offset bytes) mappings files none = by_mapping (mapping_of handle mappings)
  where
    by_kind : (m : Mapping) (shared : Bool) → map entry_of_file ((if shared then fwrite m.name (m.start + offset) bytes else write_copy handle offset bytes).files mappings files) ≡ map entry_of_file files
    by_kind m true = stored_entries m.name (m.start + offset) bytes files
    by_kind m false = refl

    by_mapping : (o : Option Mapping) → map entry_of_file (elim o [ None ↦ files | Some m ↦ (store_through handle offset bytes m).files mappings files ]) ≡ map entry_of_file files
    by_mapping None = refl
    by_mapping (Some m) = by_kind m (is_shared m.kind)
entries_same (Sync handle offset len) mappings files none = flushed_entries Once handle (record { start = offset; len = len } ∷ []) mappings files
entries_same (Flush handle spans) mappings files none = flushed_entries Once handle spans mappings files
entries_same (FlushVerify handle spans) mappings files none = flushed_entries Again handle spans mappings files
entries_same (DeepFlush handle spans) mappings files none = flushed_entries Once handle spans mappings files
entries_same (ClearFile name offset) mappings files none = marked_entries clear_cell name offset files
entries_same action mappings files none = refl

pub entries_made : (action : Action) (mappings : List Mapping) (files : List File) → changes_files action ≡ false → map entry_of_file (files_made mappings action files) ≡ map entry_of_file files
entries_made (PoisonFile name offset) mappings files none = marked_entries lose_cell name offset files
entries_made (WeakenFile name offset) mappings files none = marked_entries weaken_cell name offset files
entries_made action mappings files none = entries_same action mappings files none

-- and one that changes it marks no lines
pub files_meant : (action : Action) (mappings : List Mapping) (files : List File) → changes_files action ≡ true → files_made mappings action files ≡ (meaning action).files mappings files
files_meant (PoisonFile name offset) mappings files change = cc change
files_meant (WeakenFile name offset) mappings files change = cc change
files_meant action mappings files change = refl
