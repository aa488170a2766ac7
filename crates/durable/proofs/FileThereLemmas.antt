-- Pages of files that are there have their lines, whatever is done to them.
use Rattle.std.proofs.Common.{◌≡◌, inl, inr, ℕ, ◌+◌, ◌-◌, ◌/◌, Bool, true, false, not, cond, Option, Some, None, option_map, List, [], ◌∷◌, ◌++◌, length, map, replicate, slice_get, take, refl, sym, ap, subst, ◌∙◌, if◌then◌else◌}
use Rattle.std.proofs.lemmas.Bool.{both_ways}
use Rattle.std.proofs.lemmas.Slice.Eq.{bytes_eq-Decides}
use Rattle.std.specs.Bool.{Decides}
use Rattle.nvm_base.specs.declared.units.Span.{Span}
use Rattle.line_device.specs.Panel.{Image}
use Rattle.word_tables.specs.declared.geometry.Geometry.{Geometry}
use Rattle.nvm_model.specs.Files.{OneFileLeft, new_file, on_pages, with_name, with_pages}
use Rattle.nvm_model.specs.Cell.{Cell, clear_cell, lose_cell, weaken_cell}
use Rattle.nvm_model.specs.Interrupted.{MayStore, MaySyncAll}
use Rattle.nvm_model.specs.Listing.{change_file, file_name, file_of, is_before, is_named, put_file, put_some, rename_file, without_file}
use Rattle.nvm_model.specs.Page.{Page, change_line, discard, fill, put}
use Rattle.nvm_model.specs.Page.Page.{Absent}
use Rattle.nvm_model.specs.Mappings.{is_shared, mapping_of}
use Rattle.nvm_model.specs.Storage.{File, Mapping}
use Rattle.nvm_model.specs.Touched.{persist_spans}
use Rattle.nvm_model.proofs.ResizeLemmas.{replicate-item, resized-item}
use Rattle.file_journal.specs.Files.{UnitFile, files_of}
use Rattle.file_journal.specs.Reading.{tables_read}
use Rattle.file_journal.specs.Standing.{file_read, files_read, line_of_file, pages_there}
use Rattle.file_actions.specs.Refusals.{all_bytes}
use Rattle.file_actions.specs.Rewriting.{rewritten}
use Rattle.script_text.specs.Action.{Action}
use Rattle.script_text.specs.Action.Action.{Create, Delete, Rename, Resize, FWrite, FAtomic, FMulti, FDiscard, FSync, Load, Store, Sync, Flush, FlushVerify, DeepFlush, PoisonFile, WeakenFile, ClearFile}
use Rattle.machine_model.specs.Commands.{LeavesFiles, MayLeaveFiles, meaning}
use Rattle.machine_model.specs.Meaning.{FilesLeft}
use Rattle.machine_model.specs.Meaning.FilesLeft.{Unchanged, OldOrNew, StoredInPart, SyncedInPart}
use Rattle.machine_model.specs.Meaning.VolumeLeft.{PartStored}
use Rattle.machine_model.specs.declared.look.Look.{Look}
use Rattle.machine_model.specs.declared.look.Look.TheVariants.{Once, Again}
use Rattle.machine_model.specs.OnFileErrors.{marked_in}
use Rattle.machine_model.specs.OnFlushes.{all_moved, flush_file, flush_through, flush_with, nothing_done, synced_in}
use Rattle.machine_model.specs.OnMappings.{store_through, write_copy}
use Rattle.machine_model.specs.OnPages.{fwrite, pages_named, stored_in}
use Rattle.durable.specs.Durable.{AllHaveLines, HaveLines, IsLineThere}
use Rattle.durable.proofs.FileKeepLemmas.{load-leaves}
use Rattle.durable.proofs.PresenceLemmas.{has_lines, line_in, page_present}
use Rattle.durable.proofs.RewrittenLemmas.{lines-rewritten}
use Rattle.durable.proofs.StepKinds.{files_made}
use Rattle.durable.proofs.ThereLemmas.{lines-change, lines-discard, lines-fill, lines-leaves, lines-may_spans, lines-put, lines-read, lines-spans, there-clear, there-weaken}

-- holes have no lines
lines-holes : (count : ℕ) → HaveLines (replicate count Absent)
lines-holes count n there = by_page (slice_get (replicate count Absent) (n / 64)) refl (sym (page_present (replicate count Absent) n) ∙ there)
  where
    by_page : (o : Option Page) → slice_get (replicate count Absent) (n / 64) ≡ o → has_lines o ≡ true → IsLineThere (line_in n (slice_get (replicate count Absent) (n / 64)))
    by_page None is none = cc none
    by_page (Some page) is some = let hole = replicate-item count Absent (n / 64) page is in cc (some, ap (λ p. has_lines (Some p)) hole)

-- nor have those that a file gets
lines-resized : (count : ℕ) (pages : List Page) → HaveLines pages → HaveLines (take count pages ++ replicate (count - length pages) Absent)
lines-resized count pages whole n there = by_page (slice_get resized (n / 64)) refl (sym (page_present resized n) ∙ there)
  where
    resized : List Page
    resized = take count pages ++ replicate (count - length pages) Absent

    by_page : (o : Option Page) → slice_get resized (n / 64) ≡ o → has_lines o ≡ true → IsLineThere (line_in n (slice_get resized (n / 64)))
    by_page None is none = cc none
    by_page (Some page) is some =
        elim (resized-item count pages Absent (n / 64) page is) as (λ _. IsLineThere (line_in n (slice_get resized (n / 64)))) [
          | inl hole ↦ cc (some, ap (λ p. has_lines (Some p)) hole)
          | inr kept ↦
              subst (λ o. IsLineThere (line_in n o)) (sym is)
              (subst (λ o. IsLineThere (line_in n o)) kept.1 (whole n (page_present pages n ∙ ap has_lines kept.1 ∙ some)))
        ]

lines-put_file : (x : File) (files : List File) → HaveLines x.pages → AllHaveLines files → AllHaveLines (put_file file_name x files)
lines-put_file x [] one all = (one, tt)
lines-put_file x (y ∷ ys) one all = by_order (is_before x.name y.name) (lines-put_file x ys one all.1)
  where
    by_order : (b : Bool) → AllHaveLines (put_file file_name x ys) → AllHaveLines (cond b (x ∷ y ∷ ys) (y ∷ put_file file_name x ys))
    by_order true later = (one, all)
    by_order false later = (all.0, later)

lines-without : (text : List ℕ) (files : List File) → AllHaveLines files → AllHaveLines (without_file file_name text files)
lines-without text [] all = tt
lines-without text (x ∷ xs) all = by_test (is_named file_name text x) (lines-without text xs all.1)
  where
    by_test : (b : Bool) → AllHaveLines (without_file file_name text xs) → AllHaveLines (cond (not b) (x ∷ without_file file_name text xs) (without_file file_name text xs))
    by_test true later = later
    by_test false later = (all.0, later)

lines-changed : (text : List ℕ) (f : File → File) → ((x : File) → HaveLines x.pages → HaveLines (f x).pages) → (files : List File) → AllHaveLines files
    → AllHaveLines (change_file file_name text f files)
lines-changed text f each [] all = tt
lines-changed text f each (x ∷ xs) all = (by_test (is_named file_name text x), lines-changed text f each xs all.1)
  where
    by_test : (b : Bool) → HaveLines (cond b (f x) x).pages
    by_test true = each x all.0
    by_test false = all.0

-- the file of a name
abbrev SomeHasLines : Option File → Type 0
SomeHasLines None = Unit {0}
SomeHasLines (Some x) = HaveLines x.pages

lines-found : (text : List ℕ) (files : List File) → AllHaveLines files → SomeHasLines (file_of file_name text files)
lines-found text [] all = tt
lines-found text (x ∷ xs) all = by_test (is_named file_name text x) (lines-found text xs all.1)
  where
    by_test : (b : Bool) → SomeHasLines (file_of file_name text xs) → SomeHasLines (cond b (Some x) (file_of file_name text xs))
    by_test true later = all.0
    by_test false later = later

pub lines-named : (name : List ℕ) (files : List File) → AllHaveLines files → HaveLines (pages_named name files)
lines-named name files all = by_found (file_of file_name name files) (lines-found name files all)
  where
    by_found : (o : Option File) → SomeHasLines o → HaveLines (elim o [ None ↦ [] | Some file ↦ file.pages ])
    by_found None has = λ n there. cc there
    by_found (Some x) has = has

lines-renamed : (text to : List ℕ) (files : List File) → AllHaveLines files → AllHaveLines (rename_file file_name text (with_name to) files)
lines-renamed text to files all = by_found (file_of file_name text files) (lines-found text files all)
  where
    by_found : (o : Option File) → SomeHasLines o → AllHaveLines (put_some file_name (option_map (with_name to) o) (without_file file_name text files))
    by_found None has = lines-without text files all
    by_found (Some x) has = lines-put_file (with_name to x) (without_file file_name text files) has (lines-without text files all)

lines-stored_in : (name : List ℕ) (offset : ℕ) (bytes : List ℕ) (files : List File) → AllHaveLines files → AllHaveLines (stored_in name offset bytes files)
lines-stored_in name offset bytes files all =
    lines-changed name (on_pages (λ pages. put offset bytes (fill offset (length bytes) pages)))
    (λ x has. lines-put offset bytes (fill offset (length bytes) x.pages) (lines-fill offset (length bytes) x.pages has)) files all

lines-synced_in : (name : List ℕ) (spans : List Span) (files : List File) → AllHaveLines files → AllHaveLines (synced_in name spans files)
lines-synced_in name spans files all = lines-changed name (on_pages (persist_spans spans)) (λ x has. lines-spans spans x.pages has) files all

lines-marked_in : (mark : Cell → Cell) (name : List ℕ) (offset : ℕ) (files : List File) → ((cell : Cell) → IsLineThere (Some cell) → IsLineThere (Some (mark cell))) → AllHaveLines files
    → AllHaveLines (marked_in mark name offset files)
lines-marked_in mark name offset files each all =
    lines-changed name (on_pages (change_line mark (offset / 64))) (λ x has. lines-change mark (offset / 64) x.pages each has) files all

lines-flushed : (look : Look) (handle : ℕ) (spans : List Span) (mappings : List Mapping) (files : List File) → AllHaveLines files
    → AllHaveLines ((flush_with look handle spans).files mappings files)
lines-flushed look handle spans mappings files all = by_mapping (mapping_of handle mappings)
  where
    by_kind : (m : Mapping) (shared : Bool) → AllHaveLines ((if shared then flush_file look m.name (all_moved m.start spans) else nothing_done).files mappings files)
    by_kind m true = lines-synced_in m.name (all_moved m.start spans) files all
    by_kind m false = all

    by_mapping : (o : Option Mapping) → AllHaveLines (elim o [ None ↦ files | Some m ↦ (flush_through look spans m).files mappings files ])
    by_mapping None = all
    by_mapping (Some m) = by_kind m (is_shared m.kind)

lines-files_meant : (action : Action) (mappings : List Mapping) (files : List File) → AllHaveLines files → AllHaveLines ((meaning action).files mappings files)
lines-files_meant (Create name pages) mappings files all = lines-put_file (new_file name pages) files (lines-holes pages) all
lines-files_meant (Delete name) mappings files all = lines-without name files all
lines-files_meant (Rename name to) mappings files all = lines-renamed name to files all
lines-files_meant (Resize name pages) mappings files all = lines-changed name (with_pages pages) (λ x has. lines-resized pages x.pages has) files all
lines-files_meant (FWrite name offset bytes) mappings files all = lines-stored_in name offset bytes files all
lines-files_meant (FAtomic name offset bytes) mappings files all =
    lines-changed name (on_pages (rewritten (record { start = offset; len = length bytes } ∷ []) bytes)) (λ x has. lines-rewritten (record { start = offset; len = length bytes } ∷ []) bytes x.pages has) files all
lines-files_meant (FMulti name ranges bytes) mappings files all =
    lines-changed name (on_pages (rewritten ranges bytes)) (λ x has. lines-rewritten ranges bytes x.pages has) files all
lines-files_meant (FDiscard name page count) mappings files all = lines-changed name (on_pages (discard page count)) (λ x has. lines-discard page count x.pages has) files all
lines-files_meant (FSync name) mappings files all = lines-synced_in name all_bytes files all
lines-files_meant (Load handle offset len) mappings files all = subst AllHaveLines {x = files} (sym (load-leaves handle offset len mappings files)) all
lines-files_meant (Store handle offset bytes) mappings files all = by_mapping (mapping_of handle mappings)
  where
    by_kind : (m : Mapping) (shared : Bool) → AllHaveLines ((if shared then fwrite m.name (m.start + offset) bytes else write_copy handle offset bytes).files mappings files)
    by_kind m true = lines-stored_in m.name (m.start + offset) bytes files all
    by_kind m false = all

    by_mapping : (o : Option Mapping) → AllHaveLines (elim o [ None ↦ files | Some m ↦ (store_through handle offset bytes m).files mappings files ])
    by_mapping None = all
    by_mapping (Some m) = by_kind m (is_shared m.kind)
lines-files_meant (Sync handle offset len) mappings files all = lines-flushed Once handle (record { start = offset; len = len } ∷ []) mappings files all
lines-files_meant (Flush handle spans) mappings files all = lines-flushed Once handle spans mappings files all
lines-files_meant (FlushVerify handle spans) mappings files all = lines-flushed Again handle spans mappings files all
lines-files_meant (DeepFlush handle spans) mappings files all = lines-flushed Once handle spans mappings files all
lines-files_meant (ClearFile name offset) mappings files all = lines-marked_in clear_cell name offset files there-clear all
lines-files_meant action mappings files all = all

pub lines-files_altered : (action : Action) (mappings : List Mapping) (files : List File) → AllHaveLines files → AllHaveLines (files_made mappings action files)
lines-files_altered (PoisonFile name offset) mappings files all = lines-marked_in lose_cell name offset files (λ cell has. tt) all
lines-files_altered (WeakenFile name offset) mappings files all = lines-marked_in weaken_cell name offset files there-weaken all
lines-files_altered action mappings files all = lines-files_meant action mappings files all

-- what an interruption leaves
lines-one_left : (text : List ℕ) (R : List Page → List Page → Type 0) → ((pages left : List Page) → HaveLines pages → R pages left → HaveLines left) → (old new : List File)
    → AllHaveLines old → OneFileLeft text R old new → AllHaveLines new
lines-one_left text R each [] [] all left = tt
lines-one_left text R each [] (y ∷ ys) all left = absurd left
lines-one_left text R each (x ∷ xs) [] all left = absurd left
lines-one_left text R each (x ∷ xs) (y ∷ ys) all left = (by_test (is_named file_name text x) (bytes_eq-Decides x.name text), lines-one_left text R each xs ys all.1 left.2)
  where
    by_test : (b : Bool) → Decides b (x.name ≡ text) → HaveLines y.pages
    by_test true tells = each x.pages y.pages all.0 (left.1.here (tells.0 refl))
    by_test false tells = subst HaveLines {x = x.pages} (sym (left.1.beside (λ is. both_ways false refl (tells.1 is)))) all.0

lines-files_leaves : (how : FilesLeft) (old to new : List File) → AllHaveLines old → AllHaveLines to → LeavesFiles how old to new → AllHaveLines new
lines-files_leaves Unchanged old to new all made is = subst AllHaveLines {x = old} (sym is) all
lines-files_leaves OldOrNew old to new all made (inl is) = subst AllHaveLines {x = old} (sym is) all
lines-files_leaves OldOrNew old to new all made (inr is) = subst AllHaveLines {x = to} (sym is) made
lines-files_leaves (StoredInPart name offset bytes) old to new all made left =
    lines-one_left name (MayStore offset bytes) (λ pages part whole may. lines-leaves (PartStored offset bytes) pages pages part whole whole may) old new all left
lines-files_leaves (SyncedInPart name spans) old to new all made left = lines-one_left name (MaySyncAll spans) (lines-may_spans spans) old new all left

pub lines-files_left : (mappings : List Mapping) (o : Option Action) (old new : List File) → AllHaveLines old → MayLeaveFiles mappings o old new → AllHaveLines new
lines-files_left mappings None old new all is = subst AllHaveLines {x = old} (sym is) all
lines-files_left mappings (Some action) old new all may =
    lines-files_leaves ((meaning action).files_left mappings) old ((meaning action).files mappings old) new all (lines-files_meant action mappings old all) may

-- and what a restart reads
pub lines-files_read : (geo : Geometry) (image : Image) → AllHaveLines (files_read geo image)
unfolding files_read
lines-files_read geo image = by_files (files_of (tables_read geo image.word))
  where
    by_files : (xs : List UnitFile) → AllHaveLines (map (file_read geo image) xs)
    by_files [] = tt
    by_files (x ∷ xs) = (lines-read (line_of_file geo x) image (pages_there x), by_files xs)
