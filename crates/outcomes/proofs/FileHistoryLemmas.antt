-- What each word's history keeps, whatever a command does to files: stated once, of any property of a history.
use Rattle.std.proofs.Common.{◌≡◌, inl, inr, ℕ, zero, suc, ◌+◌, ◌-◌, ◌*◌, ◌/◌, ◌%◌, Bool, true, false, not, cond, Option, Some, None, option_map, option_and_then, List, [], ◌∷◌, ◌++◌, length, replicate, slice_get, take, refl, sym, ap, subst, ◌∙◌, if◌then◌else◌}
use Rattle.nvm_base.specs.declared.units.Span.{Span}
use Rattle.nvm_model.specs.Files.{new_file, on_pages, with_name, with_pages}
use Rattle.nvm_model.specs.Cell.{Cell, clear_cell, lose_cell, weaken_cell}
use Rattle.nvm_model.specs.Listing.{change_file, file_name, file_of, is_before, is_named, put_file, put_some, rename_file, without_file}
use Rattle.nvm_model.specs.Numbered.{list_from}
use Rattle.nvm_model.proofs.NumberedLemmas.{slice_get-map_from}
use Rattle.line_device.specs.Word.{word_at}
use Rattle.std.proofs.lemmas.Option.{same_Some}
use Rattle.nvm_model.specs.Page.{Page, cell_in, change_line, discard, fill, put}
use Rattle.nvm_model.specs.Page.Page.{Absent, Present}
use Rattle.nvm_model.specs.Mappings.{is_shared, mapping_of}
use Rattle.nvm_model.specs.Storage.{File, Mapping}
use Rattle.nvm_model.specs.Touched.{persist_spans}
use Rattle.nvm_model.proofs.ResizeLemmas.{present_page, replicate-item, resized-item}
use Rattle.file_actions.specs.Refusals.{all_bytes}
use Rattle.file_actions.specs.Rewriting.{durable_line, rewritten, rewritten_page, touches_any_page}
use Rattle.script_text.specs.Action.{Action}
use Rattle.script_text.specs.Action.Action.{Create, Delete, Rename, Resize, FWrite, FAtomic, FMulti, FDiscard, FSync, Load, Store, Sync, Flush, FlushVerify, DeepFlush, PoisonFile, WeakenFile, ClearFile}
use Rattle.machine_model.specs.Commands.{meaning}
use Rattle.machine_model.specs.declared.look.Look.{Look}
use Rattle.machine_model.specs.declared.look.Look.TheVariants.{Once, Again}
use Rattle.machine_model.specs.OnFileErrors.{marked_in}
use Rattle.machine_model.specs.OnFlushes.{all_moved, flush_file, flush_through, flush_with, nothing_done, synced_in}
use Rattle.machine_model.specs.OnMappings.{store_through, write_copy}
use Rattle.machine_model.specs.OnPages.{fwrite, stored_in}
use Rattle.durable.proofs.FileKeepLemmas.{load-leaves}
use Rattle.durable.proofs.RewrittenLemmas.{byte_rewritten}
use Rattle.durable.proofs.StepKinds.{files_made}
use Rattle.outcomes.proofs.HistoryLemmas.{AllHold, Brings, Holds, Keeps, clear_hold, discard_hold, fill_hold, lose_hold, put_hold, spans_hold, weaken_hold}

-- the words of each file are so
abbrev pub FilesHold : (List ℕ → Type 0) → List File → Type 0
FilesHold P [] = Unit {0}
FilesHold P (file ∷ files) = AllHold P file.pages × FilesHold P files

-- the file of a name
abbrev SomeHolds : (List ℕ → Type 0) → Option File → Type 0
SomeHolds P None = Unit {0}
SomeHolds P (Some x) = AllHold P x.pages

-- each item of a made list is made of some number
pub item_of : {A : Type 0} (f : ℕ → A) (n count k : ℕ) (x : A) → slice_get (list_from f n count) k ≡ Some x → (j : ℕ) × (f j ≡ x)
item_of f n zero k x is = cc is
item_of f n (suc count) zero x is = (n, same_Some (f n) x is)
item_of f n (suc count) (suc k) x is = item_of f (suc n) count k x is

module _ (P Q : List ℕ → Type 0) (keeps : Keeps P Q) where
  -- holes have no lines
  holes_hold : (count : ℕ) → AllHold P (replicate count Absent)
  holes_hold count n cell is =
      let page = present_page (replicate count Absent) n cell is in
      let hole = replicate-item count Absent (n / 64) (Present page.0) page.1 in cc hole

  -- nor have those that a file gets
  resized_hold : (count : ℕ) (pages : List Page) → AllHold P pages → AllHold P (take count pages ++ replicate (count - length pages) Absent)
  resized_hold count pages have n cell is = by_page (slice_get resized (n / 64)) refl is
    where
      resized : List Page
      resized = take count pages ++ replicate (count - length pages) Absent

      by_page : (o : Option Page) → slice_get resized (n / 64) ≡ o → option_and_then (λ page. cell_in page (n % 64)) o ≡ Some cell → Holds P cell
      by_page None was found = cc found
      by_page (Some page) was found = elim (resized-item count pages Absent (n / 64) page was) as (λ _. Holds P cell) [
        | inl hole ↦ cc (found, ap (λ p. cell_in p (n % 64)) hole)
        | inr kept ↦ have n cell (ap (option_and_then (λ p. cell_in p (n % 64))) kept.1 ∙ found)
      ]

  -- a line of bytes that is durable
  durable_holds : (ranges : List Span) (bytes : List ℕ) (pages : List Page) (n : ℕ) → Q bytes → Holds P (durable_line (byte_rewritten ranges bytes pages) n)
  durable_holds ranges bytes pages n good w history is =
      let item = item_of (λ k. word_at (list_from (byte_rewritten ranges bytes pages) (64 * n) 64) k ∷ []) 0 8 w history is in
      subst P item.1 (keeps.durable ranges bytes pages n item.0 good)

  rewritten_hold : (ranges : List Span) (bytes : List ℕ) (pages : List Page) → Q bytes → AllHold P pages → AllHold P (rewritten ranges bytes pages)
  unfolding rewritten
  rewritten_hold ranges bytes pages good have n cell is =
      by_page (slice_get pages (n / 64)) refl
      (sym (ap (option_and_then (λ page. cell_in page (n % 64))) (slice_get-map_from (rewritten_page ranges bytes pages) 0 pages (n / 64))) ∙ is)
    where
      by_page : (o : Option Page) → slice_get pages (n / 64) ≡ o
          → option_and_then (λ page. cell_in page (n % 64)) (option_map (rewritten_page ranges bytes pages (0 + n / 64)) o) ≡ Some cell → Holds P cell
      by_page None was found = cc found
      by_page (Some page) was found = by_test (touches_any_page ranges (0 + n / 64)) found
        where
          by_test : (t : Bool)
              → cell_in (cond t (Present (list_from (durable_line (byte_rewritten ranges bytes pages)) (64 * (0 + n / 64)) 64)) page) (n % 64) ≡ Some cell → Holds P cell
          by_test true there =
              let item = item_of (durable_line (byte_rewritten ranges bytes pages)) (64 * (0 + n / 64)) 64 (n % 64) cell there in
              subst (Holds P) item.1 (durable_holds ranges bytes pages item.0 good)
          by_test false there = have n cell (ap (option_and_then (λ p. cell_in p (n % 64))) was ∙ there)

  put_file_holds : (x : File) (files : List File) → AllHold P x.pages → FilesHold P files → FilesHold P (put_file file_name x files)
  put_file_holds x [] one all = (one, tt)
  put_file_holds x (y ∷ ys) one all = by_order (is_before x.name y.name) (put_file_holds x ys one all.1)
    where
      by_order : (b : Bool) → FilesHold P (put_file file_name x ys) → FilesHold P (cond b (x ∷ y ∷ ys) (y ∷ put_file file_name x ys))
      by_order true later = (one, all)
      by_order false later = (all.0, later)

  without_holds : (text : List ℕ) (files : List File) → FilesHold P files → FilesHold P (without_file file_name text files)
  without_holds text [] all = tt
  without_holds text (x ∷ xs) all = by_test (is_named file_name text x) (without_holds text xs all.1)
    where
      by_test : (b : Bool) → FilesHold P (without_file file_name text xs) → FilesHold P (cond (not b) (x ∷ without_file file_name text xs) (without_file file_name text xs))
      by_test true later = later
      by_test false later = (all.0, later)

  changed_holds : (text : List ℕ) (f : File → File) → ((x : File) → AllHold P x.pages → AllHold P (f x).pages) → (files : List File) → FilesHold P files
      → FilesHold P (change_file file_name text f files)
  changed_holds text f each [] all = tt
  changed_holds text f each (x ∷ xs) all = (by_test (is_named file_name text x), changed_holds text f each xs all.1)
    where
      by_test : (b : Bool) → AllHold P (cond b (f x) x).pages
      by_test true = each x all.0
      by_test false = all.0

  -- the file of a name
  found_holds : (text : List ℕ) (files : List File) → FilesHold P files → SomeHolds P (file_of file_name text files)
  found_holds text [] all = tt
  found_holds text (x ∷ xs) all = by_test (is_named file_name text x) (found_holds text xs all.1)
    where
      by_test : (b : Bool) → SomeHolds P (file_of file_name text xs) → SomeHolds P (cond b (Some x) (file_of file_name text xs))
      by_test true later = all.0
      by_test false later = later

  renamed_holds : (text to : List ℕ) (files : List File) → FilesHold P files → FilesHold P (rename_file file_name text (with_name to) files)
  renamed_holds text to files all = by_found (file_of file_name text files) (found_holds text files all)
    where
      by_found : (o : Option File) → SomeHolds P o → FilesHold P (put_some file_name (option_map (with_name to) o) (without_file file_name text files))
      by_found None has = without_holds text files all
      by_found (Some x) has = put_file_holds (with_name to x) (without_file file_name text files) has (without_holds text files all)

  stored_in_holds : (name : List ℕ) (offset : ℕ) (bytes : List ℕ) (files : List File) → Q bytes → FilesHold P files → FilesHold P (stored_in name offset bytes files)
  stored_in_holds name offset bytes files good all =
      changed_holds name (on_pages (λ pages. put offset bytes (fill offset (length bytes) pages)))
      (λ x has. put_hold P Q keeps offset bytes good (fill offset (length bytes) x.pages) (fill_hold P Q keeps offset (length bytes) x.pages has)) files all

  synced_in_holds : (name : List ℕ) (spans : List Span) (files : List File) → FilesHold P files → FilesHold P (synced_in name spans files)
  synced_in_holds name spans files all = changed_holds name (on_pages (persist_spans spans)) (λ x has. spans_hold P Q keeps spans x.pages has) files all

  marked_in_holds : (mark : Cell → Cell) (name : List ℕ) (offset : ℕ) (files : List File)
      → ((pages : List Page) → AllHold P pages → AllHold P (change_line mark (offset / 64) pages)) → FilesHold P files → FilesHold P (marked_in mark name offset files)
  marked_in_holds mark name offset files each all = changed_holds name (on_pages (change_line mark (offset / 64))) (λ x has. each x.pages has) files all

  flushed_files_hold : (look : Look) (handle : ℕ) (spans : List Span) (mappings : List Mapping) (files : List File) → FilesHold P files
      → FilesHold P ((flush_with look handle spans).files mappings files)
  flushed_files_hold look handle spans mappings files all = by_mapping (mapping_of handle mappings)
    where
      by_kind : (m : Mapping) (shared : Bool) → FilesHold P ((if shared then flush_file look m.name (all_moved m.start spans) else nothing_done).files mappings files)
      by_kind m true = synced_in_holds m.name (all_moved m.start spans) files all
      by_kind m false = all

      by_mapping : (o : Option Mapping) → FilesHold P (elim o [ None ↦ files | Some m ↦ (flush_through look spans m).files mappings files ])
      by_mapping None = all
      by_mapping (Some m) = by_kind m (is_shared m.kind)

  pub files_made_hold : (action : Action) (mappings : List Mapping) (files : List File) → Brings Q action → FilesHold P files → FilesHold P ((meaning action).files mappings files)
  files_made_hold (Create name pages) mappings files good all = put_file_holds (new_file name pages) files (holes_hold pages) all
  files_made_hold (Delete name) mappings files good all = without_holds name files all
  files_made_hold (Rename name to) mappings files good all = renamed_holds name to files all
  files_made_hold (Resize name pages) mappings files good all = changed_holds name (with_pages pages) (λ x has. resized_hold pages x.pages has) files all
  files_made_hold (FWrite name offset bytes) mappings files good all = stored_in_holds name offset bytes files good all
  files_made_hold (FAtomic name offset bytes) mappings files good all =
      changed_holds name (on_pages (rewritten (record { start = offset; len = length bytes } ∷ []) bytes))
      (λ x has. rewritten_hold (record { start = offset; len = length bytes } ∷ []) bytes x.pages good has) files all
  files_made_hold (FMulti name ranges bytes) mappings files good all =
      changed_holds name (on_pages (rewritten ranges bytes)) (λ x has. rewritten_hold ranges bytes x.pages good has) files all
  files_made_hold (FDiscard name page count) mappings files good all =
      changed_holds name (on_pages (discard page count)) (λ x has. discard_hold P Q keeps page count x.pages has) files all
  files_made_hold (FSync name) mappings files good all = synced_in_holds name all_bytes files all
  files_made_hold (Load handle offset len) mappings files good all = subst (FilesHold P) {x = files} (sym (load-leaves handle offset len mappings files)) all
  files_made_hold (Store handle offset bytes) mappings files good all = by_mapping (mapping_of handle mappings)
    where
      by_kind : (m : Mapping) (shared : Bool) → FilesHold P ((if shared then fwrite m.name (m.start + offset) bytes else write_copy handle offset bytes).files mappings files)
      by_kind m true = stored_in_holds m.name (m.start + offset) bytes files good all
      by_kind m false = all

      by_mapping : (o : Option Mapping) → FilesHold P (elim o [ None ↦ files | Some m ↦ (store_through handle offset bytes m).files mappings files ])
      by_mapping None = all
      by_mapping (Some m) = by_kind m (is_shared m.kind)
  files_made_hold (Sync handle offset len) mappings files good all = flushed_files_hold Once handle (record { start = offset; len = len } ∷ []) mappings files all
  files_made_hold (Flush handle spans) mappings files good all = flushed_files_hold Once handle spans mappings files all
  files_made_hold (FlushVerify handle spans) mappings files good all = flushed_files_hold Again handle spans mappings files all
  files_made_hold (DeepFlush handle spans) mappings files good all = flushed_files_hold Once handle spans mappings files all
  files_made_hold (ClearFile name offset) mappings files good all = marked_in_holds clear_cell name offset files (clear_hold P Q keeps (offset / 64)) all
  files_made_hold action mappings files good all = all

  pub files_after_hold : (action : Action) (mappings : List Mapping) (files : List File) → Brings Q action → FilesHold P files → FilesHold P (files_made mappings action files)
  files_after_hold (PoisonFile name offset) mappings files good all = marked_in_holds lose_cell name offset files (lose_hold P Q keeps (offset / 64)) all
  files_after_hold (WeakenFile name offset) mappings files good all = marked_in_holds weaken_cell name offset files (weaken_hold P Q keeps (offset / 64)) all
  files_after_hold action mappings files good all = files_made_hold action mappings files good all
