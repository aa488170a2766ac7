-- What an interruption leaves of files passes where the lines of each file do.
use Rattle.std.proofs.Common.{◌≡◌, ◌⊎◌, inl, inr, ℕ, ◌*◌, Bool, true, false, cond, ◌&&◌, ◌||◌, Option, Some, None, List, [], ◌∷◌, length, map, refl, sym, ap, ◌∙◌}
use Rattle.std.specs.List.{list_all}
use Rattle.nvm_model.specs.Touched.{persist_spans}
use Rattle.std.specs.Str.{bytes_eq}
use Rattle.std.proofs.lemmas.Bool.{and_from, or_left, or_right}
use Rattle.std.proofs.lemmas.List.{length-map}
use Rattle.std.proofs.lemmas.Slice.Eq.{bytes_eq-Decides}
use Rattle.line_device.specs.Panel.{Image}
use Rattle.line_device.specs.declared.line.Choice.{Choice}
use Rattle.word_tables.specs.declared.geometry.Geometry.{Geometry}
use Rattle.nvm_model.specs.Files.{OneFileLeft}
use Rattle.nvm_model.specs.Interrupted.{MayStore, MaySyncAll}
use Rattle.nvm_model.specs.Listing.{file_name, has_file}
use Rattle.nvm_model.specs.Page.{Page, cell_of, fill, is_present, presence_of}
use Rattle.nvm_model.specs.Storage.{File, Mapping}
use Rattle.nvm_model.proofs.PageLemmas.{length-fill, length-read_pages}
use Rattle.nvm_model.proofs.AlikeLemmas.{alike-has}
use Rattle.file_journal.specs.Reading.{tables_read}
use Rattle.file_journal.specs.Files.{UnitFile, files_of, unit_file_name}
use Rattle.file_journal.specs.Standing.{KeepsFile, KeepsFiles, file_read, files_read}
use Rattle.script_text.specs.Action.{Action}
use Rattle.machine_model.specs.Commands.{LeavesFiles, MayLeaveFiles, meaning}
use Rattle.machine_model.specs.Meaning.{FilesLeft}
use Rattle.machine_model.specs.Meaning.FilesLeft.{Unchanged, OldOrNew, StoredInPart, SyncedInPart}
use Rattle.machine_model.specs.OnPages.{pages_named}
use Rattle.durable.proofs.NamedPageLemmas.{named-left, named-read}
use Rattle.durable.proofs.WholeLemmas.{pages-there}
use Rattle.outcomes.specs.Files.{FileRead, all_but, each_file, file_fits, files_fit, is_file_reply, is_reply_of, reads_of}
use Rattle.outcomes.specs.Left.{files_may_pass, files_pass, stored_file, synced_file}
use Rattle.outcomes.specs.Pages.{PageRead, all_lines_read, line_fits}
use Rattle.outcomes.proofs.LeftLemmas.{as_one, stored_pass, synced_pass}
use Rattle.outcomes.proofs.TestLemmas.{all_more, each_all}

-- the files that a restart read have the same names
pub read_has : (choice : Choice) (geo : Geometry) (image : Image) (text : List ℕ) (left : List File) → KeepsFiles choice geo image left
    → has_file file_name text (files_read geo image) ≡ has_file file_name text left
unfolding files_read
read_has choice geo image text left keeps =
    same_names (files_of (tables_read geo image.word)) ∙ alike-has unit_file_name file_name (KeepsFile choice geo image) text (files_of (tables_read geo image.word)) left keeps
  where
    same_names : (xs : List UnitFile) → has_file file_name text (map (file_read geo image) xs) ≡ has_file unit_file_name text xs
    same_names [] = refl
    same_names (x ∷ xs) = ap (λ b. bytes_eq x.name text || b) (same_names xs)

-- and files of as many pages
pub read_length : (choice : Choice) (geo : Geometry) (image : Image) (name : List ℕ) (left : List File) → KeepsFiles choice geo image left
    → length (pages_named name (files_read geo image)) ≡ length (pages_named name left)
read_length choice geo image name left keeps =
    let read = named-read choice geo image name left keeps in
    ap length read.is ∙ length-read_pages read.place image (presence_of (pages_named name left)) ∙ length-map (pages_named name left) is_present

reply_at : (r : FileRead) (one other : List File) → has_file file_name r.name one ≡ has_file file_name r.name other
    → length (pages_named r.name one) ≡ length (pages_named r.name other) → is_file_reply one r ≡ is_file_reply other r
reply_at r one other has size =
    ap (λ b. is_reply_of b (4096 * length (pages_named r.name one)) r.pages) has ∙ ap (λ k. is_reply_of (has_file file_name r.name other) (4096 * k) r.pages) size

-- the replies are those of reads of other files that are as large
pub replies_at : (reads : List FileRead) (one other : List File) → ((name : List ℕ) → has_file file_name name one ≡ has_file file_name name other)
    → ((name : List ℕ) → length (pages_named name one) ≡ length (pages_named name other)) → list_all (is_file_reply one) reads ≡ true → list_all (is_file_reply other) reads ≡ true
replies_at reads one other has size right =
    all_more (is_file_reply one) (is_file_reply other) reads (λ r is. sym (reply_at r one other (has r.name) (size r.name)) ∙ is) right

-- files that may be left, whose lines fit the reads
module _ (reads : List FileRead) (left : List File) (right : list_all (is_file_reply left) reads ≡ true)
    (fit : (name : List ℕ) (n : ℕ) → line_fits (reads_of name reads) n (cell_of (pages_named name left) n) ≡ true) where
  fit_at : (old : List File) (test : List ℕ → List PageRead → List Page → Bool) → ((name : List ℕ) → has_file file_name name left ≡ has_file file_name name old)
      → ((name : List ℕ) → length (pages_named name left) ≡ length (pages_named name old)) → ((name : List ℕ) → test name (reads_of name reads) (pages_named name old) ≡ true)
      → files_fit test reads old ≡ true
  fit_at old test has size tests =
      all_more (is_file_reply old) (λ (r : FileRead). is_file_reply old r && test r.name (reads_of r.name reads) (pages_named r.name old)) reads
      (λ r is. and_from (is_file_reply old r) (test r.name (reads_of r.name reads) (pages_named r.name old)) is (tests r.name))
      (replies_at reads left old has size right)

  one_file : (name : List ℕ) (pages : List Page) → pages_named name left ≡ pages → file_fits (reads_of name reads) pages ≡ true
  one_file name pages is = as_one (reads_of name reads) (pages_named name left) (fit name) (all_lines_read (reads_of name reads)) pages is

  all_files : (old : List File) → left ≡ old → files_fit each_file reads old ≡ true
  all_files old is =
      fit_at old each_file (λ name. ap (has_file file_name name) is) (λ name. ap (λ files. length (pages_named name files)) is)
      (λ name. one_file name (pages_named name old) (ap (pages_named name) is))

  -- of one file its pages are as R leaves them
  all_but_one : (text : List ℕ) (R : List Page → List Page → Type 0) (test : List PageRead → List Page → Bool) (old : List File) → OneFileLeft text R old left
      → ((a b : List Page) → R a b → length b ≡ length a)
      → ((name : List ℕ) → (pages_named name left ≡ pages_named name old) ⊎ R (pages_named name old) (pages_named name left) → test (reads_of name reads) (pages_named name old) ≡ true)
      → files_fit (all_but text test) reads old ≡ true
  all_but_one text R test old may size passes =
      fit_at old (all_but text test) (λ name. sym (alike-has file_name file_name _ name old left may)) sizes tests
    where
      sizes : (name : List ℕ) → length (pages_named name left) ≡ length (pages_named name old)
      sizes name = elim (named-left text R name old left may) as (λ _. length (pages_named name left) ≡ length (pages_named name old)) [
        | inl same ↦ ap length same
        | inr part ↦ size (pages_named name old) (pages_named name left) part.1
      ]

      by_name : (name : List ℕ) (b : Bool) → pages_named name left ≡ pages_named name old
          → cond b (test (reads_of name reads) (pages_named name old)) (file_fits (reads_of name reads) (pages_named name old)) ≡ true
      by_name name true same = passes name (inl same)
      by_name name false same = one_file name (pages_named name old) same

      tests : (name : List ℕ) → all_but text test name (reads_of name reads) (pages_named name old) ≡ true
      tests name = elim (named-left text R name old left may) as (λ _. all_but text test name (reads_of name reads) (pages_named name old) ≡ true) [
        | inl same ↦ by_name name (bytes_eq text name) same
        | inr part ↦
            ap (λ b. cond b (test (reads_of name reads) (pages_named name old)) (file_fits (reads_of name reads) (pages_named name old))) ((bytes_eq-Decides text name).1 (sym part.0))
            ∙ passes name (inr part.1)
      ]

  stored_size : (at : ℕ) (bytes : List ℕ) (a b : List Page) → MayStore at bytes a b → length b ≡ length a
  stored_size at bytes a b (inl is) = ap length is
  stored_size at bytes a b (inr may) = pages-there (fill at (length bytes) a) b may.there ∙ length-fill at (length bytes) a

  leaves_pass : (kind : FilesLeft) (old to : List File) → LeavesFiles kind old to left → files_pass kind reads old to ≡ true
  leaves_pass Unchanged old to is = all_files old is
  leaves_pass OldOrNew old to (inl is) = or_left _ _ (all_files old is)
  leaves_pass OldOrNew old to (inr is) = or_right (files_fit each_file reads old) _ (all_files to is)
  leaves_pass (StoredInPart text at bytes) old to may =
      all_but_one text (MayStore at bytes) (stored_file at bytes) old may (stored_size at bytes) (λ name part.
      stored_pass (reads_of name reads) (pages_named name left) (fit name) (all_lines_read (reads_of name reads)) at bytes (pages_named name old) (stored name part))
    where
      stored : (name : List ℕ) → (pages_named name left ≡ pages_named name old) ⊎ MayStore at bytes (pages_named name old) (pages_named name left)
          → MayStore at bytes (pages_named name old) (pages_named name left)
      stored name (inl same) = inl same
      stored name (inr may) = may
  leaves_pass (SyncedInPart text spans) old to may =
      all_but_one text (MaySyncAll spans) (synced_file spans) old may (λ a b part. pages-there a b part.there) (λ name part. synced name part)
    where
      synced : (name : List ℕ) → (pages_named name left ≡ pages_named name old) ⊎ MaySyncAll spans (pages_named name old) (pages_named name left)
          → synced_file spans (reads_of name reads) (pages_named name old) ≡ true
      synced name (inl same) = each_all
          (λ n. line_fits (reads_of name reads) n (cell_of (pages_named name old) n) || line_fits (reads_of name reads) n (cell_of (persist_spans spans (pages_named name old)) n))
          (all_lines_read (reads_of name reads)) (λ n. or_left _ _ (sym (ap (λ p. line_fits (reads_of name reads) n (cell_of p n)) same) ∙ fit name n))
      synced name (inr may) =
          synced_pass (reads_of name reads) (pages_named name left) (fit name) (all_lines_read (reads_of name reads)) spans (pages_named name old) may

  pub files_left_pass : (mappings : List Mapping) (o : Option Action) (old : List File) → MayLeaveFiles mappings o old left → files_may_pass mappings o reads old ≡ true
  files_left_pass mappings None old is = all_files old is
  files_left_pass mappings (Some action) old may = leaves_pass ((meaning action).files_left mappings) old ((meaning action).files mappings old) may
