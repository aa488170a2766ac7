-- Files whose lines fit the reads are read so, and where a test of what may be left of files passes there are such.
use Rattle.std.proofs.Common.{◌≡◌, ◌⊎◌, inl, inr, ℕ, Bool, true, false, cond, ◌&&◌, ◌||◌, Option, Some, None, option_map, List, [], ◌∷◌, length, map, refl, sym, ap, subst, ◌∙◌}
use Rattle.std.specs.Prelude.{Decides}
use Rattle.std.specs.List.{list_all}
use Rattle.std.specs.Str.{bytes_eq}
use Rattle.std.proofs.lemmas.Bool.{and_parts}
use Rattle.std.proofs.lemmas.Slice.Eq.{bytes_eq-Decides}
use Rattle.nvm_base.specs.declared.units.Span.{Span}
use Rattle.nvm_model.specs.Cell.{Cell, put_cell}
use Rattle.nvm_model.specs.Files.{FileLeft, OneFileLeft, on_pages}
use Rattle.nvm_model.specs.Interrupted.{MayPut, MayStore, MaySyncAll}
use Rattle.nvm_model.specs.Listing.{AreAlike, change_file, file_name, file_of, has_file, is_named}
use Rattle.nvm_model.specs.Numbered.{map_from}
use Rattle.nvm_model.specs.Page.{Page, cell_of, fill, map_lines, put}
use Rattle.nvm_model.specs.Storage.{File, Mapping}
use Rattle.nvm_model.specs.Touched.{persist_spans, persist_touched, touches_any}
use Rattle.nvm_model.proofs.NumberedLemmas.{length-map_from}
use Rattle.nvm_model.proofs.PageLemmas.{cell_of-map, cell_of-put, length-fill}
use Rattle.nvm_model.proofs.SeveralLemmas.{cell_of-spans}
use Rattle.nvm_model.proofs.AlikeLemmas.{alike-has}
use Rattle.script_text.specs.Action.{Action}
use Rattle.machine_model.specs.Commands.{LeavesFiles, MayLeaveFiles, meaning}
use Rattle.machine_model.specs.Meaning.{FilesLeft}
use Rattle.machine_model.specs.Meaning.FilesLeft.{Unchanged, OldOrNew, StoredInPart, SyncedInPart}
use Rattle.machine_model.specs.OnPages.{pages_named}
use Rattle.durable.proofs.NamedPageLemmas.{named-change, named-own, pages_in}
use Rattle.outcomes.specs.Files.{FileRead, all_but, each_file, file_fits, files_fit, is_file_reply, reads_of}
use Rattle.outcomes.specs.Left.{files_may_pass, files_pass, stored_file, synced_file}
use Rattle.outcomes.specs.Outcome.{AllHaveValues, FilesSurvive, HaveValues, MadeHaveValues}
use Rattle.outcomes.specs.Pages.{PageRead, all_lines_read, line_fits}
use Rattle.outcomes.specs.Ways.{all_pass, each_passes}
use Rattle.outcomes.proofs.AmongLemmas.{IsAmong, all_from, all_of}
use Rattle.outcomes.proofs.ChooseLemmas.{either, keep, keep_fits, keep_has, keep_lines, may_leave, may_put}
use Rattle.outcomes.proofs.FileLemmas.{replies_at}
use Rattle.outcomes.proofs.PickLemmas.{pages_survive, picked_none, picked_pages, picked_size}
use Rattle.outcomes.proofs.ValueLemmas.{all_map, fill_have, flushed_has, put_has}

-- a file of which some reads tell, once a restart kept one value of each word
module _ (reads : List FileRead) where
  abbrev picked_file : File → File
  picked_file x = on_pages (picked_pages (reads_of x.name reads)) x

  abbrev pub picked_files : List File → List File
  picked_files files = map picked_file files

  pub files_survive : (files : List File) → AllHaveValues files → FilesSurvive files (picked_files files)
  files_survive [] all = tt
  files_survive (x ∷ files) all = (refl, pages_survive (reads_of x.name reads) x.pages all.0, files_survive files all.1)

  pub named-picked : (name : List ℕ) (files : List File) → pages_named name (picked_files files) ≡ picked_pages (reads_of name reads) (pages_named name files)
  named-picked name [] = sym (picked_none (reads_of name reads))
  named-picked name (x ∷ files) = by_test (is_named file_name name x) (bytes_eq-Decides x.name name) (named-picked name files)
    where
      by_test : (b : Bool) → Decides b (x.name ≡ name) → pages_named name (picked_files files) ≡ picked_pages (reads_of name reads) (pages_named name files)
          → pages_in (cond b (Some (picked_file x)) (file_of file_name name (picked_files files)))
          ≡ picked_pages (reads_of name reads) (pages_in (cond b (Some x) (file_of file_name name files)))
      by_test true tells later = ap (λ n. picked_pages (reads_of n reads) x.pages) (tells.0 refl)
      by_test false tells later = later

  pub picked_has : (name : List ℕ) (files : List File) → has_file file_name name files ≡ has_file file_name name (picked_files files)
  picked_has name [] = refl
  picked_has name (x ∷ files) = ap (λ b. bytes_eq x.name name || b) (picked_has name files)

  pub picked_length : (name : List ℕ) (files : List File) → length (pages_named name files) ≡ length (pages_named name (picked_files files))
  picked_length name files = sym (ap length (named-picked name files) ∙ picked_size (reads_of name reads) (pages_named name files))

-- a read of a file is one of those of that file
pub among_reads : (r : FileRead) (some : List FileRead) → IsAmong r some → IsAmong r.pages (reads_of r.name some)
among_reads r [] is = absurd is
among_reads r (x ∷ some) (inl same) = by_test (bytes_eq x.name r.name) ((bytes_eq-Decides x.name r.name).1 (sym (ap (λ (f : FileRead). f.name) same)))
  where
    by_test : (b : Bool) → b ≡ true → IsAmong r.pages (cond b (x.pages ∷ reads_of r.name some) (reads_of r.name some))
    by_test true is = inl (ap (λ (f : FileRead). f.pages) same)
    by_test false is = cc is
among_reads r (x ∷ some) (inr later) = by_test (bytes_eq x.name r.name) (among_reads r some later)
  where
    by_test : (b : Bool) → IsAmong r.pages (reads_of r.name some) → IsAmong r.pages (cond b (x.pages ∷ reads_of r.name some) (reads_of r.name some))
    by_test true there = inr there
    by_test false there = there

-- pages of one file that were stored to in part, or made durable in part, as the reads want it
module _ (rs : List PageRead) where
  abbrev stored_as : ℕ → List ℕ → List Page → List Page
  stored_as at bytes pages =
      cond (all_pass (line_fits rs) (cell_of pages) (all_lines_read rs)) pages (map_from (map_lines (keep rs (put_cell at bytes))) 0 (fill at (length bytes) pages))

  abbrev synced_as : List Span → List Page → List Page
  synced_as spans pages = map_from (map_lines (keep rs (persist_touched spans))) 0 pages

  stored_may : (at : ℕ) (bytes : List ℕ) (pages : List Page) → MayStore at bytes pages (stored_as at bytes pages)
  stored_may at bytes pages = by_test (all_pass (line_fits rs) (cell_of pages) (all_lines_read rs))
    where
      by_test : (b : Bool) → MayStore at bytes pages (cond b pages (map_from (map_lines (keep rs (put_cell at bytes))) 0 (fill at (length bytes) pages)))
      by_test true = inl refl
      by_test false = inr (keep_lines rs (MayPut at bytes) (put_cell at bytes) (fill at (length bytes) pages) (may_leave at bytes) (may_put at bytes))

  synced_may : (spans : List Span) (pages : List Page) → MaySyncAll spans pages (synced_as spans pages)
  synced_may spans pages =
      keep_lines rs (λ n cell new. (new ≡ cell) ⊎ (new ≡ persist_touched spans n cell)) (persist_touched spans) pages (λ n cell. inl refl) (λ n cell. inr refl)

  stored_values : (at : ℕ) (bytes : List ℕ) (pages : List Page) → HaveValues pages → HaveValues (stored_as at bytes pages)
  stored_values at bytes pages have = by_test (all_pass (line_fits rs) (cell_of pages) (all_lines_read rs))
    where
      by_test : (b : Bool) → HaveValues (cond b pages (map_from (map_lines (keep rs (put_cell at bytes))) 0 (fill at (length bytes) pages)))
      by_test true = have
      by_test false = all_map (keep rs (put_cell at bytes)) (fill at (length bytes) pages)
          (keep_has rs (put_cell at bytes) (λ n cell has. put_has at bytes n cell has)) (fill_have at (length bytes) pages have)

  synced_values : (spans : List Span) (pages : List Page) → HaveValues pages → HaveValues (synced_as spans pages)
  synced_values spans pages have =
      all_map (keep rs (persist_touched spans)) pages (keep_has rs (persist_touched spans) (λ n cell has. flushed_has (touches_any spans n) cell has)) have

  stored_size : (at : ℕ) (bytes : List ℕ) (pages : List Page) → length (stored_as at bytes pages) ≡ length pages
  stored_size at bytes pages = by_test (all_pass (line_fits rs) (cell_of pages) (all_lines_read rs))
    where
      by_test : (b : Bool) → length (cond b pages (map_from (map_lines (keep rs (put_cell at bytes))) 0 (fill at (length bytes) pages))) ≡ length pages
      by_test true = refl
      by_test false = length-map_from _ 0 (fill at (length bytes) pages) ∙ length-fill at (length bytes) pages

  kept_fits : (made : ℕ → Cell → Cell) (old other : List Page) → ((n : ℕ) → cell_of other n ≡ option_map (made n) (cell_of old n))
      → each_passes (line_fits rs) (cell_of old) (cell_of other) (all_lines_read rs) ≡ true → (n : ℕ) → IsAmong n (all_lines_read rs)
      → line_fits rs n (cell_of (map_from (map_lines (keep rs made)) 0 old) n) ≡ true
  kept_fits made old other are passes n among =
      ap (line_fits rs n) (cell_of-map (keep rs made) old n) ∙ keep_fits rs made n (cell_of old n)
      (sym (ap (λ o. line_fits rs n (cell_of old n) || line_fits rs n o) (are n))
      ∙ all_of (λ k. line_fits rs k (cell_of old k) || line_fits rs k (cell_of other k)) n (all_lines_read rs) passes among)

  stored_fits : (at : ℕ) (bytes : List ℕ) (pages : List Page) → stored_file at bytes rs pages ≡ true → (n : ℕ) → IsAmong n (all_lines_read rs)
      → line_fits rs n (cell_of (stored_as at bytes pages) n) ≡ true
  stored_fits at bytes pages passes n among = by_test (all_pass (line_fits rs) (cell_of pages) (all_lines_read rs)) refl passes
    where
      by_test : (b : Bool) → all_pass (line_fits rs) (cell_of pages) (all_lines_read rs) ≡ b
          → (b || each_passes (line_fits rs) (cell_of (fill at (length bytes) pages)) (cell_of (put at bytes (fill at (length bytes) pages))) (all_lines_read rs)) ≡ true
          → line_fits rs n (cell_of (cond b pages (map_from (map_lines (keep rs (put_cell at bytes))) 0 (fill at (length bytes) pages))) n) ≡ true
      by_test true is some = all_of (λ k. line_fits rs k (cell_of pages k)) n (all_lines_read rs) is among
      by_test false is part =
          kept_fits (put_cell at bytes) (fill at (length bytes) pages) (put at bytes (fill at (length bytes) pages)) (cell_of-put at bytes (fill at (length bytes) pages)) part n among

-- files that may be left, and that fit
pub record Leaves (reads : List FileRead) (May : List File → Type 0) : Type 0 where
  pub left : List File
  pub may : May left
  pub right : list_all (is_file_reply left) reads ≡ true
  pub fit : (r : FileRead) → IsAmong r reads → (n : ℕ) → IsAmong n (all_lines_read (reads_of r.name reads))
      → line_fits (reads_of r.name reads) n (cell_of (pages_named r.name left) n) ≡ true
  pub values : AllHaveValues left

module _ (reads : List FileRead) where
  -- what one read tells of a test of all
  of_read : (test : List ℕ → List PageRead → List Page → Bool) (files : List File) → files_fit test reads files ≡ true → (r : FileRead) → IsAmong r reads
      → (is_file_reply files r ≡ true) × (test r.name (reads_of r.name reads) (pages_named r.name files) ≡ true)
  of_read test files passes r among =
      and_parts (is_file_reply files r) (test r.name (reads_of r.name reads) (pages_named r.name files))
      (all_of (λ (x : FileRead). is_file_reply files x && test x.name (reads_of x.name reads) (pages_named x.name files)) r reads passes among)

  replies_of : (test : List ℕ → List PageRead → List Page → Bool) (files : List File) → files_fit test reads files ≡ true → list_all (is_file_reply files) reads ≡ true
  replies_of test files passes = all_from (is_file_reply files) reads (λ r among. (of_read test files passes r among).0)

  as_it_is : (May : List File → Type 0) (files : List File) → May files → AllHaveValues files → files_fit each_file reads files ≡ true → Leaves reads May
  as_it_is May files may have passes = record {
    left = files;
    may = may;
    right = replies_of each_file files passes;
    fit = λ r among n at. all_of (λ k. line_fits (reads_of r.name reads) k (cell_of (pages_named r.name files) k)) n (all_lines_read (reads_of r.name reads))
        (of_read each_file files passes r among).1 at;
    values = have;
  }

  -- one file changed, whose pages may become those
  module _ (text : List ℕ) (R : List Page → List Page → Type 0) (made : List Page → List Page) (may : (pages : List Page) → R pages (made pages))
      (size : (pages : List Page) → length (made pages) ≡ length pages) (has : (pages : List Page) → HaveValues pages → HaveValues (made pages))
      (test : List PageRead → List Page → Bool) (fits : (pages : List Page) → test (reads_of text reads) pages ≡ true → (n : ℕ) → IsAmong n (all_lines_read (reads_of text reads))
      → line_fits (reads_of text reads) n (cell_of (made pages) n) ≡ true) where
    changed : List File → List File
    changed files = change_file file_name text (on_pages made) files

    one_left : (files : List File) → OneFileLeft text R files (changed files)
    unfolding changed
    one_left [] = tt
    one_left (x ∷ files) = by_test (is_named file_name text x) (bytes_eq-Decides x.name text) (one_left files)
      where
        by_test : (b : Bool) → Decides b (x.name ≡ text) → OneFileLeft text R files (changed files)
            → AreAlike file_name file_name (FileLeft text R) (x ∷ files) (cond b (on_pages made x) x ∷ changed files)
        by_test true tells rest = (refl, record { here = λ same. may x.pages; beside = λ other. absurd (other (tells.0 refl)) }, rest)
        by_test false tells rest = (refl, record { here = λ same. cc (tells.1 same); beside = λ other. refl }, rest)

    changed_values : (files : List File) → AllHaveValues files → AllHaveValues (changed files)
    unfolding changed
    changed_values [] all = tt
    changed_values (x ∷ files) all = (by_test (is_named file_name text x), changed_values files all.1)
      where
        by_test : (b : Bool) → HaveValues (cond b (on_pages made x) x).pages
        by_test true = has x.pages all.0
        by_test false = all.0

    nothing_made : (pages : List Page) → pages ≡ [] → made pages ≡ []
    nothing_made pages none = no_items (made pages) (size pages ∙ ap length none)
      where
        no_items : (xs : List Page) → length xs ≡ 0 → xs ≡ []
        no_items [] is = refl
        no_items (x ∷ xs) is = cc is

    own_pages : (name : List ℕ) (files : List File) → text ≡ name → pages_named name (changed files) ≡ made (pages_named name files)
    unfolding changed
    own_pages name files same = subst (λ t. pages_named t (change_file file_name text (on_pages made) files) ≡ made (pages_named t files)) same
        (elim (named-own text made files) as (λ _. pages_named text (change_file file_name text (on_pages made) files) ≡ made (pages_named text files)) [
          | inl is ↦ is
          | inr none ↦ none.0 ∙ none.1 ∙ sym (nothing_made (pages_named text files) none.1)
        ])

    other_pages : (name : List ℕ) (files : List File) → bytes_eq text name ≡ false → pages_named name (changed files) ≡ pages_named name files
    unfolding changed
    other_pages name files differ = named-change name text differ (on_pages made) (λ x. refl) files

    changed_size : (files : List File) (name : List ℕ) → length (pages_named name files) ≡ length (pages_named name (changed files))
    changed_size files name = by_test (bytes_eq text name) refl (bytes_eq-Decides text name)
      where
        by_test : (b : Bool) → bytes_eq text name ≡ b → Decides (bytes_eq text name) (text ≡ name) → length (pages_named name files) ≡ length (pages_named name (changed files))
        by_test true is tells = sym (ap length (own_pages name files (tells.0 is)) ∙ size (pages_named name files))
        by_test false is tells = sym (ap length (other_pages name files is))

    one_changed : (May : List File → Type 0) (files : List File) → May (changed files) → AllHaveValues files → files_fit (all_but text test) reads files ≡ true → Leaves reads May
    one_changed May files may_be have passes = record {
      left = changed files;
      may = may_be;
      right = replies_at reads files (changed files) (λ name. alike-has file_name file_name (FileLeft text R) name files (changed files) (one_left files)) (changed_size files)
          (replies_of (all_but text test) files passes);
      fit = λ r among n at. by_test r n at (bytes_eq text r.name) refl (bytes_eq-Decides text r.name) (of_read (all_but text test) files passes r among).1;
      values = changed_values files have;
    }
      where
        by_test : (r : FileRead) (n : ℕ) → IsAmong n (all_lines_read (reads_of r.name reads)) → (b : Bool) → bytes_eq text r.name ≡ b → Decides (bytes_eq text r.name) (text ≡ r.name)
            → cond (bytes_eq text r.name) (test (reads_of r.name reads) (pages_named r.name files)) (file_fits (reads_of r.name reads) (pages_named r.name files)) ≡ true
            → line_fits (reads_of r.name reads) n (cell_of (pages_named r.name (changed files)) n) ≡ true
        by_test r n at true is tells passed =
            let same : text ≡ r.name = tells.0 is in
            let tested : test (reads_of r.name reads) (pages_named r.name files) ≡ true =
            sym (ap (λ b. cond b (test (reads_of r.name reads) (pages_named r.name files)) (file_fits (reads_of r.name reads) (pages_named r.name files))) is) ∙ passed in
            ap (λ p. line_fits (reads_of r.name reads) n (cell_of p n)) (own_pages r.name files same)
            ∙ subst (λ t. test (reads_of t reads) (pages_named r.name files) ≡ true → IsAmong n (all_lines_read (reads_of t reads)) → line_fits (reads_of t reads) n (cell_of (made (pages_named r.name files)) n) ≡ true)
            same (λ passed_there at_there. fits (pages_named r.name files) passed_there n at_there) tested at
        by_test r n at false is tells passed =
            let tested : file_fits (reads_of r.name reads) (pages_named r.name files) ≡ true =
            sym (ap (λ b. cond b (test (reads_of r.name reads) (pages_named r.name files)) (file_fits (reads_of r.name reads) (pages_named r.name files))) is) ∙ passed in
            ap (λ p. line_fits (reads_of r.name reads) n (cell_of p n)) (other_pages r.name files is)
            ∙ all_of (λ k. line_fits (reads_of r.name reads) k (cell_of (pages_named r.name files) k)) n (all_lines_read (reads_of r.name reads)) tested at

  by_kind : (kind : FilesLeft) (old to : List File) → AllHaveValues old → AllHaveValues to → files_pass kind reads old to ≡ true → Leaves reads (LeavesFiles kind old to)
  by_kind Unchanged old to have have_to passes = as_it_is (λ left. left ≡ old) old refl have passes
  by_kind OldOrNew old to have have_to passes =
      elim (either (files_fit each_file reads old) (files_fit each_file reads to) passes) as (λ _. Leaves reads (LeavesFiles OldOrNew old to)) [
        | inl none ↦ as_it_is (LeavesFiles OldOrNew old to) old (inl refl) have none
        | inr all ↦ as_it_is (LeavesFiles OldOrNew old to) to (inr refl) have_to all
      ]
  by_kind (StoredInPart text at bytes) old to have have_to passes =
      let rs = reads_of text reads in
      one_changed text (MayStore at bytes) (stored_as rs at bytes) (stored_may rs at bytes) (stored_size rs at bytes) (stored_values rs at bytes)
      (stored_file at bytes) (stored_fits rs at bytes) (LeavesFiles (StoredInPart text at bytes) old to) old
      (one_left text (MayStore at bytes) (stored_as rs at bytes) (stored_may rs at bytes) (stored_size rs at bytes) (stored_values rs at bytes)
      (stored_file at bytes) (stored_fits rs at bytes) old) have passes
  by_kind (SyncedInPart text spans) old to have have_to passes =
      let rs = reads_of text reads in
      one_changed text (MaySyncAll spans) (synced_as rs spans) (synced_may rs spans) (λ pages. length-map_from _ 0 pages) (synced_values rs spans)
      (synced_file spans) (λ pages passed. kept_fits rs (persist_touched spans) pages (persist_spans spans pages) (cell_of-spans spans pages) passed) (LeavesFiles (SyncedInPart text spans) old to) old
      (one_left text (MaySyncAll spans) (synced_as rs spans) (synced_may rs spans) (λ pages. length-map_from _ 0 pages) (synced_values rs spans)
      (synced_file spans) (λ pages passed. kept_fits rs (persist_touched spans) pages (persist_spans spans pages) (cell_of-spans spans pages) passed) old) have passes

  pub files_left : (mappings : List Mapping) (o : Option Action) (old : List File) → AllHaveValues old → MadeHaveValues mappings o old → files_may_pass mappings o reads old ≡ true
      → Leaves reads (MayLeaveFiles mappings o old)
  files_left mappings None old have made passes = as_it_is (λ left. left ≡ old) old refl have passes
  files_left mappings (Some action) old have made passes =
      by_kind ((meaning action).files_left mappings) old ((meaning action).files mappings old) have made passes
