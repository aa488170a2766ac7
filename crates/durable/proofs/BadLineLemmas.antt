-- Which lines of files are bad once one file was changed.
use Rattle.std.proofs.Common.{◌≡◌, inl, inr, ℕ, ◌+◌, ◌*◌, ◌/◌, ◌%◌, ◌<◌, ◌==◌, Bool, true, false, cond, Option, Some, None, option_and_then, option_map, List, length, replicate, slice_get, refl, sym, ap, subst, ◌∙◌, arith}
use Rattle.std.proofs.lemmas.Option.{slice_get_within}
use Rattle.std.proofs.lemmas.Slice.Eq.{bytes_eq-Decides}
use Rattle.std.specs.Str.{bytes_eq}
use Rattle.nvm_model.specs.Cell.{Cell, clear_cell, put_cell, weaken_cell, zero_cell}
use Rattle.nvm_model.specs.Cell.Cell.{Bad, Kept}
use Rattle.nvm_model.specs.Files.{on_pages}
use Rattle.nvm_model.specs.Listing.{change_file, file_name}
use Rattle.nvm_model.specs.Page.{Page, at_line, cell_in, cell_of, change_line, fill, fill_page, is_bad_cell, put, touches_page}
use Rattle.nvm_model.specs.Page.Page.{Absent, Present}
use Rattle.nvm_model.specs.Storage.{File}
use Rattle.nvm_model.proofs.MediaLemmas.{cell_of-change}
use Rattle.nvm_model.proofs.NumberedLemmas.{slice_get-map_from}
use Rattle.nvm_model.proofs.PageLemmas.{cell_of-put}
use Rattle.nvm_model.proofs.ResizeLemmas.{replicate-item}
use Rattle.machine_model.specs.OnFileErrors.{marked_in}
use Rattle.machine_model.specs.OnPages.{pages_named, stored_in}
use Rattle.durable.proofs.NamedPageLemmas.{named-change, named-own}

-- a bad line is one of the pages'
pub bad_within : (pages : List Page) (n : ℕ) → is_bad_cell (cell_of pages n) ≡ true → n < 64 * length pages
bad_within pages n bad = by_page (slice_get pages (n / 64)) refl bad
  where
    by_page : (o : Option Page) → slice_get pages (n / 64) ≡ o → is_bad_cell (option_and_then (λ page. cell_in page (n % 64)) o) ≡ true → n < 64 * length pages
    by_page None was bad = cc bad
    by_page (Some page) was bad = omega (arith, slice_get_within pages (n / 64) page was)

-- whether a line of the file of a name is bad
abbrev pub bad_named : List ℕ → List File → ℕ → Bool
bad_named name files n = is_bad_cell (cell_of (pages_named name files) n)

-- no line of pages is bad that was not, nor one of files
abbrev pub PagesNoWorse : List Page → List Page → Type 0
PagesNoWorse old new = (n : ℕ) → is_bad_cell (cell_of new n) ≡ true → is_bad_cell (cell_of old n) ≡ true

abbrev pub NoWorse : List File → List File → Type 0
NoWorse old new = (name : List ℕ) (n : ℕ) → bad_named name new n ≡ true → bad_named name old n ≡ true

pub same_no_worse : (old new : List File) → new ≡ old → NoWorse old new
same_no_worse old new same name n bad = sym (ap (λ fs. bad_named name fs n) same) ∙ bad

-- the files of other names stay
pub other_named : (text name : List ℕ) (f : List Page → List Page) (files : List File) (n : ℕ) → bytes_eq text name ≡ false
    → bad_named name (change_file file_name text (on_pages f) files) n ≡ bad_named name files n
other_named text name f files n apart = ap (λ p. is_bad_cell (cell_of p n)) (named-change name text apart (on_pages f) (λ x. refl) files)

pub changed_no_worse : (text : List ℕ) (f : List Page → List Page) (files : List File) → ((pages : List Page) → PagesNoWorse pages (f pages))
    → NoWorse files (change_file file_name text (on_pages f) files)
changed_no_worse text f files each name n bad = by_name (bytes_eq text name) refl
  where
    new : List File
    new = change_file file_name text (on_pages f) files

    own : bad_named text new n ≡ true → bad_named text files n ≡ true
    own is = elim (named-own text f files) as (λ _. bad_named text files n ≡ true) [
      | inl made ↦ each (pages_named text files) n (sym (ap (λ p. is_bad_cell (cell_of p n)) made) ∙ is)
      | inr none ↦ sym (ap (λ p. is_bad_cell (cell_of p n)) none.0) ∙ is
    ]

    by_name : (b : Bool) → bytes_eq text name ≡ b → bad_named name files n ≡ true
    by_name true is =
        let same : text ≡ name = (bytes_eq-Decides text name).0 is in
        subst (λ t. bad_named t files n ≡ true) same (own (subst (λ t. bad_named t new n ≡ true) (sym same) bad))
    by_name false apart = sym (other_named text name f files n apart) ∙ bad

-- bytes that are stored, over holes too
put-bad : (at : ℕ) (bytes : List ℕ) (n : ℕ) (o : Option Cell) → is_bad_cell (option_map (put_cell at bytes n) o) ≡ true → is_bad_cell o ≡ true
put-bad at bytes n None bad = cc bad
put-bad at bytes n (Some Bad) bad = refl
put-bad at bytes n (Some (Kept weak words)) bad = cc bad

zeros-good : (count k : ℕ) → is_bad_cell (slice_get (replicate count zero_cell) k) ≡ true → ⊥
zeros-good count k bad = by_item (slice_get (replicate count zero_cell) k) refl bad
  where
    by_item : (o : Option Cell) → slice_get (replicate count zero_cell) k ≡ o → is_bad_cell o ≡ true → ⊥
    by_item None is bad = cc bad
    by_item (Some cell) is bad = let never = subst (λ c. is_bad_cell (Some c) ≡ true) (replicate-item count zero_cell k cell is) bad in cc never

fill-bad : (start len : ℕ) (pages : List Page) → PagesNoWorse pages (fill start len pages)
unfolding fill
fill-bad start len pages n bad =
    by_page (slice_get pages (n / 64)) (sym (ap (λ (o : Option Page). is_bad_cell (option_and_then (λ page. cell_in page (n % 64)) o)) (slice_get-map_from (fill_page start len) 0 pages (n / 64))) ∙ bad)
  where
    by_page : (o : Option Page) → is_bad_cell (option_and_then (λ page. cell_in page (n % 64)) (option_map (fill_page start len (0 + n / 64)) o)) ≡ true
        → is_bad_cell (option_and_then (λ page. cell_in page (n % 64)) o) ≡ true
    by_page None bad = bad
    by_page (Some Absent) bad = by_test (touches_page start len (0 + n / 64)) bad
      where
        by_test : (t : Bool) → is_bad_cell (cell_in (cond t (Present (replicate 64 zero_cell)) Absent) (n % 64)) ≡ true → false ≡ true
        by_test true bad = absurd (zeros-good 64 (n % 64) bad)
        by_test false bad = bad
    by_page (Some (Present cells)) bad = bad

pub stored_no_worse : (name : List ℕ) (offset : ℕ) (bytes : List ℕ) (files : List File) → NoWorse files (stored_in name offset bytes files)
stored_no_worse name offset bytes files =
    changed_no_worse name (λ pages. put offset bytes (fill offset (length bytes) pages)) files
    (λ pages n bad.
    fill-bad offset (length bytes) pages n
    (put-bad offset bytes n (cell_of (fill offset (length bytes) pages) n) (sym (ap is_bad_cell (cell_of-put offset bytes (fill offset (length bytes) pages) n)) ∙ bad)))

-- a line that is made weak or good
marked-bad : (mark : Cell → Cell) (line n : ℕ) (pages : List Page) → ((cell : Cell) → is_bad_cell (Some (mark cell)) ≡ true → is_bad_cell (Some cell) ≡ true)
    → is_bad_cell (cell_of (change_line mark line pages) n) ≡ true → is_bad_cell (cell_of pages n) ≡ true
marked-bad mark line n pages each bad = by_line (cell_of pages n) (sym (ap is_bad_cell (cell_of-change mark line pages n)) ∙ bad)
  where
    by_test : (t : Bool) (cell : Cell) → is_bad_cell (Some (cond t (mark cell) cell)) ≡ true → is_bad_cell (Some cell) ≡ true
    by_test true cell bad = each cell bad
    by_test false cell bad = bad

    by_line : (o : Option Cell) → is_bad_cell (option_map (at_line mark line n) o) ≡ true → is_bad_cell o ≡ true
    by_line None bad = bad
    by_line (Some cell) bad = by_test (n == line) cell bad

weaken-bad : (cell : Cell) → is_bad_cell (Some (weaken_cell cell)) ≡ true → is_bad_cell (Some cell) ≡ true
weaken-bad Bad bad = refl
weaken-bad (Kept weak words) bad = cc bad

clear-bad : (cell : Cell) → is_bad_cell (Some (clear_cell cell)) ≡ true → is_bad_cell (Some cell) ≡ true
clear-bad Bad bad = refl
clear-bad (Kept weak words) bad = cc bad

pub weakened_no_worse : (name : List ℕ) (offset : ℕ) (files : List File) → NoWorse files (marked_in weaken_cell name offset files)
weakened_no_worse name offset files = changed_no_worse name (change_line weaken_cell (offset / 64)) files (λ pages n. marked-bad weaken_cell (offset / 64) n pages weaken-bad)

pub cleared_no_worse : (name : List ℕ) (offset : ℕ) (files : List File) → NoWorse files (marked_in clear_cell name offset files)
cleared_no_worse name offset files = changed_no_worse name (change_line clear_cell (offset / 64)) files (λ pages n. marked-bad clear_cell (offset / 64) n pages clear-bad)
