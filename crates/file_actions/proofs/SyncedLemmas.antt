-- All lines of a file, which are those of all bytes that a file may have.
use Rattle.std.proofs.Common.{◌≡◌, ℕ, suc, ◌+◌, ◌*◌, ◌/◌, ◌<◌, ◌≤◌, ◌==◌, ◌&&◌, Bool, true, false, cond, List, [], ◌∷◌, length, nat_lt, Option, Some, None, slice_get, refl, sym, ap, ap₂, subst, ◌∙◌, arith}
use Rattle.std.specs.Bool.{Decides}
use Rattle.std.specs.List.{Contains}
use Rattle.std.proofs.lemmas.Bool.{false≢true, le-leb, le-ltb, lt-ltb, ltb-true, and_parts, ne_eqb}
use Rattle.std.proofs.lemmas.List.{length-map}
use Rattle.std.proofs.lemmas.Option.{slice_get_within}
use Rattle.std.proofs.lemmas.Slice.Eq.{bytes_eq-Decides}
use Rattle.line_device.specs.Medium.{Medium}
use Rattle.inode_table.specs.Slots.{pages_at}
use Rattle.nvm_model.specs.Cell.{Cell, flush_cell, lowest_touched, persist_cell, touches}
use Rattle.nvm_model.specs.Cell.Cell.{Bad, Kept}
use Rattle.nvm_model.specs.Files.{OneFileLeft, on_pages}
use Rattle.nvm_model.specs.Interrupted.{MaySync, MaySyncAll}
use Rattle.nvm_model.specs.Listing.{AreAlike, change_file, file_name, is_named}
use Rattle.nvm_model.specs.Numbered.{map_from}
use Rattle.nvm_model.specs.Page.{Page, cell_of, first_bad_line, is_bad_cell, is_present, map_lines, persist, presence_of}
use Rattle.nvm_model.specs.Page.Page.{Absent, Present}
use Rattle.nvm_model.specs.Storage.{File}
use Rattle.nvm_model.specs.Touched.{is_bad_touched, next_bad_touched, persist_spans, persist_touched, touches_any}
use Rattle.nvm_model.proofs.ListedLemmas.{contains-here, contains-later}
use Rattle.nvm_model.proofs.NextLemmas.{lowest-alike, lowest-next}
use Rattle.nvm_model.proofs.OneFileLemmas.{change-same, left-then}
use Rattle.nvm_model.proofs.PageLemmas.{page_of_line}
use Rattle.nvm_model.proofs.SeveralLemmas.{may_sync-after, spans-none, touches-one}
use Rattle.page_lines.proofs.SearchLemmas.{lowest-touched}
use Rattle.file_journal.specs.Files.{UnitFile, files_of, unit_file_name}
use Rattle.file_journal.specs.Object.{JournalState}
use Rattle.file_journal.specs.Standing.{EachReadsFiles, FileStands}
use Rattle.file_journal.specs.Tables.{AreTables}
use Rattle.file_journal.proofs.EachFilesLemmas.{each_files-then}
use Rattle.file_journal.proofs.ReplaceLemmas.{pages_at_most}
use Rattle.file_pages.specs.Object.{IsFileAt, units_of}
use Rattle.file_pages.specs.Refusals as of_pages
use Rattle.file_pages.specs.Refusals.{read_refusal}
use Rattle.file_pages.proofs.ListedLemmas.{that_units}
use Rattle.file_pages.proofs.PassLemmas.{length-pages_on, pages_on}
use Rattle.file_pages.proofs.PlaceLemmas.{PagesOn}
use Rattle.file_actions.specs.Refusals.{all_bytes, sync_refusal}

-- lines below the end are touched
below-touched : (size n : ℕ) → 64 * n < size → touches 0 size n ≡ true
below-touched size n below = ap₂ (λ a b. a && b) (lt-ltb 0 (64 * n + 64) (omega arith)) (lt-ltb (64 * n) (0 + size) (omega (arith, below)))

line-alike : (count n : ℕ) → count ≤ 256 → n < 64 * count → touches 0 (4096 * count) n ≡ touches_any all_bytes n
line-alike count n few below =
    below-touched (4096 * count) n (omega (arith, below))
    ∙ sym (touches-one (record { start = 0; len = 1048576 }) n ∙ below-touched 1048576 n (omega (arith, few, below)))

-- a bad line is one of the pages'
bad-within : (pages : List Page) (n : ℕ) (o : Option Cell) → cell_of pages n ≡ o → is_bad_cell o ≡ true → n < 64 * length pages
bad-within pages n None was bad = absurd (false≢true bad)
bad-within pages n (Some (Kept weak words)) was bad = absurd (false≢true bad)
bad-within pages n (Some Bad) was bad =
    let within = slice_get_within (presence_of pages) (n / 64) true (page_of_line pages n Bad was) in
    omega (arith, within, length-map pages is_present)

test-alike : (a b c : Bool) → (c ≡ true → a ≡ b) → (a && c) ≡ (b && c)
test-alike a b true same = ap (λ x. x && true) (same refl)
test-alike true true false same = refl
test-alike true false false same = refl
test-alike false true false same = refl
test-alike false false false same = refl

-- the lowest bad line
first-bad : (pages : List Page) → 1 ≤ length pages → length pages ≤ 256 → first_bad_line pages 0 (4096 * length pages) ≡ next_bad_touched all_bytes pages 0
unfolding first_bad_line
first-bad pages some few =
    lowest-next all_bytes pages 0 (lowest_touched bad 0 (4096 * length pages))
    (lowest-alike 0 (λ n. touches 0 (4096 * length pages) n && bad n) (is_bad_touched all_bytes pages)
    (λ n. test-alike (touches 0 (4096 * length pages) n) (touches_any all_bytes n) (bad n) (λ is. line-alike (length pages) n few (bad-within pages n (cell_of pages n) refl is)))
    (lowest_touched bad 0 (4096 * length pages))
    (lowest-touched bad 0 0 (4096 * length pages) (lowest_touched bad 0 (4096 * length pages)) (omega (arith, some))
    (ap (λ (p : ℕ → Bool). lowest_touched p 0 (4096 * length pages)) (λ i n. sym (ap (λ b. b && bad n) (le-leb 0 n (omega arith))) i))))
  where
    bad : ℕ → Bool
    bad n = is_bad_cell (cell_of pages n)

looked-at : (pages : List Page) → 1 ≤ length pages → length pages ≤ 256 → read_refusal pages 0 (4096 * length pages) ≡ of_pages.poisoned_at (next_bad_touched all_bytes pages 0)
looked-at pages some few =
    let in_range : nat_lt (4096 * length pages) (0 + 4096 * length pages) ≡ false = le-ltb (4096 * length pages) (0 + 4096 * length pages) (omega arith) in
    let has : (4096 * length pages == 0) ≡ false = ne_eqb (4096 * length pages) 0 (λ e. omega (arith, e, some)) in
    rw (in_range, has) (ap of_pages.poisoned_at (first-bad pages some few))

-- two changes of a list by number that are alike where items are
map_from-alike : {A B : Type 0} (f g : ℕ → A → B) (n : ℕ) (xs : List A) → ((j : ℕ) (x : A) → slice_get xs j ≡ Some x → f (n + j) x ≡ g (n + j) x) → map_from f n xs ≡ map_from g n xs
map_from-alike f g n [] same = refl
map_from-alike f g n (x ∷ xs) same =
    let e : n + 0 ≡ n = omega arith in
    ap₂ (λ v vs. v ∷ vs) (subst (λ k. f k x ≡ g k x) e (same 0 x refl))
    (map_from-alike f g (suc n) xs (λ j y is. let next : n + suc j ≡ suc n + j = omega arith in subst (λ k. f k y ≡ g k y) next (same (suc j) y is)))

-- all lines made durable
all-persisted : (pages : List Page) → ((i : ℕ) (cells : List Cell) → slice_get pages i ≡ Some (Present cells) → length cells ≡ 64) → length pages ≤ 256 → persist 0 (4096 * length pages) pages ≡ persist_spans all_bytes pages
unfolding persist persist_spans
all-persisted pages whole few =
    map_from-alike (map_lines (persist_cell 0 (4096 * length pages))) (map_lines (persist_touched all_bytes)) 0 pages (λ i page is. by_page i page is)
  where
    by_page : (i : ℕ) (page : Page) → slice_get pages i ≡ Some page → map_lines (persist_cell 0 (4096 * length pages)) (0 + i) page ≡ map_lines (persist_touched all_bytes) (0 + i) page
    by_page i Absent is = refl
    by_page i (Present cells) is =
        ap (λ cs. Present cs)
        (map_from-alike (persist_cell 0 (4096 * length pages)) (persist_touched all_bytes) (64 * (0 + i)) cells
        (λ j cell at.
        let size = whole i cells is in
        let line : 64 * (0 + i) + j < 64 * length pages = omega (arith, size, slice_get_within cells j cell at, slice_get_within pages i (Present cells) is) in
        ap (λ b. cond b (flush_cell cell) cell) (line-alike (length pages) (64 * (0 + i) + j) few line)))

-- two changes of a file that are alike on its pages
change-alike : {A : Type 0} (name : A → List ℕ) (R : A → File → Type 0) (text : List ℕ) (f g : List Page → List Page) (xs : List A) (ys : List File)
    → ((x : A) (y : File) → Contains xs x → name x ≡ text → R x y → f y.pages ≡ g y.pages) → AreAlike name file_name R xs ys
    → change_file file_name text (on_pages f) ys ≡ change_file file_name text (on_pages g) ys
change-alike name R text f g [] [] same alike = refl
change-alike name R text f g [] (y ∷ ys) same alike = absurd alike
change-alike name R text f g (x ∷ xs) [] same alike = absurd alike
change-alike name R text f g (x ∷ xs) (y ∷ ys) same alike =
    ap₂ (λ z zs. z ∷ zs) (by_test (is_named file_name text y) (bytes_eq-Decides y.name text))
    (change-alike name R text f g xs ys (λ a b has. same a b (contains-later x xs a has)) alike.2)
  where
    by_test : (b : Bool) → Decides b (y.name ≡ text) → cond b (on_pages f y) y ≡ cond b (on_pages g y) y
    by_test true tells = ap (λ p. let file : File = record { name = y.name; pages = p } in file) (same x y (contains-here x xs x refl) (alike.0 ∙ tells.0 refl) alike.1)
    by_test false tells = refl

may_sync-all : (count : ℕ) → count ≤ 256 → (old new : List Page) → MaySync 0 (4096 * count) old new → MaySyncAll all_bytes old new
may_sync-all count few old new may =
    may_sync-after all_bytes [] (record { start = 0; len = 4096 * count })
    (λ n is.
    let touched : touches 0 (4096 * count) n ≡ true = sym (touches-one (record { start = 0; len = 4096 * count }) n) ∙ is in
    let below = ltb-true (64 * n) (0 + 4096 * count) (and_parts (nat_lt 0 (64 * n + 64)) (nat_lt (64 * n) (0 + 4096 * count)) touched).1 in
    touches-one (record { start = 0; len = 1048576 }) n ∙ below-touched 1048576 n (omega (arith, few, below)))
    old new (subst (λ ps. MaySync 0 (4096 * count) ps new) (sym (spans-none old)) may)

-- of no pages
none-bad : (pages : List Page) → length pages ≡ 0 → sync_refusal pages ≡ None
unfolding next_bad_touched
none-bad [] none = refl
none-bad (page ∷ pages) none = absurd (omega (arith, none))

no-pages : (pages : List Page) → length pages ≡ 0 → persist_spans all_bytes pages ≡ pages
unfolding persist_spans
no-pages [] none = refl
no-pages (page ∷ pages) none = absurd (omega (arith, none))

-- how many pages an inode has
pub record IsCounted (s : JournalState) (inode pages : ℕ) : Type 0 where
  pub are : AreTables s.geo.fpages s.tables
  pub low : inode < 64
  pub count : pages ≡ pages_at s.tables.files inode

module _ {s : JournalState} {inode pages : ℕ} (counted : IsCounted s inode pages) {old : Medium} (listed : List File) (file : File) (at : IsFileAt s old inode listed file) where
  open counted use {are, low, count}

  few : pages ≤ 256
  few = omega (arith, count, pages_at_most s.tables.files inode are.names low)

  sized : length file.pages ≡ pages
  sized = length-pages_on s old inode file.pages (pages_on s old inode listed file are at) ∙ sym count

  -- any file of that name is on the inode's units
  on-units : (x : UnitFile) (y : File) → Contains (files_of s.tables) x → x.name ≡ file.name → FileStands s.geo old x y → PagesOn s.geo (units_of s.tables inode) old y.pages
  on-units x y has is stands =
      subst (λ us. PagesOn s.geo us old y.pages) (that_units s.geo s.tables are inode file.name at.named x has is) (record { there = stands.there; stand = stands.stand })

  pub synced-unrefused : pages ≡ 0 → sync_refusal file.pages ≡ None
  synced-unrefused none = none-bad file.pages (sized ∙ none)

  pub synced-refused : 1 ≤ pages → read_refusal file.pages 0 (4096 * pages) ≡ of_pages.poisoned_at (next_bad_touched all_bytes file.pages 0)
  synced-refused some = ap (λ n. read_refusal file.pages 0 (4096 * n)) (sym sized) ∙ looked-at file.pages (omega (arith, sized, some)) (omega (arith, sized, few))

  pub synced-same : change_file file_name file.name (on_pages (λ ps. persist 0 (4096 * pages) ps)) listed ≡ change_file file_name file.name (on_pages (persist_spans all_bytes)) listed
  synced-same =
      change-alike unit_file_name (FileStands s.geo old) file.name (persist 0 (4096 * pages)) (persist_spans all_bytes) (files_of s.tables) listed
      (λ x y has is stands.
      let on = on-units x y has is stands in
      let size = length-pages_on s old inode y.pages on ∙ sym count in
      ap (λ n. persist 0 (4096 * n) y.pages) (sym size) ∙ all-persisted y.pages on.stand.whole (omega (arith, size, few)))
      at.stand

  pub synced-none : pages ≡ 0 → change_file file_name file.name (on_pages (persist_spans all_bytes)) listed ≡ listed
  synced-none none =
      change-alike unit_file_name (FileStands s.geo old) file.name (persist_spans all_bytes) (λ ps. ps) (files_of s.tables) listed
      (λ x y has is stands. no-pages y.pages (length-pages_on s old inode y.pages (on-units x y has is stands) ∙ sym count ∙ none))
      at.stand
      ∙ change-same file_name file.name listed

  pub synced-images : (new : Medium) → EachReadsFiles s.geo new (OneFileLeft file.name (MaySync 0 (4096 * pages)) listed) → EachReadsFiles s.geo new (OneFileLeft file.name (MaySyncAll all_bytes) listed)
  synced-images new images =
      each_files-then s.geo new (OneFileLeft file.name (MaySync 0 (4096 * pages)) listed) (OneFileLeft file.name (MaySyncAll all_bytes) listed)
      (λ ys left. left-then file.name (MaySync 0 (4096 * pages)) (MaySyncAll all_bytes) (may_sync-all pages few) listed ys left)
      images
