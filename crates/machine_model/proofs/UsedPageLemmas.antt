-- How many pages of files are no holes, by the units of the journal's tables.
use Rattle.std.proofs.Common.{◌≡◌, ◌+◌, ◌-◌, ◌*◌, ◌<◌, ◌≤◌, ℕ, zero, suc, Bool, count_by, sum_by, take, cond, is_some, Option, Some, None, option_map, List, [], ◌∷◌, length, map, slice_get, slice_index_or, refl, sym, ap, ◌∙◌, arith}
use Rattle.std.proofs.lemmas.List.{take_all}
use Rattle.std.proofs.lemmas.List.Sums.{sum_by-cons, sum_by_more}
use Rattle.std.proofs.lemmas.Option.{get_or_from_slice_get, slice_get-get_or}
use Rattle.line_device.specs.Medium.{Medium}
use Rattle.nvm_base.specs.declared.files.FileEntry.{FileEntry}
use Rattle.word_tables.specs.declared.geometry.Geometry.{Geometry}
use Rattle.inode_table.specs.Slots.{pages_at, pages_of}
use Rattle.page_table.specs.Pages.{used_by, used_pages}
use Rattle.nvm_model.specs.Listing.{file_name}
use Rattle.nvm_model.specs.Numbered.{list_from}
use Rattle.nvm_model.specs.Page.{is_present}
use Rattle.nvm_model.specs.Storage.{File}
use Rattle.nvm_model.proofs.SumLemmas.{of_slot, sum-alike, sum-in_order, sum-next}
use Rattle.file_journal.specs.Files.{UnitFile, files_of, unit_file, unit_file_name, unit_slots}
use Rattle.file_journal.specs.Standing.{FileStands, FilesStand}
use Rattle.file_journal.specs.Tables.{AreTables, Tables, unit_at}
use Rattle.file_journal.proofs.FilesOfLemmas.{slot_of-file}
use Rattle.file_journal.proofs.ReplaceLemmas.{pages_at_most}
use Rattle.file_journal.proofs.UnitFileLemmas.{unit_at-past}
use Rattle.marked_lines.proofs.FileCountLemmas.{length-unit_slots}
use Rattle.machine_model.specs.OnPages.{pages_used, pages_used_in}

-- how many units a file is on
abbrev units_used : UnitFile → ℕ
units_used on = used_pages on.units

counted-map : {A : Type 0} (test : A → Bool) (xs : List A) → count_by test xs ≡ count_by (λ b. b) (map test xs)
counted-map test [] = refl
counted-map test (x ∷ xs) =
    sum_by-cons (λ y. cond (test y) 1 0) x xs ∙ ap (λ n. cond (test x) 1 0 + n) (counted-map test xs) ∙ sym (sum_by-cons (λ b. cond b 1 0) (test x) (map test xs))

file_used : (geo : Geometry) (m : Medium) (on : UnitFile) (file : File) → FileStands geo m on file → units_used on ≡ pages_used_in file
file_used geo m on file stands = counted-map is_some on.units ∙ ap (count_by (λ b. b)) (sym stands.there) ∙ sym (counted-map is_present file.pages)

-- all files, inode by inode
files_used : (geo : Geometry) (m : Medium) (t : Tables) (files : List File) → FilesStand geo m t files → pages_used files ≡ sum_by (of_slot units_used) (unit_slots t)
files_used geo m t files stand =
    sym (sum-alike unit_file_name file_name (FileStands geo m) units_used pages_used_in (files_of t) files (file_used geo m) stand)
    ∙ sum-in_order unit_file_name units_used (unit_slots t)

added : (a b c d e : ℕ) → a ≡ b + c → b ≡ d + e → a ≡ d + (e + c)
added a b c d e one two = omega arith

-- so many pages of an inode
pages_used-from : (t : Tables) (inode k : ℕ) → 256 * inode + k ≤ length t.pages
    → used_pages (take (256 * inode + k) t.pages) ≡ used_pages (take (256 * inode) t.pages) + sum_by used_by (list_from (unit_at t inode) 0 k)
pages_used-from t inode zero within =
    let e : 256 * inode + zero ≡ 256 * inode = omega arith in
    let none : used_pages (take (256 * inode) t.pages) ≡ used_pages (take (256 * inode) t.pages) + 0 = omega arith in
    ap (λ n. used_pages (take n t.pages)) e ∙ none
pages_used-from t inode (suc k) within =
    let first = 256 * inode in
    let more : first + suc k ≡ first + k + 1 = omega arith in
    let next : k + 1 ≡ suc k = omega arith in
    let at : 0 + k ≡ k = omega arith in
    ap (λ n. used_pages (take n t.pages)) more
    ∙ added (used_pages (take (first + k + 1) t.pages)) (used_pages (take (first + k) t.pages)) (used_by (unit_at t inode k)) (used_pages (take first t.pages))
    (sum_by used_by (list_from (unit_at t inode) 0 k))
    (sum_by_more used_by t.pages (first + k) None (omega (arith, within))) (pages_used-from t inode k (omega (arith, within)))
    ∙ ap (λ n. used_pages (take first t.pages) + n)
    (ap (λ j. sum_by used_by (list_from (unit_at t inode) 0 k) + used_by (unit_at t inode j)) (sym at) ∙ sym (sum-next used_by (unit_at t inode) 0 k)
    ∙ ap (λ n. sum_by used_by (list_from (unit_at t inode) 0 n)) next)

module _ (size : ℕ) (t : Tables) (are : AreTables size t) (inode : ℕ) (low : inode < 64) where
  -- those past the file's count are none
  used-counted : (k : ℕ) → pages_at t.files inode + k ≤ 256
      → sum_by used_by (list_from (unit_at t inode) 0 (pages_at t.files inode + k)) ≡ sum_by used_by (list_from (unit_at t inode) 0 (pages_at t.files inode))
  used-counted zero within =
      let e : pages_at t.files inode + zero ≡ pages_at t.files inode = omega arith in ap (λ n. sum_by used_by (list_from (unit_at t inode) 0 n)) e
  used-counted (suc k) within =
      let count = pages_at t.files inode in
      let more : count + suc k ≡ count + k + 1 = omega arith in
      let at : 0 + (count + k) ≡ count + k = omega arith in
      let hole = unit_at-past size t inode (count + k) are low (omega (arith, within)) (omega arith) in
      let so_far = sum_by used_by (list_from (unit_at t inode) 0 (count + k)) in
      let same : so_far + 0 ≡ so_far = omega arith in
      ap (λ n. sum_by used_by (list_from (unit_at t inode) 0 n)) more ∙ sum-next used_by (unit_at t inode) 0 (count + k)
      ∙ ap (λ j. so_far + used_by (unit_at t inode j)) at ∙ ap (λ u. so_far + used_by u) hole ∙ same ∙ used-counted k (omega (arith, within))

  -- an inode's pages
  inode_used : used_pages (take (256 * (inode + 1)) t.pages) ≡ used_pages (take (256 * inode) t.pages) + of_slot units_used (slice_index_or (unit_slots t) inode None)
  inode_used =
      let count = pages_at t.files inode in
      let most = pages_at_most t.files inode are.names low in
      let past : count + (256 - count) ≡ 256 = omega (arith, most) in
      let last : 256 * (inode + 1) ≡ 256 * inode + 256 = omega arith in
      ap (λ n. used_pages (take n t.pages)) last ∙ pages_used-from t inode 256 (omega (arith, low, are.table.all))
      ∙ ap (λ n. used_pages (take (256 * inode) t.pages) + n)
      (ap (λ n. sum_by used_by (list_from (unit_at t inode) 0 n)) (sym past) ∙ used-counted (256 - count) (omega (arith, most)) ∙ by_slot (slice_index_or t.files inode None) refl)
    where
      own : (slot : Option FileEntry) → sum_by used_by (list_from (unit_at t inode) 0 (pages_of slot)) ≡ of_slot units_used (option_map (unit_file t inode) slot)
      own None = refl
      own (Some file) = refl

      by_slot : (slot : Option FileEntry) → slice_index_or t.files inode None ≡ slot
          → sum_by used_by (list_from (unit_at t inode) 0 (pages_at t.files inode)) ≡ of_slot units_used (slice_index_or (unit_slots t) inode None)
      by_slot slot is =
          let there : slice_get t.files inode ≡ Some slot = slice_get-get_or t.files inode None (omega (arith, low, are.names.all)) ∙ ap (λ (o : Option FileEntry). Some o) is in
          ap (λ s. sum_by used_by (list_from (unit_at t inode) 0 (pages_of s))) is ∙ own slot
          ∙ ap (of_slot units_used) (sym (get_or_from_slice_get (unit_slots t) inode (option_map (unit_file t inode) slot) None (slot_of-file t inode slot there)))

-- so many inodes
inodes_used : (size : ℕ) (t : Tables) → AreTables size t → (k : ℕ) → k ≤ 64 → used_pages (take (256 * k) t.pages) ≡ sum_by (of_slot units_used) (take k (unit_slots t))
inodes_used size t are zero few = refl
inodes_used size t are (suc k) few =
    let next : suc k ≡ k + 1 = omega arith in
    let within : k < length (unit_slots t) = omega (arith, few, length-unit_slots t, are.names.all) in
    ap (λ n. used_pages (take (256 * n) t.pages)) next ∙ inode_used size t are k (omega (arith, few))
    ∙ ap (λ n. n + of_slot units_used (slice_index_or (unit_slots t) k None)) (inodes_used size t are k (omega (arith, few)))
    ∙ sym (sum_by_more (of_slot units_used) (unit_slots t) k None within) ∙ ap (λ n. sum_by (of_slot units_used) (take n (unit_slots t))) (sym next)

-- as many pages are no holes as units are used
pub used_seen : (geo : Geometry) (m : Medium) (t : Tables) (files : List File) → AreTables geo.fpages t → FilesStand geo m t files → pages_used files ≡ used_pages t.pages
used_seen geo m t files are stand =
    let slots : length (unit_slots t) ≤ 64 = omega (arith, length-unit_slots t, are.names.all) in
    let pages : length t.pages ≤ 256 * 64 = omega (arith, are.table.all) in
    files_used geo m t files stand ∙ ap (sum_by (of_slot units_used)) (sym (take_all 64 (unit_slots t) slots)) ∙ sym (inodes_used geo.fpages t are 64 (omega arith))
    ∙ ap used_pages (take_all (256 * 64) t.pages pages)
