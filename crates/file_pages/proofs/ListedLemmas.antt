-- One file of those that a device stands for, and the others.
use Rattle.std.proofs.Common.{◌≡◌, ℕ, ◌+◌, ◌*◌, ◌/◌, ◌%◌, ◌<◌, Bool, true, List, Option, Some, None, slice_get, slice_index_or, refl, sym, ap, subst, ◌∙◌, ◌⊎◌, inl, inr, false, arith}
use Rattle.std.proofs.lemmas.Bool.{both_ways}
use Rattle.std.proofs.lemmas.Slice.Eq.{bytes_eq-Decides}
use Rattle.std.specs.Bool.{Decides}
use Rattle.std.specs.Str.{bytes_eq}
use Rattle.std.proofs.lemmas.Option.{get_or_from_slice_get, same_Some}
use Rattle.std.specs.List.{Contains}
use Rattle.line_device.specs.Medium.{Medium}
use Rattle.word_tables.specs.declared.geometry.Geometry.{Geometry}
use Rattle.word_tables.specs.Layout.{file_line}
use Rattle.inode_table.specs.Slots as names
use Rattle.inode_table.specs.Slots.{IsNamed, pages_at, pages_of}
use Rattle.nvm_model.specs.Cell.{Cell, CellStands}
use Rattle.nvm_model.specs.Files.{FileLeft, OneFileLeft, on_pages}
use Rattle.nvm_model.specs.Listing as list
use Rattle.nvm_model.specs.Listing.{change_file, file_name, file_of}
use Rattle.nvm_model.specs.Numbered.{list_from}
use Rattle.nvm_model.specs.Page.{Page}
use Rattle.nvm_model.specs.Storage.{File}
use Rattle.nvm_model.proofs.AlikeLemmas.{alike-among, alike-found}
use Rattle.nvm_model.proofs.OneFileLemmas.{alike-change_among, alike-left, change-same}
use Rattle.nvm_model.proofs.PageLemmas.{page_of_line}
use Rattle.nvm_model.proofs.SlotLemmas.{file_of-in_order}
use Rattle.page_lines.specs.Turns.{WritesBackOthers}
use Rattle.page_lines.proofs.TurnLemmas.{stands-others}
use Rattle.file_journal.specs.Files.{UnitFile, files_of, unit_file, unit_file_name, unit_slots}
use Rattle.file_journal.specs.Standing.{FileStands, FilesStand, line_of_file, line_on}
use Rattle.file_journal.specs.Tables.{AreTables, Tables, unit_at}
use Rattle.file_journal.proofs.FilesOfLemmas.{low_of, may_take-units, slot_of-file}
use Rattle.file_journal.proofs.ReplaceLemmas.{may_named}
use Rattle.file_journal.proofs.StandingLemmas.{inode_of_file, unit_there}
use Rattle.file_pages.specs.Object.{unit_place, units_of}
use Rattle.file_pages.proofs.PlaceLemmas.{PagesOn, place_is, unit_on}

-- two names are the same or not
cases_named : (a b : List ℕ) → (a ≡ b) ⊎ (a ≡ b → ⊥)
cases_named a b = by_test (bytes_eq a b) (bytes_eq-Decides a b)
  where
    by_test : (t : Bool) → Decides t (a ≡ b) → (a ≡ b) ⊎ (a ≡ b → ⊥)
    by_test true tells = inl (tells.0 refl)
    by_test false tells = inr (λ is. both_ways false refl (tells.1 is))

-- files stay where none of the lines of their pages is worked on
pub files-beside : (geo : Geometry) (t : Tables) (old new : Medium) (lines : ℕ → Type 0) → WritesBackOthers lines old new
    → ((x : UnitFile) → Contains (files_of t) x → (k u n : ℕ) → slice_index_or x.units k None ≡ Some u → lines (file_line geo u + n % 64) → ⊥)
    → (files : List File) → FilesStand geo old t files → FilesStand geo new t files
files-beside geo t old new lines x apart files stand =
    alike-among unit_file_name file_name (FileStands geo old) (FileStands geo new) (files_of t) files
    (λ file y has same stands. file-beside geo old new lines x file (apart file has) y stands) stand
  where
    file-beside : (geo : Geometry) (old new : Medium) (lines : ℕ → Type 0) → WritesBackOthers lines old new → (x : UnitFile)
        → ((k u n : ℕ) → slice_index_or x.units k None ≡ Some u → lines (file_line geo u + n % 64) → ⊥) → (y : File) → FileStands geo old x y → FileStands geo new x y
    file-beside geo old new lines back x apart y stands = record {
      there = stands.there;
      stand = record {
        whole = stands.stand.whole;
        lines = λ n cell is.
            let there = ap (λ (bs : List Bool). slice_get bs (n / 64)) (sym stands.there) ∙ page_of_line y.pages n cell is in
            let unit = unit_there x (n / 64) there in
            let at = get_or_from_slice_get x.units (n / 64) (Some unit.0) None unit.1 in
            let out : lines (line_of_file geo x n) → ⊥ = subst (λ (o : Option ℕ). lines (line_on geo o n) → ⊥) (sym at) (apart (n / 64) unit.0 n at) in
            stands-others lines old new (line_of_file geo x n) cell back out (stands.stand.lines n cell is);
      };
    }

module _ (geo : Geometry) (t : Tables) (are : AreTables geo.fpages t) (inode : ℕ) (name : List ℕ) (here : IsNamed t.files inode name) where
  pub low : inode < 64
  low = low_of geo.fpages t are inode (Some here.file) here.is

  pub pages_is : pages_at t.files inode ≡ here.file.pages
  pages_is = ap pages_of (get_or_from_slice_get t.files inode (Some here.file) None here.is)

  -- the file of the name is the inode's
  pub that_units : (x : UnitFile) → Contains (files_of t) x → x.name ≡ name → x.units ≡ units_of t inode
  that_units x has is =
      let of = inode_of_file t x has in
      let same : of.inode ≡ inode = are.names.apart of.inode inode of.file here.file of.is here.is (sym (ap (λ (y : UnitFile). y.name) of.units) ∙ is ∙ sym here.named) in
      let pages : pages_at t.files of.inode ≡ of.file.pages = ap pages_of (get_or_from_slice_get t.files of.inode (Some of.file) None of.is) in
      ap (λ (y : UnitFile). y.units) of.units ∙ ap (list_from (unit_at t of.inode) 0) (sym pages) ∙ ap (units_of t) same

  -- and others are on no unit of it
  pub other_apart : (x : UnitFile) → Contains (files_of t) x → (x.name ≡ name → ⊥) → (k u : ℕ) → slice_index_or x.units k None ≡ Some u → (j : ℕ) → slice_index_or (units_of t inode) j None ≡ Some u → ⊥
  other_apart x has out k u is j at =
      let of = inode_of_file t x has in
      let pages : pages_at t.files of.inode ≡ of.file.pages = ap pages_of (get_or_from_slice_get t.files of.inode (Some of.file) None of.is) in
      let units : x.units ≡ units_of t of.inode = ap (λ (y : UnitFile). y.units) of.units ∙ ap (list_from (unit_at t of.inode) 0) (sym pages) in
      let low_x = low_of geo.fpages t are of.inode (Some of.file) of.is in
      let one = unit_on geo.fpages t are of.inode low_x k u (sym (ap (λ (us : List (Option ℕ)). slice_index_or us k None) units) ∙ is) in
      let two = unit_on geo.fpages t are inode low j u at in
      let same = are.table.apart (256 * of.inode + k) (256 * inode + j) u one.2 two.2 in
      let inodes : of.inode ≡ inode = omega (arith, same, one.1, two.1) in
      let slot : Some (Some of.file) ≡ Some (Some here.file) = sym of.is ∙ ap (λ i. slice_get t.files i) inodes ∙ here.is in
      let files = same_Some _ _ (same_Some _ _ slot) in
      out (ap (λ (y : UnitFile). y.name) of.units ∙ ap (λ f. f.name) files ∙ here.named)

  that_stands : (m : Medium) (x : UnitFile) (y : File) → x.units ≡ units_of t inode → FileStands geo m x y → PagesOn geo (units_of t inode) m y.pages
  that_stands m x y units stands = subst (λ us. PagesOn geo us m y.pages) units (record { there = stands.there; stand = stands.stand })

  stands_that : (m : Medium) (x : UnitFile) (y : File) → x.units ≡ units_of t inode → PagesOn geo (units_of t inode) m y.pages → FileStands geo m x y
  stands_that m x y units stands =
      let back : PagesOn geo x.units m y.pages = subst (λ us. PagesOn geo us m y.pages) (sym units) stands in
      record { there = back.there; stand = back.stand }

  -- the pages of the file that is found
  pub found_on : (m : Medium) (files : List File) (file : File) → FilesStand geo m t files → file_of file_name name files ≡ Some file → PagesOn geo (units_of t inode) m file.pages
  found_on m files file stand found =
      let slot = slot_of-file t inode (Some here.file) here.is in
      let may = may_take-units t inode here.file.name (subst (names.MayTake t.files inode) (sym here.named) (may_named t.files inode name are.names here)) in
      let mine = ap (λ n. list.file_of unit_file_name n (files_of t)) (sym here.named) ∙ file_of-in_order unit_file_name (unit_slots t) inode (unit_file t inode here.file) slot may in
      let pair = alike-found unit_file_name file_name (FileStands geo m) name (files_of t) files stand (unit_file t inode here.file) mine in
      let same : pair.0 ≡ file = same_Some _ _ (sym pair.1 ∙ found) in
      subst (λ (y : File). PagesOn geo (units_of t inode) m y.pages) same
      (that_stands m (unit_file t inode here.file) pair.0 (ap (list_from (unit_at t inode) 0) (sym pages_is)) pair.3)

  module _ (old new : Medium) (lines : ℕ → Type 0) (keeps : (line : ℕ) (cell : Cell) → (lines line → ⊥) → CellStands old line cell → CellStands new line cell)
      (of : (line : ℕ) → lines line → (n : ℕ) × (unit_place geo (units_of t inode) n ≡ Some line)) where
    beside : (a : UnitFile) (y : File) → Contains (files_of t) a → (a.name ≡ name → ⊥) → FileStands geo old a y → FileStands geo new a y
    beside a y has out stands = record {
      there = stands.there;
      stand = record {
        whole = stands.stand.whole;
        lines = λ n cell is.
            let there = ap (λ (bs : List Bool). slice_get bs (n / 64)) (sym stands.there) ∙ page_of_line y.pages n cell is in
            let unit = unit_there a (n / 64) there in
            let at = get_or_from_slice_get a.units (n / 64) (Some unit.0) None unit.1 in
            let away : lines (file_line geo unit.0 + n % 64) → ⊥ = λ is_line.
            let placed = of (file_line geo unit.0 + n % 64) is_line in
            let p = place_is geo (units_of t inode) placed.0 (file_line geo unit.0 + n % 64) placed.1 in
            let same : p.0 ≡ unit.0 = omega (arith, p.2) in
            other_apart a has out (n / 64) unit.0 at (placed.0 / 64) (p.1 ∙ ap (λ (u : ℕ). Some u) same) in
            keeps (line_of_file geo a n) cell (subst (λ (o : Option ℕ). lines (line_on geo o n) → ⊥) (sym at) away) (stands.stand.lines n cell is);
      };
    }

    -- its pages change alike in both
    pub files-turned : (g : List Page → List Page) → ((pages : List Page) → PagesOn geo (units_of t inode) old pages → PagesOn geo (units_of t inode) new (g pages))
        → (files : List File) → FilesStand geo old t files → FilesStand geo new t (change_file file_name name (on_pages g) files)
    files-turned g changes files stand =
        subst (λ xs. list.AreAlike unit_file_name file_name (FileStands geo new) xs (change_file file_name name (on_pages g) files)) (change-same unit_file_name name (files_of t))
        (alike-change_among unit_file_name file_name (FileStands geo old) (FileStands geo new) name (λ a. a) (on_pages g) (files_of t) files
        (λ a y has is is_file stands.
        let units = that_units a has is in
        (is ∙ sym is_file, stands_that new a (on_pages g y) units (changes y.pages (that_stands old a y units stands))))
        (λ a y has out same stands. beside a y has out stands)
        stand)

  -- the same where the other lines are only written back
  module _ (old new : Medium) (lines : ℕ → Type 0) (x : WritesBackOthers lines old new)
      (of : (line : ℕ) → lines line → (n : ℕ) × (unit_place geo (units_of t inode) n ≡ Some line)) where
    keeps : (line : ℕ) (cell : Cell) → (lines line → ⊥) → CellStands old line cell → CellStands new line cell
    keeps line cell out stands = stands-others lines old new line cell x out stands

    pub files-changed : (g : List Page → List Page) → ((pages : List Page) → PagesOn geo (units_of t inode) old pages → PagesOn geo (units_of t inode) new (g pages))
        → (files : List File) → FilesStand geo old t files → FilesStand geo new t (change_file file_name name (on_pages g) files)
    files-changed g changes files stand = files-turned old new lines keeps of g changes files stand

    -- or its pages are left as R leaves them
    pub files-left : (R : List Page → List Page → Type 0) → ((pages : List Page) → PagesOn geo (units_of t inode) old pages → (left : List Page) × R pages left × PagesOn geo (units_of t inode) new left)
        → (files : List File) → FilesStand geo old t files → (left : List File) × OneFileLeft name R files left × FilesStand geo new t left
    files-left R leaves files stand =
        alike-left unit_file_name file_name (FileStands geo old) (FileStands geo new) (FileLeft name R) (files_of t) files one stand
      where
        one : (a : UnitFile) (y : File) → Contains (files_of t) a → a.name ≡ y.name → FileStands geo old a y → (z : File) × (y.name ≡ z.name) × FileLeft name R y z × FileStands geo new a z
        one a y has same stands =
            elim (cases_named a.name name) as (λ _. (z : File) × (y.name ≡ z.name) × FileLeft name R y z × FileStands geo new a z) [
              | inl is ↦
                  let units = that_units a has is in
                  let left = leaves y.pages (that_stands old a y units stands) in (
                    record { name = y.name; pages = left.0 },
                    refl,
                    record { here = λ _. left.1; beside = λ out. absurd (out (sym same ∙ is)) },
                    stands_that new a (record { name = y.name; pages = left.0 }) units left.2,
                  )
              | inr out ↦ (y, refl, record { here = λ is. absurd (out (same ∙ is)); beside = λ _. refl }, beside old new lines keeps of a y has out stands)
            ]
