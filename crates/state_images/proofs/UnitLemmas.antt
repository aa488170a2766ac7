-- Files with the units of their pages.
use Rattle.std.proofs.Common.{◌≡◌, ℕ, zero, suc, ◌+◌, ◌<◌, ◌≤◌, ◌&&◌, true, false, Option, Some, None, is_some, List, [], ◌∷◌, ◌++◌, length, map, slice_get, refl, ap, ap₂, subst, ◌∙◌, arith}
use Rattle.std.specs.List.{list_all}
use Rattle.std.proofs.lemmas.Bool.{and_parts, cond-true}
use Rattle.nvm_base.specs.Names.{is_name}
use Rattle.nvm_model.specs.Cell.{Cell}
use Rattle.nvm_model.specs.Listing.{file_name, in_order, is_before, put_file, rises}
use Rattle.nvm_model.specs.Page.{Page, presence_of}
use Rattle.nvm_model.specs.Page.Page.{Absent, Present}
use Rattle.nvm_model.specs.Storage.{File}
use Rattle.file_journal.specs.Files.{UnitFile, unit_file_name}
use Rattle.state_images.specs.Files.{present_pages, unit_files_from, units_from}
use Rattle.state_images.specs.Storable.{AreStorableFiles}

-- an item of one list after another
pub item-left : {A : Type 0} (xs ys : List A) (k : ℕ) (x : A) → slice_get xs k ≡ Some x → slice_get (xs ++ ys) k ≡ Some x
item-left [] ys k x is = cc
item-left (y ∷ xs) ys zero x is = is
item-left (y ∷ xs) ys (suc k) x is = item-left xs ys k x is

pub item-right : {A : Type 0} (xs ys : List A) (k : ℕ) → slice_get (xs ++ ys) (length xs + k) ≡ slice_get ys k
item-right [] ys k = let e : 0 + k ≡ k = omega arith in ap (slice_get ys) e
item-right (x ∷ xs) ys k =
    let e : suc (length xs) + k ≡ suc (length xs + k) = omega arith in ap (slice_get (x ∷ (xs ++ ys))) e ∙ item-right xs ys k

-- a page that is there has a unit, and its lines come at the same number
pub record HasUnit (unit : ℕ) (units : List (Option ℕ)) (there : List (List Cell)) (page : ℕ) (cells : List Cell) : Type 0 where
  pub number : ℕ
  pub on : slice_get units page ≡ Some (Some (unit + number))
  pub lines : slice_get there number ≡ Some cells

pub page-unit : (unit : ℕ) (pages : List Page) (page : ℕ) (cells : List Cell) → slice_get pages page ≡ Some (Present cells)
    → HasUnit unit (units_from unit pages) (present_pages pages) page cells
page-unit unit [] page cells is = cc
page-unit unit (Absent ∷ pages) zero cells is = cc
page-unit unit (Absent ∷ pages) (suc page) cells is =
    let rest = page-unit unit pages page cells is in
    record { number = rest.number; on = rest.on; lines = rest.lines }
page-unit unit (Present lines ∷ pages) zero cells is =
    let same : lines ≡ cells = cc in
    let e : unit ≡ unit + 0 = omega arith in
    record { number = 0; on = ap (λ u. Some (Some u)) e; lines = ap Some same }
page-unit unit (Present lines ∷ pages) (suc page) cells is =
    let rest = page-unit (suc unit) pages page cells is in
    let e : suc unit + rest.number ≡ unit + suc rest.number = omega arith in
    record { number = suc rest.number; on = rest.on ∙ ap (λ u. Some (Some u)) e; lines = rest.lines }

-- the other pages have none
pub units-there : (unit : ℕ) (pages : List Page) → map is_some (units_from unit pages) ≡ presence_of pages
units-there unit [] = refl
units-there unit (Absent ∷ pages) = ap (λ bs. false ∷ bs) (units-there unit pages)
units-there unit (Present cells ∷ pages) = ap (λ bs. true ∷ bs) (units-there (suc unit) pages)

pub length-units : (unit : ℕ) (pages : List Page) → length (units_from unit pages) ≡ length pages
length-units unit [] = refl
length-units unit (Absent ∷ pages) = ap suc (length-units unit pages)
length-units unit (Present cells ∷ pages) = ap suc (length-units (suc unit) pages)

pub length-unit_files : (unit : ℕ) (files : List File) → length (unit_files_from unit files) ≡ length files
length-unit_files unit [] = refl
length-unit_files unit (file ∷ files) = ap suc (length-unit_files (unit + length (present_pages file.pages)) files)

-- what a table asks of a file
pub record IsEntry (file : UnitFile) : Type 0 where
  pub name : is_name file.name ≡ true
  pub few : length file.units ≤ 256

pub entries : (unit : ℕ) (files : List File) (i : ℕ) (file : UnitFile) → AreStorableFiles files → slice_get (unit_files_from unit files) i ≡ Some file → IsEntry file
entries unit [] i file all is = cc
entries unit (first ∷ files) zero file all is =
    let same : record { name = first.name; units = units_from unit first.pages } ≡ file = cc in
    let own : IsEntry (record { name = first.name; units = units_from unit first.pages }) =
    record { name = all.0.name; few = omega (arith, length-units unit first.pages, all.0.few) } in
    subst IsEntry same own
entries unit (first ∷ files) (suc i) file all is = entries (unit + length (present_pages first.pages)) files i file all.1 is

-- they rise as the files do
all_before : (name : List ℕ) (unit : ℕ) (files : List File)
    → list_all (λ (y : UnitFile). is_before name (unit_file_name y)) (unit_files_from unit files) ≡ list_all (λ (y : File). is_before name (file_name y)) files
all_before name unit [] = refl
all_before name unit (file ∷ files) = ap (λ b. is_before name file.name && b) (all_before name (unit + length (present_pages file.pages)) files)

pub units-rise : (unit : ℕ) (files : List File) → rises unit_file_name (unit_files_from unit files) ≡ rises file_name files
units-rise unit [] = refl
units-rise unit (file ∷ files) =
    ap₂ (λ a b. a && b) (all_before file.name (unit + length (present_pages file.pages)) files) (units-rise (unit + length (present_pages file.pages)) files)

-- slots that are such files and then free ones, in order of name
module _ {A : Type 0} (name : A → List ℕ) where
  put-lowest : (x : A) (xs : List A) → list_all (λ y. is_before (name x) (name y)) xs ≡ true → put_file name x xs ≡ x ∷ xs
  put-lowest x [] low = refl
  put-lowest x (y ∷ ys) low = cond-true (is_before (name x) (name y)) _ _ (and_parts _ _ low).0

  pub in_order-is : (slots : List (Option A)) (xs : List A) → length xs ≤ length slots → ((i : ℕ) → i < length slots → slice_get slots i ≡ Some (slice_get xs i))
      → rises name xs ≡ true → in_order name slots ≡ xs
  in_order-is [] [] size each up = refl
  in_order-is [] (x ∷ xs) size each up = absurd (omega arith)
  in_order-is (slot ∷ slots) [] size each up =
      let first : Some slot ≡ Some None = each 0 (omega arith) in
      let free : slot ≡ None = cc in
      ap (λ s. in_order name (s ∷ slots)) free ∙ in_order-is slots [] (omega arith) (λ i low. each (suc i) (omega arith)) refl
  in_order-is (slot ∷ slots) (x ∷ xs) size each up =
      let first : Some slot ≡ Some (Some x) = each 0 (omega arith) in
      let taken : slot ≡ Some x = cc in
      let parts = and_parts _ _ up in
      ap (λ s. in_order name (s ∷ slots)) taken
      ∙ ap (put_file name x) (in_order-is slots xs (omega arith) (λ i low. each (suc i) (omega arith)) parts.1)
      ∙ put-lowest x xs parts.0
