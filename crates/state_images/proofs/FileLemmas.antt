-- The files in the image.
use Rattle.std.proofs.Common.{◌≡◌, ℕ, ◌+◌, ◌*◌, ◌/◌, ◌%◌, ◌<◌, Option, Some, None, option_and_then, List, [], ◌∷◌, ◌++◌, length, map, slice_get, refl, ap, ap₂, ◌∙◌, arith}
use Rattle.std.proofs.lemmas.Option.{get_or_from_slice_get, slice_get_within}
use Rattle.line_device.specs.Panel.{Image}
use Rattle.word_tables.specs.declared.geometry.Geometry.{Geometry}
use Rattle.word_tables.specs.Layout.{file_line, file_pages, first_line, size, total_lines}
use Rattle.nvm_model.specs.Cell.{Cell, read_cell}
use Rattle.nvm_model.specs.Page.{Page, cell_of, presence_of, read_pages}
use Rattle.nvm_model.specs.Storage.{Block, File}
use Rattle.file_journal.specs.Files.{UnitFile}
use Rattle.file_journal.specs.Standing.{file_read, files_read, line_of_file, line_on, pages_there}
use Rattle.state_images.specs.Cells.{cell_or_zeros}
use Rattle.state_images.specs.Files.{all_present, line_of_units, present_pages, unit_files_from, units_from}
use Rattle.state_images.specs.Images.{image_of, line_of}
use Rattle.state_images.specs.Storable.{ArePagesSettled, AreStorableFiles, IsSettled, IsStorableFiles}
use Rattle.state_images.proofs.CellLemmas.{cell-read}
use Rattle.state_images.proofs.LaidLemmas.{area-at}
use Rattle.state_images.proofs.PageLemmas.{page-of_line, pages-read, settled-line}
use Rattle.state_images.proofs.TableLemmas.{files_of-image}
use Rattle.state_images.proofs.UnitLemmas.{item-left, item-right, page-unit, units-there}

-- From a unit on, the units of an image have the lines of these pages.
pub record HasPages (geo : Geometry) (image : Image) (unit : ℕ) (pages : List (List Cell)) : Type 0 where
  pub line : (k l : ℕ) (cells : List Cell) (cell : Cell) → slice_get pages k ≡ Some cells → slice_get cells l ≡ Some cell → IsSettled cell → l < 64
      → read_cell image (file_line geo (unit + k) + l) ≡ cell

-- A file's lines are read as they are.
pub record HasFile (geo : Geometry) (image : Image) (on : UnitFile) (file : File) : Type 0 where
  pub name : on.name ≡ file.name
  pub there : pages_there on ≡ presence_of file.pages
  pub line : (n : ℕ) (cell : Cell) → cell_of file.pages n ≡ Some cell → read_cell image (line_of_file geo on n) ≡ cell

pub has-file : (geo : Geometry) (image : Image) (unit : ℕ) (file : File) → ArePagesSettled file.pages → HasPages geo image unit (present_pages file.pages)
    → HasFile geo image (record { name = file.name; units = units_from unit file.pages }) file
has-file geo image unit file settled has = record {
  name = refl;
  there = units-there unit file.pages;
  line = λ n cell is.
      let page = page-of_line file.pages n cell is in
      let on = page-unit unit file.pages (n / 64) page.0 page.1 in
      ap (λ (u : Option ℕ). read_cell image (line_on geo u n)) (get_or_from_slice_get (units_from unit file.pages) (n / 64) (Some (unit + on.number)) None on.on)
      ∙ has.line on.number (n % 64) page.0 cell on.lines page.2 (settled-line file.pages n cell settled is) (omega arith);
}

pub file-is : (geo : Geometry) (image : Image) (on : UnitFile) (file : File) → ArePagesSettled file.pages → HasFile geo image on file → file_read geo image on ≡ file
file-is geo image on file settled has =
    ap₂ (λ (name : List ℕ) (pages : List Page). let f : File = record { name = name; pages = pages } in f) has.name
    (ap (read_pages (line_of_file geo on) image) has.there ∙ pages-read (line_of_file geo on) image file.pages settled has.line)

-- the pages of the files that follow
pub has-rest : (geo : Geometry) (image : Image) (unit : ℕ) (first rest : List (List Cell)) → HasPages geo image unit (first ++ rest)
    → HasPages geo image unit first × HasPages geo image (unit + length first) rest
has-rest geo image unit first rest has = (
  record { line = λ k l cells cell page. has.line k l cells cell (item-left first rest k cells page) },
  record {
    line = λ k l cells cell page here settled low.
        let at : unit + length first + k ≡ unit + (length first + k) = omega arith in
        ap (λ (u : ℕ). read_cell image (file_line geo u + l)) at
        ∙ has.line (length first + k) l cells cell (item-right first rest k ∙ page) here settled low;
  },
)

pub files-are : (geo : Geometry) (image : Image) (unit : ℕ) (files : List File) → AreStorableFiles files → HasPages geo image unit (all_present files)
    → map (file_read geo image) (unit_files_from unit files) ≡ files
files-are geo image unit [] storable has = refl
files-are geo image unit (file ∷ files) storable has =
    let parts = has-rest geo image unit (present_pages file.pages) (all_present files) has in
    ap₂ (λ (f : File) (fs : List File). f ∷ fs)
    (file-is geo image (record { name = file.name; units = units_from unit file.pages }) file storable.0.pages (has-file geo image unit file storable.0.pages parts.0))
    (files-are geo image (unit + length (present_pages file.pages)) files storable.1 parts.1)

units_enough : (geo : Geometry) → size geo file_pages ≡ 64 * geo.fpages
unfolding size
units_enough geo = refl

module _ (geo : Geometry) (blocks : List Block) (volume : List Page) (files : List File) (storable : IsStorableFiles geo files) where
  -- a line of a unit
  unit-line : (k l : ℕ) (cells : List Cell) (cell : Cell) → slice_get (all_present files) k ≡ Some cells → slice_get cells l ≡ Some cell → l < 64
      → line_of geo blocks volume files (file_line geo k + l) ≡ cell
  unit-line k l cells cell page here low =
      let below : k < length (all_present files) = slice_get_within (all_present files) k cells page in
      let at : first_line geo file_pages + 64 * k + l ≡ first_line geo file_pages + (64 * k + l) = omega arith in
      let unit : (64 * k + l) / 64 ≡ k = omega arith in
      let rest : (64 * k + l) % 64 ≡ l = omega arith in
      ap (line_of geo blocks volume files) at
      ∙ area-at geo blocks volume files file_pages (line_of_units (all_present files)) (64 * k + l) refl (omega (arith, below, storable.room, units_enough geo))
      ∙ ap₂ (λ (u m : ℕ). cell_or_zeros (option_and_then (λ cells. slice_get cells m) (slice_get (all_present files) u))) unit rest
      ∙ ap (λ (o : Option (List Cell)). cell_or_zeros (option_and_then (λ cells. slice_get cells l) o)) page
      ∙ ap cell_or_zeros here

  pub image-pages : HasPages geo (image_of geo blocks volume files) 0 (all_present files)
  image-pages = record {
    line = λ k l cells cell page here settled low.
        let at : 0 + k ≡ k = omega arith in
        ap (λ (u : ℕ). read_cell (image_of geo blocks volume files) (file_line geo u + l)) at
        ∙ cell-read (total_lines geo) (line_of geo blocks volume files) (file_line geo k + l) cell (unit-line k l cells cell page here low) settled;
  }

  pub files-read : files_read geo (image_of geo blocks volume files) ≡ files
  unfolding files_read
  files-read =
      ap (map (file_read geo (image_of geo blocks volume files))) (files_of-image geo blocks volume files storable)
      ∙ files-are geo (image_of geo blocks volume files) 0 files storable.each image-pages
