-- Files of holes alone come through a restart as they were.
use Rattle.std.proofs.Common.{◌≡◌, ℕ, List, [], ◌∷◌, map, refl, sym, ap, ap₂, ◌∙◌}
use Rattle.line_device.specs.Panel.{Image}
use Rattle.line_device.specs.declared.line.Choice.{Choice}
use Rattle.word_tables.specs.declared.geometry.Geometry.{Geometry}
use Rattle.nvm_model.specs.Listing.{AreAlike, file_name}
use Rattle.nvm_model.specs.Page.{Page, presence_of, read_pages}
use Rattle.nvm_model.specs.Storage.{File}
use Rattle.file_journal.specs.Files.{UnitFile, files_of, unit_file_name}
use Rattle.file_journal.specs.Reading.{tables_read}
use Rattle.file_journal.specs.Standing.{KeepsFile, KeepsFiles, file_read, files_read, line_of_file}

-- each file's pages are all that is read where the same pages are there
abbrev pub AreHoles : Image → List File → Type 0
AreHoles image [] = Unit {0}
AreHoles image (file ∷ files) = ((place : ℕ → ℕ) → read_pages place image (presence_of file.pages) ≡ file.pages) × AreHoles image files

pub holes_read : (choice : Choice) (geo : Geometry) (image : Image) (files : List File) → AreHoles image files → KeepsFiles choice geo image files → files_read geo image ≡ files
unfolding files_read
holes_read choice geo image files holes keeps = by_files (files_of (tables_read geo image.word)) files holes keeps
  where
    by_files : (on : List UnitFile) (files : List File) → AreHoles image files → AreAlike unit_file_name file_name (KeepsFile choice geo image) on files → map (file_read geo image) on ≡ files
    by_files [] [] holes alike = refl
    by_files [] (file ∷ files) holes alike = absurd alike
    by_files (on ∷ more) [] holes alike = absurd alike
    by_files (on ∷ more) (file ∷ files) holes alike =
        let pages = ap (read_pages (line_of_file geo on) image) (sym alike.1.there) ∙ holes.0 (line_of_file geo on) in
        ap₂ (λ (f : File) (fs : List File). f ∷ fs)
        (ap₂ (λ (name : List ℕ) (pages : List Page). let f : File = record { name = name; pages = pages } in f) alike.0 pages)
        (by_files more files holes.1 alike.2)
