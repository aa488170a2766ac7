-- A restart may leave of lines what it leaves where each word keeps one value.
use Rattle.std.proofs.Common.{◌≡◌, ℕ, ◌+◌, ◌*◌, ◌<◌, Bool, true, false, if◌then◌else◌, Option, Some, None, List, [], ◌∷◌, length, slice_get, refl, sym, ap, subst, ◌∙◌, arith}
use Rattle.std.proofs.lemmas.Option.{slice_get_within}
use Rattle.line_device.specs.History.{IsIn}
use Rattle.line_device.proofs.TornLemmas.{may_keep-in}
use Rattle.line_device.specs.Panel.{Image}
use Rattle.line_device.specs.declared.line.Choice.TheVariants.{Firsts}
use Rattle.word_tables.specs.declared.geometry.Geometry.{Geometry}
use Rattle.word_tables.specs.Layout.{volume_line}
use Rattle.nvm_model.specs.Cell.{Cell, KeepsCell, read_cell}
use Rattle.nvm_model.specs.Cell.Cell.{Bad, Kept}
use Rattle.nvm_model.specs.Interrupted.{Became}
use Rattle.nvm_model.specs.Listing.{AreAlike, file_name}
use Rattle.nvm_model.specs.Numbered.{list_from}
use Rattle.nvm_model.specs.Page.{Page, KeepsPages, cell_of}
use Rattle.nvm_model.specs.Storage.{Block, File}
use Rattle.nvm_model.proofs.NumberedLemmas.{length-list_from, slice_get-list_from}
use Rattle.file_journal.specs.Files.{unit_file_name}
use Rattle.file_journal.specs.Standing.{KeepsFile, KeepsFiles}
use Rattle.state_images.specs.Files.{all_present, present_pages, unit_files_from}
use Rattle.state_images.specs.Keeping.{FilesSurvive, LineSurvives, PagesSurvive}
use Rattle.state_images.specs.Images.{image_of}
use Rattle.state_images.specs.Storable.{AreStorableFiles, IsStorableFiles, IsStorableVolume}
use Rattle.state_images.proofs.FileLemmas.{HasPages, has-file, has-rest, image-pages}
use Rattle.state_images.proofs.TableLemmas.{files_of-image}
use Rattle.state_images.proofs.VolumeLemmas.{volume-cell}

is-bad : (b weak : Bool) (words : List (List ℕ)) → (if b then Bad else Kept weak words) ≡ Bad → b ≡ true
is-bad true weak words is = refl
is-bad false weak words is = cc

record IsKept (b weak mark : Bool) (words values : List (List ℕ)) : Type 0 where
  good : b ≡ false
  weak_as : weak ≡ mark
  words_as : words ≡ values

is-kept : (b weak mark : Bool) (words values : List (List ℕ)) → (if b then Bad else Kept weak words) ≡ Kept mark values → IsKept b weak mark words values
is-kept true weak mark words values is = cc
is-kept false weak mark words values is = record { good = refl; weak_as = cc; words_as = cc }

pub keeps-cell : (image : Image) (n : ℕ) (old new : Cell) → LineSurvives old new → read_cell image n ≡ new → KeepsCell Firsts image n old
keeps-cell image n Bad Bad survives read = is-bad (image.is_bad n) (image.is_weak n) (list_from (λ p. image.word p ∷ []) (8 * n) 8) read
keeps-cell image n Bad (Kept mark values) survives read = absurd survives
keeps-cell image n (Kept weak words) Bad survives read = absurd survives
keeps-cell image n (Kept weak words) (Kept mark values) survives read =
    let f : ℕ → List ℕ = λ p. image.word p ∷ [] in
    let kept = is-kept (image.is_bad n) (image.is_weak n) mark (list_from f (8 * n) 8) values read in (
      kept.good,
      kept.weak_as ∙ survives.0,
      (λ w history is.
          let one = survives.2 w history is in
          let there : slice_get (list_from f (8 * n) 8) w ≡ Some (one.0 ∷ []) = ap (λ (ws : List (List ℕ)). slice_get ws w) kept.words_as ∙ one.2 in
          let below : w < 8 = omega (arith, slice_get_within (list_from f (8 * n) 8) w (one.0 ∷ []) there, length-list_from f (8 * n) 8) in
          let same : Some (image.word (8 * n + w) ∷ []) ≡ Some (one.0 ∷ []) = sym (slice_get-list_from f (8 * n) 8 w below) ∙ there in
          let value : image.word (8 * n + w) ≡ one.0 = cc in
          let in_it : IsIn (image.word (8 * n + w)) history = subst (λ v. IsIn v history) (sym value) one.1 in
          record { was = may_keep-in image.unit (image.word (8 * n + w)) history in_it; last = λ e. cc; whole = λ _. in_it }),
    )

became : (R : Cell → Cell → Type 0) (old : Cell) (o : Option Cell) → Became R (Some old) o → (new : Cell) × (o ≡ Some new) × R old new
became R old None is = absurd is
became R old (Some new) is = (new, refl, is)

-- pages
pub keeps-pages : (place : ℕ → ℕ) (image : Image) (left now : List Page) → PagesSurvive left now
    → ((n : ℕ) (cell : Cell) → cell_of now n ≡ Some cell → read_cell image (place n) ≡ cell) → KeepsPages Firsts place image left
keeps-pages place image left now survive lines n cell is =
    let new = became LineSurvives cell (cell_of now n) (subst (λ (o : Option Cell). Became LineSurvives o (cell_of now n)) is (survive.each n)) in
    keeps-cell image (place n) cell new.0 new.2 (lines n new.0 new.1)

-- files
pub keeps-files : (geo : Geometry) (image : Image) (unit : ℕ) (left files : List File) → AreStorableFiles files → HasPages geo image unit (all_present files) → FilesSurvive left files
    → AreAlike unit_file_name file_name (KeepsFile Firsts geo image) (unit_files_from unit files) left
keeps-files geo image unit [] [] storable has survive = tt
keeps-files geo image unit [] (file ∷ files) storable has survive = absurd survive
keeps-files geo image unit (old ∷ left) [] storable has survive = absurd survive
keeps-files geo image unit (old ∷ left) (file ∷ files) storable has survive =
    let parts = has-rest geo image unit (present_pages file.pages) (all_present files) has in
    let own = has-file geo image unit file storable.0.pages parts.0 in (
      sym survive.0,
      record {
        there = sym survive.1.there ∙ sym own.there;
        keeps = keeps-pages _ image old.pages file.pages survive.1 own.line;
      },
      keeps-files geo image (unit + length (present_pages file.pages)) left files storable.1 parts.1 survive.2,
    )

-- the image of what survived
module _ (geo : Geometry) (blocks : List Block) where
  pub image-keeps-pages : (left volume : List Page) (files : List File) → IsStorableVolume geo volume → PagesSurvive left volume
      → KeepsPages Firsts (volume_line geo) (image_of geo blocks volume files) left
  image-keeps-pages left volume files storable survive =
      keeps-pages (volume_line geo) (image_of geo blocks volume files) left volume survive (volume-cell geo blocks volume files storable)

  pub image-keeps-files : (volume : List Page) (left files : List File) → IsStorableFiles geo files → FilesSurvive left files
      → KeepsFiles Firsts geo (image_of geo blocks volume files) left
  image-keeps-files volume left files storable survive =
      subst (λ ons. AreAlike unit_file_name file_name (KeepsFile Firsts geo (image_of geo blocks volume files)) ons left) (sym (files_of-image geo blocks volume files storable))
      (keeps-files geo (image_of geo blocks volume files) 0 left files storable.each (image-pages geo blocks volume files storable) survive)
