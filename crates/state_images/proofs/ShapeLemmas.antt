-- What survives of storage that commands keep has an image.
use Rattle.std.proofs.Common.{◌≡◌, ℕ, suc, ◌+◌, ◌*◌, ◌<◌, ◌&&◌, Bool, true, false, Option, Some, None, List, [], ◌∷◌, length, get_or, slice_get, refl, sym, ap, ap₂, subst, ◌∙◌, arith}
use Rattle.std.specs.List.{list_all}
use Rattle.std.proofs.lemmas.List.{length-append, length-map}
use Rattle.std.proofs.lemmas.Option.{slice_get-get_or, slice_get_within}
use Rattle.word_tables.specs.declared.geometry.Geometry.{Geometry}
use Rattle.nvm_base.specs.Names.{is_name}
use Rattle.nvm_model.specs.Cell.{Cell}
use Rattle.nvm_model.specs.Cell.Cell.{Bad, Kept}
use Rattle.nvm_model.specs.Interrupted.{Became}
use Rattle.nvm_model.specs.Listing.{file_name, is_before, rises}
use Rattle.nvm_model.specs.Page.{Page, cell_of, is_present, presence_of}
use Rattle.nvm_model.specs.Page.Page.{Absent, Present}
use Rattle.nvm_model.specs.Storage.{File}
use Rattle.state_images.specs.Files.{all_present, present_pages}
use Rattle.state_images.specs.Keeping.{FilesSurvive, LineSurvives, PagesSurvive}
use Rattle.state_images.specs.Shapes.{AreFilesWhole, AreWhole, HasEightWords, HaveFileShapes, HaveEightWords, HasFilesShape, HasVolumeShape}
use Rattle.state_images.specs.Storable.{ArePagesSettled, AreSettled, AreStorableFiles, HasOneValue, HaveOneValue, IsSettled, IsStorableFiles, IsStorableVolume}
use Rattle.state_images.proofs.PageLemmas.{line-of_page}

one-each : (words : List (List ℕ)) → ((w : ℕ) → w < length words → (v : ℕ) × (slice_get words w ≡ Some (v ∷ []))) → HaveOneValue words
one-each [] each = tt
one-each (word ∷ words) each =
    let first = each 0 (omega arith) in
    let is : Some word ≡ Some (first.0 ∷ []) = first.1 in
    let same : first.0 ∷ [] ≡ word = cc in
    (subst HasOneValue same tt, one-each words (λ w low. each (suc w) (omega arith)))

line-settles : (old new : Cell) → HasEightWords old → LineSurvives old new → IsSettled new
line-settles Bad Bad eight survives = tt
line-settles Bad (Kept mark values) eight survives = absurd survives
line-settles (Kept weak words) Bad eight survives = absurd survives
line-settles (Kept weak words) (Kept mark values) eight survives = (
  survives.1 ∙ eight,
  one-each values (λ w low.
      let here : slice_get words w ≡ Some (get_or words w []) = slice_get-get_or words w [] (omega (arith, low, survives.1)) in
      let one = survives.2 w (get_or words w []) here in
      (one.0, one.2)),
)

-- pages of settled lines
lines-settle : (cells : List Cell) → ((k : ℕ) (cell : Cell) → slice_get cells k ≡ Some cell → IsSettled cell) → AreSettled cells
lines-settle [] each = tt
lines-settle (cell ∷ cells) each = (each 0 cell refl, lines-settle cells (λ k c is. each (suc k) c is))

pages-settle : (pages : List Page) → ((i : ℕ) (cells : List Cell) → slice_get pages i ≡ Some (Present cells) → (length cells ≡ 64) × AreSettled cells) → ArePagesSettled pages
pages-settle [] each = tt
pages-settle (Absent ∷ pages) each = (tt, pages-settle pages (λ i cells is. each (suc i) cells is))
pages-settle (Present lines ∷ pages) each = (each 0 lines refl, pages-settle pages (λ i cells is. each (suc i) cells is))

before : (old new : Option Cell) (cell : Cell) → Became LineSurvives old new → new ≡ Some cell → (first : Cell) × (old ≡ Some first) × LineSurvives first cell
before None None cell survives is = cc
before None (Some new) cell survives is = absurd survives
before (Some old) None cell survives is = absurd survives
before (Some old) (Some new) cell survives is = let same : new ≡ cell = cc in (old, refl, subst (λ c. LineSurvives old c) same survives)

pub survivors-settled : (left now : List Page) → PagesSurvive left now → HaveEightWords left → AreWhole now → ArePagesSettled now
survivors-settled left now survive eight whole =
    pages-settle now (λ i cells page. (
      whole i cells page,
      lines-settle cells (λ k cell is.
          let low : k < 64 = omega (arith, slice_get_within cells k cell is, whole i cells page) in
          let old = before (cell_of left (64 * i + k)) (cell_of now (64 * i + k)) cell (survive.each (64 * i + k)) (line-of_page now i k cells cell page is low) in
          line-settles old.0 cell (eight (64 * i + k) old.0 old.1) old.2),
    ))

same-pages : (left now : List Page) → PagesSurvive left now → length now ≡ length left
same-pages left now survive = sym (length-map now is_present) ∙ ap length survive.there ∙ length-map left is_present

pub volume-stored : (geo : Geometry) (left now : List Page) → HasVolumeShape geo left → PagesSurvive left now → AreWhole now → IsStorableVolume geo now
volume-stored geo left now shape survive whole = record {
  all = same-pages left now survive ∙ shape.all;
  pages = survivors-settled left now survive shape.words whole;
}

-- how many pages are there
there-count : List Bool → ℕ
there-count [] = 0
there-count (true ∷ there) = suc (there-count there)
there-count (false ∷ there) = there-count there

length-present : (pages : List Page) → length (present_pages pages) ≡ there-count (presence_of pages)
unfolding there-count
length-present [] = refl
length-present (Absent ∷ pages) = length-present pages
length-present (Present cells ∷ pages) = ap suc (length-present pages)

files-number : (left now : List File) → FilesSurvive left now → length now ≡ length left
files-number [] [] survive = refl
files-number [] (file ∷ now) survive = absurd survive
files-number (file ∷ left) [] survive = absurd survive
files-number (old ∷ left) (file ∷ now) survive = ap suc (files-number left now survive.2)

files-room : (left now : List File) → FilesSurvive left now → length (all_present now) ≡ length (all_present left)
files-room [] [] survive = refl
files-room [] (file ∷ now) survive = absurd survive
files-room (file ∷ left) [] survive = absurd survive
files-room (old ∷ left) (file ∷ now) survive =
    let own : length (present_pages file.pages) ≡ length (present_pages old.pages) = length-present file.pages ∙ ap there-count survive.1.there ∙ sym (length-present old.pages) in
    omega (arith, own, files-room left now survive.2, length-append (present_pages file.pages) (all_present now), length-append (present_pages old.pages) (all_present left))

all-before : (name : List ℕ) (left now : List File) → FilesSurvive left now
    → list_all (λ (y : File). is_before name (file_name y)) now ≡ list_all (λ (y : File). is_before name (file_name y)) left
all-before name [] [] survive = refl
all-before name [] (file ∷ now) survive = absurd survive
all-before name (file ∷ left) [] survive = absurd survive
all-before name (old ∷ left) (file ∷ now) survive =
    ap₂ (λ (n : List ℕ) (b : Bool). is_before name n && b) (sym survive.0) (all-before name left now survive.2)

files-rise : (left now : List File) → FilesSurvive left now → rises file_name now ≡ rises file_name left
files-rise [] [] survive = refl
files-rise [] (file ∷ now) survive = absurd survive
files-rise (file ∷ left) [] survive = absurd survive
files-rise (old ∷ left) (file ∷ now) survive =
    ap₂ (λ (a b : Bool). a && b) (ap (λ (n : List ℕ). list_all (λ (y : File). is_before n (file_name y)) now) (sym survive.0) ∙ all-before old.name left now survive.2)
    (files-rise left now survive.2)

files-each : (left now : List File) → HaveFileShapes left → FilesSurvive left now → AreFilesWhole now → AreStorableFiles now
files-each [] [] shape survive whole = tt
files-each [] (file ∷ now) shape survive whole = absurd survive
files-each (file ∷ left) [] shape survive whole = absurd survive
files-each (old ∷ left) (file ∷ now) shape survive whole = (
  record {
    name = ap is_name (sym survive.0) ∙ shape.0.name;
    few = omega (arith, same-pages old.pages file.pages survive.1, shape.0.few);
    pages = survivors-settled old.pages file.pages survive.1 shape.0.words whole.0;
  },
  files-each left now shape.1 survive.2 whole.1,
)

pub files-stored : (geo : Geometry) (left now : List File) → HasFilesShape geo left → FilesSurvive left now → AreFilesWhole now → IsStorableFiles geo now
files-stored geo left now shape survive whole = record {
  few = omega (arith, files-number left now survive, shape.few);
  each = files-each left now shape.each survive whole;
  in_order = files-rise left now survive ∙ shape.in_order;
  room = omega (arith, files-room left now survive, shape.room);
}
