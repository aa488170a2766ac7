-- Lines of which each word keeps one of its values.
use Rattle.std.specs.Prelude.{◌≡◌, ℕ, List, [], ◌∷◌, length, Some, slice_get}
use Rattle.line_device.specs.History.{IsIn}
use Rattle.nvm_model.specs.Cell.{Cell}
use Rattle.nvm_model.specs.Cell.Cell.{Bad, Kept}
use Rattle.nvm_model.specs.Interrupted.{LineByLine}
use Rattle.nvm_model.specs.Listing.{AreAlike, file_name}
use Rattle.nvm_model.specs.Page.{Page}
use Rattle.nvm_model.specs.Storage.{File}

-- a line after a restart: bad and weak as before, and of each word one of its values
abbrev pub LineSurvives : Cell → Cell → Type 0
LineSurvives Bad Bad = Unit {0}
LineSurvives Bad (Kept mark values) = ⊥
LineSurvives (Kept weak words) Bad = ⊥
LineSurvives (Kept weak words) (Kept mark values) =
    (mark ≡ weak) × (length values ≡ length words)
    × ((w : ℕ) (history : List ℕ) → slice_get words w ≡ Some history → (v : ℕ) × IsIn v history × (slice_get values w ≡ Some (v ∷ [])))

-- pages and files: line by line
abbrev pub PagesSurvive : List Page → List Page → Type 0
PagesSurvive = LineByLine (λ n. LineSurvives)

abbrev pub FilesSurvive : List File → List File → Type 0
FilesSurvive = AreAlike file_name file_name (λ (old now : File). PagesSurvive old.pages now.pages)
