-- What is looked at where a cut falls, so that a cut there may leave all that is kept of it with what a question asks.
use Rattle.std.specs.Prelude.{◌≡◌, ℕ, true, List, Option, Some}
use Rattle.word_tables.specs.declared.geometry.Geometry.{Geometry}
use Rattle.nvm_model.specs.Cell.{Cell}
use Rattle.nvm_model.specs.Listing.{file_of}
use Rattle.script_text.specs.Action.{Action}
use Rattle.cut_places.specs.Outcomes.Blocks.{all_numbers_read}
use Rattle.cut_places.specs.Outcomes.Pages.{all_lines_read}
use Rattle.cut_places.specs.AskedReads.Asking.{blocks_of, files_asked, volume_asked}
use Rattle.cut_places.specs.AskedReads.declared.question.Question.{Question}
use Rattle.cut_places.specs.SightsSeen.declared.line_seen.LineSeen.{LineSeen}
use Rattle.cut_places.specs.declared.sight.Sight.{Sight}
use Rattle.cut_places.specs.FilesState.{name_seen}
use Rattle.cut_places.specs.SeesFiles.{is_held}
pub use Rattle.cut_places.specs.Enough.{HasEach, IsAmong}
use Rattle.cut_places.specs.Following.{IsWhole, IsWithin}
use Rattle.witnesses.specs.Files.{left_there, line_there, places_read}
use Rattle.witnesses.specs.Lines.{line_mixed}

-- all that a question's reads look at others look at too
pub record Covers (q looked : Question) : Type 0 where
  pub lines : (n : ℕ) → IsAmong n (all_lines_read (volume_asked q)) → IsAmong n (all_lines_read (volume_asked looked))
  pub blocks : (b : ℕ) → IsAmong b (all_numbers_read (blocks_of q)) → IsAmong b (all_numbers_read (blocks_of looked))
  pub files : (place : List ℕ × ℕ) → IsAmong place (places_read (files_asked q)) → IsAmong place (places_read (files_asked looked))

-- It is all that these reads look at, those of the question among them, and each word that a cut may leave has a value.
pub record LooksThere (geo : Geometry) (inside : Option Action) (q looked : Question) (now : Sight) : Type 0 where
  pub whole : IsWhole now looked
  pub within : IsWithin now geo
  pub covers : Covers q looked
  pub words : (s : LineSeen) → IsAmong s now.lines.items → HasEach s.line × HasEach (line_mixed geo inside s).line
  pub file_words : (name : List ℕ) (n : ℕ) (line : Cell) → is_held now.files.numbers n ≡ true
      → line_there n (file_of name_seen name (left_there inside (files_asked q) now.files).files) ≡ Some line → HasEach line
