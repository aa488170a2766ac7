-- What is looked at is enough for a question: it may be more than the question asks about.
use Rattle.std.specs.Prelude.{◌≡◌, ◌⊎◌, ◌≤◌, ◌<◌, ℕ, true, List, [], ◌∷◌, length, slice_index_or}
use Rattle.nvm_model.specs.Cell.{Cell}
use Rattle.nvm_model.specs.Cell.Cell.{Bad, Kept}
use Rattle.sights.specs.Outcomes.Blocks.{all_numbers_read}
use Rattle.sights.specs.Outcomes.Pages.{all_lines_read}
use Rattle.sights.specs.AskedReads.declared.question.Question.{Question}
use Rattle.sights.specs.AskedReads.Asking.{blocks_of, files_asked, volume_asked}
use Rattle.sights.specs.declared.line_seen.LineSeen.{LineSeen}
use Rattle.sights.specs.Units.{block_numbers, line_numbers}
use Rattle.cut_places.specs.SeesFiles.{are_held}
use Rattle.cut_places.specs.declared.sight.Sight.{Sight}

-- x is one of them
abbrev pub IsAmong : {A : Type 0} → A → List A → Type 0
IsAmong x [] = ⊥
IsAmong x (y ∷ ys) = (x ≡ y) ⊎ IsAmong x ys

-- a line is bad, or has eight words, each with a value
abbrev pub HaveOne : List (List ℕ) → Type 0
HaveOne [] = Unit {0}
HaveOne (history ∷ words) = (1 ≤ length history) × HaveOne words

abbrev pub HasWords : Cell → Type 0
HasWords Bad = Unit {0}
HasWords (Kept weak words) = (length words ≡ 8) × HaveOne words

-- each of its words has a value
abbrev pub HasEach : Cell → Type 0
HasEach Bad = Unit {0}
HasEach (Kept weak words) = (w : ℕ) → w < 8 → 1 ≤ length (slice_index_or words w [])

-- each line and block of which the question asks is looked at, and in each file those lines; each word of a line has a value
pub record IsEnough (sight : Sight) (q : Question) : Type 0 where
  pub lines : (n : ℕ) → IsAmong n (all_lines_read (volume_asked q)) → IsAmong n (line_numbers sight.lines.items)
  pub blocks : (b : ℕ) → IsAmong b (all_numbers_read (blocks_of q)) → IsAmong b (block_numbers sight.blocks.items)
  pub files : are_held sight.files.numbers (files_asked q) ≡ true
  pub words : (s : LineSeen) → IsAmong s sight.lines.items → HasWords s.line
