-- Looks of one word, of the volume or a file, or one block, and the states of which a table lists what they may show.
use Rattle.std.specs.Prelude.{◌≡◌, ◌*◌, ◌/◌, ◌<◌, ℕ, Bool, List, [], ◌∷◌, length}
use Rattle.std.specs.Int.{w64, to_le_bytes}
use Rattle.std.specs.List.{list_any}
use Rattle.std.specs.Str.{bytes_eq}
use Rattle.block_sights.specs.Sights.{Sight}
use Rattle.block_sights.specs.Sights.Sight.{Whole, Scar, BadLine}
pub use Rattle.cut_places.specs.Enough.{HasWords, HaveOne}
use Rattle.cut_places.specs.MachineModel.Machine.{Machine}
use Rattle.cut_places.specs.Durable.Durable.{AllHaveLines, HaveLines, IsCounted}
use Rattle.cut_places.specs.Outcomes.Blocks.{BlockReply}
use Rattle.cut_places.specs.Outcomes.Blocks.BlockReply.{Shows as ShowsBlocks, Scar as Scarred, BadLine as Poisoned}
use Rattle.cut_places.specs.Outcomes.Outcome.{AllHaveValues}
use Rattle.cut_places.specs.Outcomes.Pages.{PageReply}
use Rattle.cut_places.specs.Outcomes.Seen.{Seen}
use Rattle.cut_places.specs.Outcomes.Seen.Seen.{of_blocks, of_file, of_volume}
use Rattle.cut_places.specs.SightsSeen.Seeing.{seen}
use Rattle.cut_places.specs.SightsSeen.BlockTelling.{same_sight}

-- all blocks and pages are there, and so are their lines as reads see them; and so are those of files, whose words have values
pub record IsSound (off : Machine) : Type 0 where
  pub counted : IsCounted off
  pub lines : HaveLines off.volume
  pub words : (n : ℕ) → n / 64 < length off.volume → HasWords (seen off.volume n)
  pub file_lines : AllHaveLines off.files
  pub file_values : AllHaveValues off.files

-- word p is read, of the volume or of a file, or block b, and answered so
abbrev pub word_read : ℕ → PageReply → List Seen
word_read p reply = of_volume (record { start = 8 * p; len = 8; reply = reply }) ∷ []

abbrev pub file_word_read : List ℕ → ℕ → PageReply → List Seen
file_word_read name p reply = of_file (record { name = name; pages = record { start = 8 * p; len = 8; reply = reply } }) ∷ []

abbrev pub block_read : ℕ → BlockReply → List Seen
block_read b reply = of_blocks (record { first = b; count = 1; reply = reply }) ∷ []

-- how it is answered where the block is seen so
abbrev pub reply_of : ℕ → Sight → BlockReply
reply_of b (Whole bytes) = ShowsBlocks bytes
reply_of b Scar = Scarred b
reply_of b (BadLine line) = Poisoned b line

-- what is seen of a block that can be read are 512 bytes
abbrev pub IsSized : Sight → Type 0
IsSized (Whole bytes) = length bytes ≡ 512
IsSized Scar = Unit {0}
IsSized (BadLine line) = Unit {0}

-- one of the values has these bytes, and one of the sights is seen so
abbrev pub has_bytes : List ℕ → ℕ → Bool
has_bytes bytes v = bytes_eq (to_le_bytes w64 v) bytes

abbrev pub lists_bytes : List ℕ → List ℕ → Bool
lists_bytes bytes values = list_any (has_bytes bytes) values

abbrev pub lists_sight : Sight → List Sight → Bool
lists_sight sight sights = list_any (same_sight sight) sights
