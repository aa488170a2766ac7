-- What a table says of the machine's runs: a value is listed at some place exactly where some run finds it.
use Rattle.std.specs.Prelude.{◌≡◌, ◌↔◌, ◌*◌, ◌/◌, ◌%◌, ◌<◌, ℕ, Bool, true, List, length}
use Rattle.std.specs.List.{list_any}
use Rattle.block_sights.specs.Sights.{Sight}
use Rattle.reply_text.specs.declared.reply.Why.TheVariants.{Missing, Range}
use Rattle.script_text.specs.Script.{Input}
use Rattle.outcome_lists.specs.MachineModel.Machine.{Machine}
use Rattle.outcome_lists.specs.OutcomeTest.Finds.{Finds, armed}
use Rattle.outcome_lists.specs.OutcomeTest.Pages.PageReply.{Poison, Refuses, Shows}
use Rattle.outcome_lists.specs.CutPlaces.Places.{Stop, cut_places}
use Rattle.outcome_lists.specs.ValueTables.Left.{block_left, file_left, line_left}
use Rattle.outcome_lists.specs.ValueTables.Listed.{IsSized, block_read, file_word_read, lists_bytes, lists_sight, reply_of, word_read}
use Rattle.outcome_lists.specs.ValueTables.Values.{block_values, cells_of, is_missing, is_past, may_be_bad, word_values}

-- the state of some place of a cut in a program passes a test
abbrev pub at_some_place : (Machine → Bool) → Machine → List Input → Bool
at_some_place test h program = list_any (λ (stop : Stop). test stop.state) (cut_places 1 (armed h) program)

-- a row of a word, of the volume or of a file, or of a block lists this, where the power goes in that state
abbrev pub lists_word : ℕ → List ℕ → Machine → Bool
lists_word p bytes off = lists_bytes bytes (word_values (p % 8) (line_left off (p / 8)))

abbrev pub lists_poison : ℕ → Machine → Bool
lists_poison p off = may_be_bad (line_left off (p / 8))

abbrev pub lists_block : ℕ → Sight → Machine → Bool
lists_block b sight off = lists_sight sight (block_values (block_left off b))

abbrev pub lists_missing : List ℕ → ℕ → Machine → Bool
lists_missing name p off = list_any is_missing (file_left off name p)

abbrev pub lists_range : List ℕ → ℕ → Machine → Bool
lists_range name p off = list_any is_past (file_left off name p)

abbrev pub lists_file_word : List ℕ → ℕ → List ℕ → Machine → Bool
lists_file_word name p bytes off = lists_bytes bytes (word_values (p % 8) (cells_of (file_left off name p)))

abbrev pub lists_file_poison : List ℕ → ℕ → Machine → Bool
lists_file_poison name p off = may_be_bad (cells_of (file_left off name p))

-- What is listed at some place is what runs from that state find by a read of it alone, and nothing else.
pub record TellsRuns (h : Machine) (program : List Input) : Type 0 where
  pub words : (p : ℕ) (bytes : List ℕ) → p < 512 * h.geometry.vpages → length bytes ≡ 8
      → at_some_place (lists_word p bytes) h program ≡ true ↔ Finds h program (word_read p (Shows bytes))
  pub poison : (p : ℕ) → p < 512 * h.geometry.vpages → at_some_place (lists_poison p) h program ≡ true ↔ Finds h program (word_read p (Poison (64 * (p / 8))))
  pub blocks : (b : ℕ) (sight : Sight) → b < h.geometry.blocks → IsSized sight
      → at_some_place (lists_block b sight) h program ≡ true ↔ Finds h program (block_read b (reply_of b sight))
  pub missing : (name : List ℕ) (p : ℕ) → at_some_place (lists_missing name p) h program ≡ true ↔ Finds h program (file_word_read name p (Refuses Missing))
  pub range : (name : List ℕ) (p : ℕ) → at_some_place (lists_range name p) h program ≡ true ↔ Finds h program (file_word_read name p (Refuses Range))
  pub file_words : (name : List ℕ) (p : ℕ) (bytes : List ℕ) → length bytes ≡ 8
      → at_some_place (lists_file_word name p bytes) h program ≡ true ↔ Finds h program (file_word_read name p (Shows bytes))
  pub file_poison : (name : List ℕ) (p : ℕ)
      → at_some_place (lists_file_poison name p) h program ≡ true ↔ Finds h program (file_word_read name p (Poison (64 * (p / 8))))
