-- What a list says of the machine's runs: each outcome is what some run finds, and what a run finds of such choices is an outcome.
use Rattle.std.specs.Prelude.{◌≡◌, ◌*◌, ◌<◌, ℕ, true, Contains, List, [], length}
use Rattle.block_sights.specs.Sights.{Sight}
use Rattle.script_text.specs.Script.{Input}
use Rattle.outcome_lists.specs.MachineModel.Machine.{Machine}
use Rattle.outcome_lists.specs.OutcomeTest.Finds.{Finds, armed}
use Rattle.outcome_lists.specs.OutcomeTest.Pages.PageReply.{Shows}
use Rattle.outcome_lists.specs.AskedReads.declared.read.Read.{Read}
use Rattle.outcome_lists.specs.AskedReads.declared.read.Read.TheVariants.{Volume, Blocks, File}
use Rattle.outcome_lists.specs.CutPlaces.declared.place.CutPlace.{CutPlace}
use Rattle.outcome_lists.specs.ValueTables.Listed.{IsSized, block_read, file_word_read, lists_bytes, lists_sight, reply_of, word_read}
use Rattle.outcome_lists.specs.Choices.{Choice, choices, sights_through, states, values_through}
use Rattle.outcome_lists.specs.Listing.{Picks, StandOnce, asked_with, outcome_at}
use Rattle.outcome_lists.specs.Outcomes.{Outcome, look_of, nothing, outcomes_of}

-- So it is of the outcomes of any parts.
pub record ListsRuns (h : Machine) (program : List Input) : Type 0 where
  pub found : (parts : List Read) (o : Outcome) → Contains (outcomes_of (armed h) program parts) o → Finds h program (look_of o.asked)
  pub every : (parts : List Read) (picked : List Choice) → Picks (choices (states (armed h) program)) parts picked → Finds h program (look_of (asked_with nothing picked))
      → (place : CutPlace) × Contains (outcomes_of (armed h) program parts) (outcome_at place picked)
  -- no two of them are alike, so their number is how many there are
  pub once : (parts : List Read) → StandOnce (outcomes_of (armed h) program parts)
  -- and what a run finds of one word or block alone is one of its choices
  pub words : (p : ℕ) (bytes : List ℕ) → p < 512 * h.geometry.vpages → length bytes ≡ 8 → Finds h program (word_read p (Shows bytes))
      → lists_bytes bytes (values_through (Volume (8 * p) 8) [] (states (armed h) program)) ≡ true
  pub blocks : (b : ℕ) (sight : Sight) → b < h.geometry.blocks → IsSized sight → Finds h program (block_read b (reply_of b sight))
      → lists_sight sight (sights_through (Blocks b 1) [] (states (armed h) program)) ≡ true
  pub file_words : (name : List ℕ) (p : ℕ) (bytes : List ℕ) → length bytes ≡ 8 → Finds h program (file_word_read name p (Shows bytes))
      → lists_bytes bytes (values_through (File name (8 * p) 8) [] (states (armed h) program)) ≡ true
