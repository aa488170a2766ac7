-- Choices as they are held.
use Rattle.std.specs.Prelude.{List, map}
use Rattle.explorer.specs.Outcomes.Seen.{Seen}
use Rattle.explorer.specs.Outcomes.Seen.Seen.{of_blocks, of_file, of_volume}
use Rattle.explorer.specs.AskedReads.declared.question.Question.{Question}
use Rattle.explorer.specs.AskedReads.Asking.{blocks_of, files_asked, volume_asked}
use Rattle.explorer.specs.AskedReads.Reads.{block_read, file_read, page_read}
use Rattle.outcome_lists.specs.Choices.{Choice}
use Rattle.outcome_lists.specs.Outcomes.{Asked}
use Rattle.outcome_lists.specs.declared.choice.Asks.{Asks}
use Rattle.outcome_lists.specs.declared.choice.Asks.TheVariants as asks
use Rattle.outcome_lists.specs.declared.choice.Choice.{Choice as ChoiceHeld}

-- what a question asks
abbrev pub asked : Question → Asked
asked q = record { volume = volume_asked q; blocks = blocks_of q; files = files_asked q }

-- a read that is asked, with its reply
abbrev pub seen_asked : Asks → Seen
seen_asked (asks.Volume read) = of_volume (page_read read)
seen_asked (asks.Blocks read) = of_blocks (block_read read)
seen_asked (asks.File read) = of_file (file_read read)

abbrev pub choice_held : ChoiceHeld → Choice
choice_held c = record { seen = seen_asked c.asks; text = c.text.items }

abbrev pub choices_held : List ChoiceHeld → List Choice
choices_held cs = map choice_held cs
