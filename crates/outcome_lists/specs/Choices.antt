-- What a part of a look may be found to be: all that it ever is in a program, and, where a cut may leave it, that it can't be read.
use Rattle.std.specs.Prelude.{◌*◌, ◌/◌, ◌%◌, ◌++◌, ℕ, List, [], ◌∷◌, codes, decimal, map}
use Rattle.std.specs.Int.{w64, to_le_bytes}
use Rattle.nvm_base.specs.Data.{data_text}
use Rattle.nvm_model.specs.Blocks.{nth}
use Rattle.block_sights.specs.Sights.{Sight, sight}
use Rattle.explorer.specs.SightsSeen.BlockTelling.{same_sight, sight_text}
use Rattle.explorer.specs.SightsSeen.Seeing.{seen}
use Rattle.reply_text.specs.declared.reply.Why.TheVariants.{Missing, Range}
use Rattle.script_text.specs.Script.{Input}
use Rattle.script_text.specs.Script.Input.{Skipped, Malformed, Overlong, Asked}
use Rattle.explorer.specs.MachineModel.Machine.{Machine}
use Rattle.explorer.specs.MachineModel.Commands.{fate}
use Rattle.explorer.specs.Outcomes.Pages.{PageReply}
use Rattle.explorer.specs.Outcomes.Pages.PageReply.{Poison, Refuses, Shows}
use Rattle.explorer.specs.Outcomes.Seen.{Seen}
use Rattle.explorer.specs.Outcomes.Seen.Seen.{of_blocks, of_file, of_volume}
use Rattle.explorer.specs.Outcomes.Stops.{led_to}
use Rattle.explorer.specs.AskedReads.declared.read.Read.{Read}
use Rattle.explorer.specs.AskedReads.declared.read.Read.TheVariants.{Volume, Blocks, File}
use Rattle.explorer.specs.ValueTables.Left.{file_side}
use Rattle.explorer.specs.ValueTables.Listed.{reply_of}
use Rattle.explorer.specs.ValueTables.Values.{cells_of, values_with, with_all}

-- the states of a program: before each of its commands, and after the last one
abbrev pub states : Machine → List Input → List Machine
states h [] = h ∷ []
states h (Skipped ∷ inputs) = states h inputs
states h (Malformed ∷ inputs) = states h inputs
states h (Overlong ∷ inputs) = states h inputs
states h (Asked action ∷ inputs) = h ∷ states (led_to h (fate h action)) inputs

-- the values of the word that a part is of, through states, behind those that were found before, each once
abbrev pub values_through : Read → List ℕ → List Machine → List ℕ
values_through (Volume start len) found hs = values_with (start / 8 % 8) found (map (λ h. seen h.volume (start / 64)) hs)
values_through (Blocks first count) found hs = found
values_through (File name start len) found hs = values_with (start / 8 % 8) found (cells_of (map (λ h. file_side name (start / 8) h.files) hs))

-- and what is seen of its block
abbrev pub sights_through : Read → List Sight → List Machine → List Sight
sights_through (Volume start len) found hs = found
sights_through (Blocks first count) found hs = with_all same_sight found (map (λ h. sight (nth h.blocks first)) hs)
sights_through (File name start len) found hs = found

-- one way that a part may be found: its read with the reply, and the text of that
pub record Choice : Type 0 where
  pub seen : Seen
  pub text : List ℕ

-- where a part is, as it is printed
abbrev pub head : Read → List ℕ
head (Volume start len) = codes " | volume " ++ decimal start
head (Blocks first count) = codes " | block " ++ decimal first
head (File name start len) = codes " | file " ++ (name ++ (32 ∷ decimal start))

-- a word with that value
abbrev pub value_choice : List ℕ → (PageReply → Seen) → ℕ → Choice
value_choice before read v = record { seen = read (Shows (to_le_bytes w64 v)); text = before ++ (32 ∷ data_text (to_le_bytes w64 v)) }

-- a word: that its line is bad, and each of these values
abbrev pub word_choices : List ℕ → (PageReply → Seen) → ℕ → List ℕ → List Choice
word_choices before read start values = record { seen = read (Poison (64 * (start / 64))); text = before ++ codes " poison" } ∷ map (value_choice before read) values

-- a block that is seen so
abbrev pub block_choice : List ℕ → ℕ → Sight → Choice
block_choice before b s = record { seen = of_blocks (record { first = b; count = 1; reply = reply_of b s }); text = before ++ sight_text s }

-- a block: each of these sights
abbrev pub block_choices : List ℕ → ℕ → List Sight → List Choice
block_choices before b sights = map (block_choice before b) sights

-- a word of a file: also that there is no such file, or that it ends before the word
abbrev pub file_choices : List ℕ → (PageReply → Seen) → ℕ → List ℕ → List Choice
file_choices before read start values =
    record { seen = read (Refuses Missing); text = before ++ codes " missing" } ∷ record { seen = read (Refuses Range); text = before ++ codes " range" }
    ∷ word_choices before read start values

-- those of a part
abbrev pub choices_from : Read → List ℕ → List Sight → List Choice
choices_from (Volume start len) values sights = word_choices (head (Volume start len)) (λ reply. of_volume (record { start = start; len = len; reply = reply })) start values
choices_from (Blocks first count) values sights = block_choices (head (Blocks first count)) first sights
choices_from (File name start len) values sights =
    file_choices (head (File name start len)) (λ reply. of_file (record { name = name; pages = record { start = start; len = len; reply = reply } })) start values

-- in these states
abbrev pub choices : List Machine → Read → List Choice
choices hs part = choices_from part (values_through part [] hs) (sights_through part [] hs)
