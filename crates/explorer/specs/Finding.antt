-- What an exploration finds.
use Rattle.std.specs.Prelude.{◌≡◌, ◌≤◌, ◌<◌, ◌-◌, ◌++◌, true, List, filter, length, map, Option, Some, None, option_and_then, option_map, slice_get}
use Rattle.script_text.specs.declared.command.Command.{Command}
use Rattle.script_text.specs.Action.{Action, action_of}
use Rattle.cut_places.specs.MachineModel.Machine.{Machine}
use Rattle.cut_places.specs.Outcomes.Blocks.{all_numbers_read}
use Rattle.cut_places.specs.Outcomes.Pages.{all_lines_read}
use Rattle.cut_places.specs.Outcomes.Seen.{Seen, block_reads, file_reads, may_show, volume_reads}
use Rattle.cut_places.specs.declared.place.CutPlace.{CutPlace}
use Rattle.cut_places.specs.declared.place.CutPlace.TheVariants.{Before, Inside}
use Rattle.cut_places.specs.Places.{Stop}
use Rattle.value_tables.specs.declared.shown.Shown.TheVariants.{Block}
use Rattle.witnesses.specs.declared.kept.Kept.{Kept}
use Rattle.witnesses.specs.Blocks.{numbers_of_blocks}
use Rattle.witnesses.specs.Files.{places_of, places_read}
use Rattle.witnesses.specs.Lines.{numbers_of_lines}
use Rattle.witnesses.specs.Sizes.{has_line, names_of_sizes, names_read}
use Rattle.witnesses.specs.Telling.{told}
use Rattle.explorer.specs.Choosing.{file_line_choices, has_choice, line_choices, size_choice}
use Rattle.explorer.specs.declared.found.Found.{Found}

-- What is kept where the power goes in this state: each line, block and file that all the look's reads touch, in their order, and of a file
-- those lines that exist. The state may show all of them so after what is asked, and of each it is said whether it has a choice.
pub record IsKept (all look : List Seen) (off : Machine) (kept : Kept) : Type 0 where
  pub shown : may_show (look ++ told kept) off ≡ true
  pub lines : numbers_of_lines kept.lines.items ≡ all_lines_read (volume_reads all)
  pub blocks : numbers_of_blocks kept.blocks.items ≡ all_numbers_read (block_reads all)
  pub sizes : names_of_sizes kept.sizes.items ≡ names_read (file_reads all)
  pub files : places_of kept.files.items ≡ filter (has_line kept.sizes.items) (places_read (file_reads all))
  pub words : map (λ k. k.free) kept.lines.items ≡ map (line_choices off) (all_lines_read (volume_reads all))
  pub sights : map (λ k. k.free) kept.blocks.items ≡ map (λ b. has_choice off (Block b)) (all_numbers_read (block_reads all))
  pub lengths : map (λ k. k.free) kept.sizes.items ≡ map (size_choice off) (names_read (file_reads all))
  pub file_words : map (λ k. k.free) kept.files.items ≡ map (file_line_choices off) (places_of kept.files.items)

-- nothing, where the look is shown at no place; or the first place at which it is, with what a cut may keep there
abbrev pub IsFound : List Seen → List Seen → Option Stop → Option Found → Type 0
IsFound all look None None = Unit {0}
IsFound all look None (Some found) = ⊥
IsFound all look (Some stop) None = ⊥
IsFound all look (Some stop) (Some found) = (found.place ≡ stop.place) × IsKept all look stop.state found.kept

-- the place is one of the lines of a program
abbrev pub IsOn : List (Option Command) → CutPlace → Type 0
IsOn lines (Before n) = Unit {0}
IsOn lines (Inside n) = (1 ≤ n) × (n - 1 < length lines)

-- the action that is interrupted there, if any
abbrev pub action_on : Option (Option Command) → Option Action
action_on line = option_and_then (λ command. option_map action_of command) line

abbrev pub inside_at : List (Option Command) → CutPlace → Option Action
inside_at lines (Before n) = None
inside_at lines (Inside n) = action_on (slice_get lines (n - 1))
