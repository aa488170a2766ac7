-- What a part is in each state of a program, line by line.
use Rattle.std.proofs.Common.{◌≡◌, ◌==◌, ◌/◌, ◌%◌, ℕ, Option, Some, List, [], ◌∷◌, ◌++◌, map, refl, sym, ap, ◌∙◌}
use Rattle.block_sights.specs.Sights.{Sight as BlockSight}
use Rattle.nvm_model.specs.Cell.{Cell}
use Rattle.script_text.specs.declared.command.Command.{Command}
use Rattle.script_text.specs.Action.{action_of}
use Rattle.explorer.specs.MachineModel.Machine.{Machine}
use Rattle.explorer.specs.MachineModel.Commands.{fate}
use Rattle.explorer.specs.Outcomes.Stops.{led_to}
use Rattle.explorer.specs.AskedReads.Program.{inputs_of_lines}
use Rattle.explorer.specs.AskedReads.declared.read.Read.{Read}
use Rattle.explorer.specs.AskedReads.declared.read.Read.TheVariants.{Volume, Blocks, File}
use Rattle.explorer.specs.ValueTables.Left.{FileSide, file_side}
use Rattle.explorer.specs.ValueTables.Left.FileSide.{NoFile, PastEnd, OfLine}
use Rattle.explorer.specs.ValueTables.Values.{cells_of, history_of, values_with, with_all}
use Rattle.outcome_lists.specs.Choices.{sights_through, states, values_through}

-- values of lines behind one another
values_with-append : (w : ℕ) (xs : List Cell) (found : List ℕ) (ys : List Cell) → values_with w found (xs ++ ys) ≡ values_with w (values_with w found xs) ys
values_with-append w [] found ys = refl
values_with-append w (x ∷ xs) found ys = values_with-append w xs (with_all (λ a b. a == b) found (history_of w x)) ys

cells_of-first : (side : FileSide) (sides : List FileSide) → cells_of (side ∷ sides) ≡ cells_of (side ∷ []) ++ cells_of sides
cells_of-first NoFile sides = refl
cells_of-first PastEnd sides = refl
cells_of-first (OfLine cell) sides = refl

-- one state, and then others
values_next : (part : Read) (found : List ℕ) (h : Machine) (hs : List Machine) → values_through part found (h ∷ hs) ≡ values_through part (values_through part found (h ∷ [])) hs
values_next (Volume start len) found h hs = refl
values_next (Blocks first count) found h hs = refl
values_next (File name start len) found h hs =
    let sides = map (λ (h : Machine). file_side name (start / 8) h.files) hs in
    ap (values_with (start / 8 % 8) found) (cells_of-first (file_side name (start / 8) h.files) sides)
    ∙ values_with-append (start / 8 % 8) (cells_of (file_side name (start / 8) h.files ∷ [])) found (cells_of sides)

sights_next : (part : Read) (found : List BlockSight) (h : Machine) (hs : List Machine)
    → sights_through part found (h ∷ hs) ≡ sights_through part (sights_through part found (h ∷ [])) hs
sights_next (Volume start len) found h hs = refl
sights_next (Blocks first count) found h hs = refl
sights_next (File name start len) found h hs = refl

-- a state more, before a command
module _ (part : Read) (to : Machine) (command : Command) (lines : List (Option Command)) where
  abbrev later : List Machine
  later = states (led_to to (fate to (action_of command))) (inputs_of_lines lines)

  pub values_on : (old new all : List ℕ) → new ≡ values_through part old (to ∷ []) → values_through part old (states to (inputs_of_lines (Some command ∷ lines))) ≡ all
      → values_through part new later ≡ all
  values_on old new all more were = ap (λ vs. values_through part vs later) more ∙ sym (values_next part old to later) ∙ were

  pub sights_on : (old new all : List BlockSight) → new ≡ sights_through part old (to ∷ []) → sights_through part old (states to (inputs_of_lines (Some command ∷ lines))) ≡ all
      → sights_through part new later ≡ all
  sights_on old new all more were = ap (λ vs. sights_through part vs later) more ∙ sym (sights_next part old to later) ∙ were
