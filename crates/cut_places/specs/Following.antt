-- What is looked at, where the machine is in this state, and what following it through a program finds.
use Rattle.std.specs.Prelude.{◌≡◌, ◌≤◌, ◌-◌, ℕ, Bool, true, false, List, [], ◌∷◌, map, Option, Some, None, is_none, slice_get}
use Rattle.word_tables.specs.declared.geometry.Geometry.{Geometry}
use Rattle.nvm_model.specs.Blocks.{nth}
use Rattle.block_sights.specs.Sights.{sight}
use Rattle.script_text.specs.declared.command.Command.{Command}
use Rattle.script_text.specs.Action.{Action, action_of}
use Rattle.sights.specs.MachineModel.Machine.{Machine}
use Rattle.sights.specs.MachineModel.Commands.{fate, refusal, while_interrupted}
use Rattle.sights.specs.Outcomes.Blocks.{all_numbers_read}
use Rattle.sights.specs.Outcomes.Finds.{IsReady}
use Rattle.sights.specs.Outcomes.Pages.{all_lines_read}
use Rattle.sights.specs.Outcomes.Seen.{Seen, may_show}
use Rattle.sights.specs.Outcomes.Stops.{inside, led_to}
use Rattle.sights.specs.AskedReads.declared.question.Question.{Question}
use Rattle.sights.specs.AskedReads.Asking.{blocks_of, files_asked, volume_asked}
use Rattle.cut_places.specs.SeesFiles.{SeesFiles, are_held}
use Rattle.cut_places.specs.declared.sight.Sight.{Sight}
use Rattle.cut_places.specs.declared.place.CutPlace.{CutPlace}
use Rattle.cut_places.specs.declared.place.CutPlace.TheVariants.{Before, Inside}
use Rattle.cut_places.specs.Places.{Stop, first_stop}
use Rattle.sights.specs.Seeing.{seen}
use Rattle.cut_places.specs.Sights.{files_once_done, shows, shows_inside}
use Rattle.sights.specs.Units.{AreAmong, AreBlocks, AreLines, AreWithin, block_numbers, block_once_done, line_numbers, line_once_done}

-- it looks at all lines and blocks of which a question asks, read by read, and in each file at those lines
pub record IsWhole (sight : Sight) (q : Question) : Type 0 where
  pub lines : line_numbers sight.lines.items ≡ all_lines_read (volume_asked q)
  pub blocks : block_numbers sight.blocks.items ≡ all_numbers_read (blocks_of q)
  pub files : are_held sight.files.numbers (files_asked q) ≡ true

-- they are lines of the volume and blocks of a device of these sizes
pub record IsWithin (sight : Sight) (geo : Geometry) : Type 0 where
  pub lines : AreWithin geo sight.lines.items
  pub blocks : AreAmong geo sight.blocks.items

-- the lines, blocks and files are those of the state
pub record Sees (now : Sight) (h : Machine) : Type 0 where
  pub lines : AreLines (seen h.volume) now.lines.items
  pub blocks : AreBlocks (λ b. sight (nth h.blocks b)) now.blocks.items
  pub files : SeesFiles now.files h

-- So is the state, which is of these sizes and in which nothing is interrupted.
pub record Follows (now : Sight) (geo : Geometry) (h : Machine) : Type 0 where
  pub ready : IsReady h
  pub sizes : h.geometry ≡ geo
  pub sees : Sees now h

-- which lines of a program are done from a state on; those without a command tell nothing
abbrev pub AreDone : Machine → List (Option Command) → List Bool → Type 0
AreDone h [] done = Unit {0}
AreDone h (line ∷ lines) [] = ⊥
AreDone h (None ∷ lines) (is ∷ done) = AreDone h lines done
AreDone h (Some command ∷ lines) (is ∷ done) =
    (is_none (refusal h (action_of command)) ≡ is) × AreDone (led_to h (fate h (action_of command))) lines done

-- the places of a cut of one command, on the line of that number
abbrev pub command_stops : ℕ → Machine → Action → List Stop
command_stops n h action = record { place = Before n; state = h } ∷ map (λ m. record { place = Inside n; state = m }) (inside h action (fate h action))

-- what is looked at is that of the state in which a command is cut that is done
pub record IsCut (action : Action) (now : Sight) (geo : Geometry) (cut : Machine) : Type 0 where
  pub before : Machine
  pub follows : Follows now geo before
  pub done : refusal before action ≡ None
  pub is : cut ≡ while_interrupted before action

-- the same of a place of a program: of the state there, or of that in which the command on its line is cut
abbrev pub IsAt : List (Option Command) → Sight → Geometry → CutPlace → Machine → Type 0
IsAt lines now geo (Before n) state = Follows now geo state
IsAt lines now geo (Inside n) state = (command : Command) × (slice_get lines (n - 1) ≡ Some (Some command)) × IsCut (action_of command) now geo state

-- and of a place of one command, on the line of that number
abbrev pub IsIn : ℕ → Action → Sight → Geometry → CutPlace → Machine → Type 0
IsIn line action now geo (Before n) state = Follows now geo state
IsIn line action now geo (Inside n) state = (n ≡ line) × IsCut action now geo state

-- None of these places shows it; or that place is the first that does, and what is looked at is that of the place.
abbrev pub IsFirst : List (Option Command) → List Seen → Sight → Geometry → List Stop → Option CutPlace → Type 0
IsFirst lines look now geo stops None = first_stop (may_show look) stops ≡ None
IsFirst lines look now geo stops (Some place) =
    (stop : Stop) × (first_stop (may_show look) stops ≡ Some stop) × (stop.place ≡ place) × IsAt lines now geo place stop.state

-- The same of the places of one command. Where none shows it, what is looked at is that of the next state.
abbrev pub Explores : ℕ → Action → List Seen → Sight → Geometry → Machine → Option CutPlace → Type 0
Explores line action look now geo h None = (first_stop (may_show look) (command_stops line h action) ≡ None) × Follows now geo (led_to h (fate h action))
Explores line action look now geo h (Some place) =
    (stop : Stop) × (first_stop (may_show look) (command_stops line h action) ≡ Some stop) × (stop.place ≡ place) × IsIn line action now geo place stop.state

-- what is asked may be shown at that place of a program
abbrev pub ShowsAt : List (Option Command) → Question → Sight → Geometry → CutPlace → Type 0
ShowsAt lines q now geo (Before n) = shows q now ≡ true
ShowsAt lines q now geo (Inside n) =
    (command : Command) × (1 ≤ n) × (slice_get lines (n - 1) ≡ Some (Some command)) × (shows_inside geo (action_of command) q now ≡ true)

-- and at that place of one command, on the line of that number
abbrev pub ShowsIn : ℕ → Action → Question → Sight → Geometry → CutPlace → Type 0
ShowsIn line action q now geo (Before n) = shows q now ≡ true
ShowsIn line action q now geo (Inside n) = (n ≡ line) × (shows_inside geo action q now ≡ true)

-- No cut inside a command that is done shows what is asked, and what is looked at is as after it; or one does.
abbrev pub Passes : Geometry → Action → ℕ → Question → Sight → Sight → Option CutPlace → Type 0
Passes geo action line q old new None =
    (shows_inside geo action q old ≡ false) × (new.lines.items ≡ map (line_once_done geo action) old.lines.items)
    × (new.blocks.items ≡ map (block_once_done geo action) old.blocks.items) × (new.files ≡ files_once_done action old.files)
Passes geo action line q old new (Some place) = (shows_inside geo action q old ≡ true) × (place ≡ Inside line) × (new ≡ old)
