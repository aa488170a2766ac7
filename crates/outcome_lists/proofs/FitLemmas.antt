-- Which states of a program show what is asked of a part.
use Rattle.std.proofs.Common.{◌≡◌, ◌&&◌, ℕ, Bool, Option, Some, List, [], ◌∷◌, ◌++◌, map, sym, ap, ap₂, ◌∙◌}
use Rattle.word_tables.specs.declared.geometry.Geometry.{Geometry}
use Rattle.script_text.specs.declared.command.Command.{Command}
use Rattle.script_text.specs.Action.{action_of}
use Rattle.explorer.specs.MachineModel.Machine.{Machine}
use Rattle.explorer.specs.MachineModel.Commands.{fate}
use Rattle.explorer.specs.Outcomes.Seen.{Seen, may_show}
use Rattle.explorer.specs.Outcomes.Stops.{led_to}
use Rattle.explorer.specs.AskedReads.declared.question.Question.{Question}
use Rattle.explorer.specs.AskedReads.declared.read.Read.{Read}
use Rattle.explorer.specs.AskedReads.Asking.{files_asked, may_be_replies}
use Rattle.explorer.specs.AskedReads.Program.{inputs_of_lines}
use Rattle.explorer.specs.AskedReads.Reads.{block_read, file_read, page_read}
use Rattle.explorer.specs.CutPlaces.declared.sight.Sight.{Sight}
use Rattle.explorer.specs.CutPlaces.Following.{Follows, IsWhole}
use Rattle.explorer.specs.CutPlaces.FilesState.{FilesState}
use Rattle.explorer.specs.CutPlaces.SeesFiles.{are_held}
use Rattle.explorer.specs.CutPlaces.Sights.{shows}
use Rattle.explorer.proofs.CutPlaces.MayShowLemmas.{shows_now}
use Rattle.explorer.specs.ValueTables.Looking.{IsOf}
use Rattle.outcome_walk.specs.declared.level.Choice.{Choice as Fitted}
use Rattle.outcome_walk.specs.Holding.{way_held}
use Rattle.outcome_walk.specs.Walking.{Way}
use Rattle.outcome_lists.specs.Asking.{asked}
use Rattle.outcome_lists.specs.Choices.{Choice, states}
use Rattle.outcome_lists.specs.Courses.{AreOf}
use Rattle.outcome_lists.specs.Levels.{fitted}
use Rattle.outcome_lists.specs.Outcomes.{Asked, and_seen, look_of, nothing}
use Rattle.outcome_lists.proofs.CourseLemmas.{grown_by}
use Rattle.outcome_lists.proofs.LookLemmas.{is_look}

-- a question of some parts asks of all that is looked at for them
pub whole_of : (all some : Sight) (geo : Geometry) (parts : List Read) (q : Question) → AreOf all geo parts (asked q) → IsOf some geo parts → some.files ≡ all.files
    → IsWhole some q
whole_of all some geo parts q are of files = record {
  lines = of.lines ∙ sym are.lines;
  blocks = of.blocks ∙ sym are.blocks;
  files = ap (λ (s : FilesState). are_held s.numbers (files_asked q)) files ∙ are.files;
}

-- a state that is looked at shows it
pub shown : (now : Sight) (geo : Geometry) (h : Machine) (q : Question) → Follows now geo h → IsWhole now q → (told : Bool) → told ≡ (may_be_replies geo q && shows q now)
    → told ≡ may_show (look_of (asked q)) h
shown now geo h q follows whole told is =
    is ∙ ap (λ sizes. may_be_replies sizes q && shows q now) (sym follows.sizes)
    ∙ sym (shows_now h (look_of (asked q)) q now (is_look q) follows.sees whole follows.ready.settled)

-- one state more, before a command
pub fits_next : (look : List Seen) (found grown all : List Bool) (told : Bool) (h : Machine) (command : Command) (lines : List (Option Command)) → grown ≡ found ++ told ∷ []
    → told ≡ may_show look h
    → found ++ map (may_show look) (states h (inputs_of_lines (Some command ∷ lines))) ≡ all
    → grown ++ map (may_show look) (states (led_to h (fate h (action_of command))) (inputs_of_lines lines)) ≡ all
fits_next look found grown all told h command lines more is were =
    grown_by found grown (may_show look h ∷ []) (map (may_show look) (states (led_to h (fate h (action_of command))) (inputs_of_lines lines))) all
    (more ∙ ap (λ b. found ++ b ∷ []) is) were

-- nothing is asked yet
pub asks_nothing : (q : Question) → q.volume.items ≡ [] → q.blocks.items ≡ [] → q.files.items ≡ [] → asked q ≡ nothing
asks_nothing q volume blocks files =
    ap (λ rs. record { volume = map page_read rs; blocks = map block_read q.blocks.items; files = map file_read q.files.items }) volume
    ∙ ap (λ rs. record { volume = []; blocks = map block_read rs; files = map file_read q.files.items }) blocks
    ∙ ap (λ rs. record { volume = []; blocks = []; files = map file_read rs }) files

-- a choice with the states that show it, as it is held
pub way_is : (hs : List Machine) (c : Choice) (a : Asked) (held : Fitted) → a ≡ and_seen nothing c.seen → held.text.items ≡ c.text
    → held.fits.items ≡ map (may_show (look_of a)) hs → way_held held ≡ fitted hs c
way_is hs c a held is text fits = ap₂ way text (fits ∙ ap (λ asks. map (may_show (look_of asks)) hs) is)
  where
    way : List ℕ → List Bool → Way
    way text fits = record { text = text; fits = fits }
