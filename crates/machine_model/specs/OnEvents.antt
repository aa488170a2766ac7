-- Lines of files that go bad, as events: which lines make one, and the command that takes the oldest.
use Rattle.std.specs.Prelude.{◌*◌, ℕ, true, List, [], ◌∷◌, drop, map, if◌then◌else◌}
use Rattle.nvm_base.specs.declared.units.Span.{Span}
use Rattle.nvm_model.specs.Mappings.{is_shown}
use Rattle.nvm_model.specs.Page.{Page, cell_of, is_bad_cell}
use Rattle.nvm_model.specs.Storage.{Event, Mapping}
use Rattle.nvm_model.specs.Touched.{bad_touched, persist_spans}
use Rattle.reply_text.specs.Answer.{Answer}
use Rattle.reply_text.specs.Answer.Answer.{Happened, NoEvent}
use Rattle.machine_model.specs.Machine.Fate.{Gives}
use Rattle.machine_model.specs.Meaning.{Meaning, anywhere, quiet}
use Rattle.machine_model.specs.declared.needs.Needs.TheVariants.{Usable}

-- the bytes of line n
abbrev pub line_span : ℕ → Span
line_span n = record { start = 64 * n; len = 64 }

-- a line of a file went bad, and a shared mapping shows it, or none does
abbrev pub line_event : List Mapping → List ℕ → ℕ → Event
line_event mappings name n = record { file = name; offset = 64 * n; len = 64; mapped = is_shown name (line_span n) mappings; live = true }

abbrev pub events_of : List Mapping → List ℕ → List ℕ → List Event
events_of mappings name lines = map (line_event mappings name) lines

-- of the lines that are bad once spans are made durable, rising: they were weak before
abbrev pub lost_events : List Mapping → List ℕ → List Span → List Page → List Event
lost_events mappings name spans pages = events_of mappings name (bad_touched spans (persist_spans spans pages))

-- of a line that a media error takes; one that is bad already is none
abbrev pub taken_events : List Mapping → List ℕ → ℕ → List Page → List Event
taken_events mappings name n pages = if is_bad_cell (cell_of pages n) then [] else line_event mappings name n ∷ []

-- the oldest, if there is one
abbrev pub told_event : List Event → Answer
told_event [] = NoEvent
told_event (event ∷ events) = Happened event

abbrev pub next_event : Meaning
next_event = record (quiet Usable anywhere (λ h. Gives (told_event h.events) (record h { events = drop 1 h.events }))) { room = 128 }
