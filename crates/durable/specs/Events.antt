-- How media errors of files are told: which lines go bad, and what becomes of the events that are to be told.
use Rattle.std.specs.Prelude.{◌≡◌, ◌≢◌, ◌⊎◌, ◌*◌, ◌&&◌, ℕ, Bool, true, false, List, [], ◌∷◌, ◌++◌, map}
use Rattle.std.specs.List.{All, Contains, flat_map, list_any}
use Rattle.std.specs.List.Sorted.{IsStrictlyIncreasing}
use Rattle.std.specs.Str.{bytes_eq}
use Rattle.line_device.specs.declared.line.Choice.{Choice}
use Rattle.nvm_model.specs.Cell.{touches}
use Rattle.nvm_model.specs.Mappings.{is_shared}
use Rattle.nvm_model.specs.Page.{cell_of, is_bad_cell}
use Rattle.nvm_model.specs.Storage.{Event, File, Mapping}
use Rattle.reply_text.specs.Answer.{Answer}
use Rattle.reply_text.specs.Answer.Answer.{Done, DoneBad, Bytes, Ranges, Files, Handle, Happened, NoEvent, BadLines, Attribute, VerifyFile, Yes, No, Scarred, PoisonBlock, PoisonVolume, PoisonFile, DeviceFailed, PowerLost, Stopped, Refused, RefusedMeta}
use Rattle.script_text.specs.Action.{Action}
use Rattle.script_text.specs.Action.Action.{Restart, Recover}
use Rattle.script_text.specs.Script.{Input}
use Rattle.script_text.specs.Script.Input.{Skipped, Malformed, Overlong, Asked}
use Rattle.machine_model.specs.Machine.{Machine}
use Rattle.machine_model.specs.OnPages.{pages_named}
use Rattle.durable.specs.Files.{IsStopped}

-- a mount was done, and found so many bad lines, or one of metadata
abbrev pub AreMounted : List Answer → Type 0
AreMounted answers = ((bad : ℕ) × (answers ≡ DoneBad bad ∷ [])) ⊎ ((line : ℕ) × (answers ≡ Stopped line ∷ []))

-- The command mounted the storage anew: a restart that was done, or stopped on the way, or a recovery that was done.
abbrev pub Mounts : Action → List Answer → Type 0
Mounts action answers =
    ((choice : Choice) × (action ≡ Restart choice) × (AreMounted answers ⊎ IsStopped answers)) ⊎ ((action ≡ Recover) × AreMounted answers)

-- none of these did, by what they were answered
abbrev pub NoneMounts : List Input → List Answer → Type 0
NoneMounts [] answers = Unit {0}
NoneMounts (Skipped ∷ inputs) answers = NoneMounts inputs answers
NoneMounts (Malformed ∷ inputs) [] = Unit {0}
NoneMounts (Malformed ∷ inputs) (answer ∷ answers) = NoneMounts inputs answers
NoneMounts (Overlong ∷ inputs) [] = Unit {0}
NoneMounts (Overlong ∷ inputs) (answer ∷ answers) = NoneMounts inputs answers
NoneMounts (Asked action ∷ inputs) [] = Unit {0}
NoneMounts (Asked action ∷ inputs) (answer ∷ answers) = (Mounts action (answer ∷ []) → ⊥) × NoneMounts inputs answers

-- the event that an answer tells, if it tells one
abbrev pub told_by : Answer → List Event
told_by Done = []
told_by (DoneBad n) = []
told_by (Bytes bytes) = []
told_by (Ranges ranges) = []
told_by (Files files) = []
told_by (Handle n) = []
told_by (Happened event) = event ∷ []
told_by NoEvent = []
told_by (BadLines lines) = []
told_by (Attribute value) = []
told_by Yes = []
told_by No = []
told_by (Scarred block) = []
told_by (PoisonBlock block line) = []
told_by (PoisonVolume offset) = []
told_by (PoisonFile name offset) = []
told_by (VerifyFile name offset) = []
told_by DeviceFailed = []
told_by PowerLost = []
told_by (Stopped line) = []
told_by (Refused why) = []
told_by (RefusedMeta line) = []

-- those that answers tell, one after another
abbrev pub all_told : List Answer → List Event
all_told answers = flat_map told_by answers

-- These numbers are those of which P holds, rising.
pub record AreAll (P : ℕ → Type 0) (numbers : List ℕ) : Type 0 where
  pub each : (n : ℕ) → Contains numbers n → P n
  pub all : (n : ℕ) → P n → Contains numbers n
  pub rising : IsStrictlyIncreasing numbers

-- the event of a line of a file: whether it is mapped, and whether it came since the last mount
abbrev pub line_told : List ℕ → Bool → Bool → ℕ → Event
line_told name mapped live n = record { file = name; offset = 64 * n; len = 64; mapped = mapped; live = live }

-- some shared mapping of the file has a byte of the line
abbrev pub is_line_mapped : List Mapping → List ℕ → ℕ → Bool
is_line_mapped mappings name n = list_any (λ (m : Mapping). is_shared m.kind && (bytes_eq m.name name && touches m.start m.len n)) mappings

-- the events of lines that go bad while the mappings are these
abbrev pub live_events : List Mapping → List ℕ → List ℕ → List Event
live_events mappings name lines = map (λ n. line_told name (is_line_mapped mappings name n) true n) lines

-- the line of the file of a name is bad
abbrev pub is_bad_in : Machine → List ℕ → ℕ → Bool
is_bad_in h name n = is_bad_cell (cell_of (pages_named name h.files) n)

-- it went bad
abbrev pub GoesBad : Machine → Machine → List ℕ → ℕ → Type 0
GoesBad h next name n = (is_bad_in h name n ≡ false) × (is_bad_in next name n ≡ true)

-- One event comes, behind those that there are, of each line of a file that goes bad, rising, and no other; one is told, the
-- oldest, or none.
pub record TellsLines (h : Machine) (answers : List Answer) (next : Machine) : Type 0 where
  pub name : List ℕ
  pub lines : List ℕ
  pub order : h.events ++ live_events h.mappings name lines ≡ all_told answers ++ next.events
  pub went : AreAll (GoesBad h next name) lines
  pub others : (other : List ℕ) (n : ℕ) → other ≢ name → GoesBad h next other n → ⊥

-- What is told, and then what is still to be told, is what was to be told and then what came, since the last mount.
pub record TellsInOrder (h : Machine) (answers : List Answer) (later : Machine) : Type 0 where
  pub came : List Event
  pub live : All (λ (event : Event). event.live ≡ true) came
  pub order : h.events ++ came ≡ all_told answers ++ later.events

-- the oldest event is told, and is to be told no more; or there is none
abbrev pub TellsOldest : List Event → List Answer → List Event → Type 0
TellsOldest [] answers left = (answers ≡ NoEvent ∷ []) × (left ≡ [])
TellsOldest (event ∷ events) answers left = (answers ≡ Happened event ∷ []) × (left ≡ events)

-- events of the bad lines of a file, rising, as a mount finds them
pub record AreOfFile (file : File) (events : List Event) : Type 0 where
  pub lines : List ℕ
  pub found : AreAll (λ n. is_bad_cell (cell_of file.pages n) ≡ true) lines
  pub told : events ≡ map (line_told file.name false false) lines

-- those of files, one file after another
abbrev pub AreOfFiles : List File → List Event → Type 0
AreOfFiles [] events = events ≡ []
AreOfFiles (file ∷ files) events = (first : List Event) × (rest : List Event) × AreOfFile file first × AreOfFiles files rest × (events ≡ first ++ rest)

-- the bad lines of its files are to be told, nothing is mapped, and handles are from 0 on
pub record FindsAnew (h : Machine) : Type 0 where
  pub events : AreOfFiles h.files h.events
  pub mappings : h.mappings ≡ []
  pub handles : h.next_handle ≡ 0
