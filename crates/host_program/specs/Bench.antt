-- A workload on a new device: its summary, and how it ends.
use Rattle.std.specs.Prelude.{◌≡◌, ◌⊎◌, ◌++◌, ℕ, Bool, true, false, List, [], ◌∷◌, codes, decimal, Result, MatchResult, if◌then◌else◌}
use Rattle.std.specs.Io.KnownBytes.{Appends}
use Rattle.line_device.specs.Device.{Device}
use Rattle.line_device.specs.Panel.{Image as DeviceImage, Panel}
use Rattle.word_tables.specs.declared.geometry.Geometry.{Geometry}
use Rattle.word_tables.specs.Layout.{total_lines}
use Rattle.recovery.specs.Fresh.{fresh_word}
use Rattle.reply_text.specs.Answer.{Answer, answer_text}
use Rattle.script_text.specs.Script.{Input, inputs_of, line_input}
use Rattle.script_text.specs.Script.Input.{Skipped, Malformed, Overlong, Asked}
use Rattle.machine_host.specs.Costs.{Opens}
use Rattle.machine_host.specs.Machine.{Machine}
use Rattle.machine_host.specs.Restarting.{reading}
use Rattle.machine_host.specs.Run.{Run, Transcript, followed_by}
use Rattle.machine_host.specs.Stands.{DeviceStands, HostServes, HostState, Stands}
use Rattle.machine_host.specs.Telling.{Tells}
use Rattle.workload.specs.Lines.{lines}
use Rattle.workload.specs.Summary.{added}
use Rattle.workload.specs.declared.summary.Summary.{Summary}
use Rattle.program_base.specs.Begins.{Begins}
use Rattle.program_base.specs.Ending.{numbered_line}
use Rattle.program_base.specs.Opening.{DeviceFailed, opening}
use Rattle.program_base.specs.Writing.{WritesFront}
use Rattle.host_program.specs.Whole.{IsRun, TellsFirst}
use Rattle.program_base.specs.World.{LeavesScript, World}
use Rattle.program_base.specs.declared.ending.Ending.{Ending}
use Rattle.program_base.specs.declared.ending.Ending.TheVariants.{Usage, Image, Layout, Meta, Read, Write, Memory, Script}
use Rattle.program_base.specs.declared.ending.Ending.TheVariants as endings

-- the sizes of its device
abbrev pub bench_sizes : Geometry
bench_sizes = record { blocks = 64; vpages = 8; fpages = 64 }

-- a new device: its superblock, and then zeros
abbrev pub new_image : Geometry → DeviceImage
new_image geo = record { count = total_lines geo; is_bad = λ _. false; is_weak = λ _. false; unit = 8; word = fresh_word geo }

-- the machine that is read there
abbrev pub new_machine : Geometry → Machine
new_machine geo = reading geo (new_image geo)

-- nothing is counted yet
abbrev pub nothing_counted : Summary
nothing_counted = record { commands = 0; oks = 0; reads = 0; cuts = 0; sum = 0 }

-- a line is answered
abbrev pub is_answered : Input → Bool
is_answered Skipped = false
is_answered Malformed = true
is_answered Overlong = true
is_answered (Asked action) = true

-- the summary after these lines, of which each that is answered has the next of these answers
abbrev pub summed : Summary → List (List ℕ) → List Answer → Summary
summed s [] answers = s
summed s (line ∷ lines) [] = s
summed s (line ∷ lines) (answer ∷ answers) =
    if is_answered (line_input line) then summed (added s line (answer_text answer)) lines answers else summed s lines (answer ∷ answers)

-- what is added for a line: its reply, which ends in a newline; where it has none, nothing
pub record AddsReply (line out : List ℕ) (old new : Summary) : Type 0 where
  pub reply : (text : List ℕ) → out ≡ text ++ 10 ∷ [] → new ≡ added old line text
  pub none : out ≡ [] → new ≡ old

-- a summary's line
abbrev pub summary_text : Summary → List ℕ
summary_text s =
    codes "bench commands " ++ decimal s.commands ++ codes " ok " ++ decimal s.oks ++ codes " data " ++ decimal s.reads ++ codes " cuts " ++ decimal s.cuts
    ++ numbered_line (codes " sum ") s.sum

-- A new device was mounted: host and device stand for the new machine.
pub record IsStarted (host : HostState) (old new : Device) : Type 0 where
  pub serves : HostServes host new
  pub tells : Tells opening old.panel new.panel
  pub begin : Machine
  pub begins : Begins (new_machine bench_sizes) old.panel begin
  pub stands : Stands host new begin

-- why none was
abbrev pub IsUnstarted : Ending → Panel → Panel → Type 0
IsUnstarted Memory old new = Unit {0}
IsUnstarted endings.Device old new = DeviceFailed old new
IsUnstarted Usage old new = ⊥
IsUnstarted (Image offset) old new = ⊥
IsUnstarted (Layout place) old new = ⊥
IsUnstarted (Meta line) old new = ⊥
IsUnstarted Read old new = ⊥
IsUnstarted Write old new = ⊥
IsUnstarted Script old new = ⊥

-- What was said over some first of these lines, from this state on: over all of them at Ok, and that is what the summary counts.
pub record Counts (first : Machine) (all : List (List ℕ)) {E : Type 0} (result : Result Summary E) (host : HostState) (old new : Device) : Type 0 where
  pub performed : List (List ℕ)
  pub others : List (List ℕ)
  pub said : Transcript
  pub end : Machine
  pub split : all ≡ performed ++ others
  pub run : Run first (inputs_of performed) said end
  pub outcome : MatchResult result
      (λ summary. (others ≡ []) × (summary ≡ summed nothing_counted performed said.answers) × Tells said old.panel new.panel × Stands host new end)
      (λ _. TellsFirst (λ count. count) said end old.panel new.panel)

-- A workload was performed up to some line: from each state that host and device stood for, it is a run.
pub record PerformsAll (host after : HostState) (all : List (List ℕ)) {E : Type 0} (result : Result Summary E) (old new : Device) : Type 0 where
  pub says : (first : Machine) → Stands host old first → Counts first all result after old new

-- neither images nor script are used
pub record LeavesAside (old new : World) : Type 0 where
  pub held : new.held ≡ old.held
  pub images : new.images ≡ old.images
  pub script : LeavesScript old new

-- `bench` is done: all lines of the workload were performed on a new device, and the summary of their replies was written.
pub record Benches (seed count : ℕ) (old new : World) : Type 0 where
  pub said : Transcript
  pub end : Machine
  pub run : IsRun (new_machine bench_sizes) old.device.panel (lines seed count) said end
  pub tells : Tells (followed_by opening said) old.device.panel new.device.panel
  pub stands : DeviceStands new.device end
  pub wrote : Appends old.written new.written (summary_text (summed nothing_counted (lines seed count) said.answers))
  pub aside : LeavesAside old new

-- The new device was not mounted: nothing was written.
pub record FailsToStart (ending : Ending) (old new : World) : Type 0 where
  pub cause : IsUnstarted ending old.device.panel new.device.panel
  pub opens : Opens old.device.panel new.device.panel
  pub written : new.written ≡ old.written
  pub aside : LeavesAside old new

-- `bench` came to no end after that: some first lines were performed, and only after the last one was anything written.
pub record BreaksOff (seed count : ℕ) (by : Type 0) (old new : World) : Type 0 where
  pub performed : List (List ℕ)
  pub others : List (List ℕ)
  pub said : Transcript
  pub end : Machine
  pub split : lines seed count ≡ performed ++ others
  pub run : IsRun (new_machine bench_sizes) old.device.panel performed said end
  pub cause : by
  pub tells : TellsFirst (λ count. count) (followed_by opening said) end old.device.panel new.device.panel
  pub wrote : (new.written ≡ old.written) ⊎ ((others ≡ []) × WritesFront (summary_text (summed nothing_counted performed said.answers)) old.written new.written)
  pub aside : LeavesAside old new
