-- What is said of a flush of a file, with or without a second look, and of the lines that it lost.
use Rattle.std.specs.Prelude.{◌≡◌, ◌+◌, ◌++◌, ◌≤◌, ℕ, List, length, Option, Result, OnOk}
use Rattle.line_device.specs.Device.{Device}
use Rattle.line_device.specs.Medium.{Medium}
use Rattle.line_device.specs.Panel.{Runs}
use Rattle.line_words.specs.Told.{Answers, OnRefused, OnWorked, is_done, outcome_by}
use Rattle.nvm_base.specs.declared.units.Span.{Span}
use Rattle.nvm_model.specs.Files.{OneFileLeft, on_pages}
use Rattle.nvm_model.specs.Interrupted.{MaySyncAll}
use Rattle.nvm_model.specs.Listing.{change_file, file_name}
use Rattle.nvm_model.specs.Storage.{File}
use Rattle.nvm_model.specs.Touched.{bad_touched, next_bad_touched, persist_spans}
use Rattle.page_lines.specs.Turns.{WritesBackOthers}
use Rattle.file_journal.specs.Area.{IsOfFiles}
use Rattle.file_journal.specs.Standing.{EachReadsFiles, FilesStand}
use Rattle.file_pages.specs.Object.{IsFileAt, KeepsMarks, PagesServe, PagesState}
use Rattle.flush_engine.specs.declared.fault.FlushFault.{FlushFault}
use Rattle.flush_engine.specs.Refusals.{flush_refusal, flush_says, flushed, verified}
use Rattle.flush_engine.specs.Spans.{lines_in}
use Rattle.machine_host.specs.declared.held.HeldFiles.{HeldFiles}
use Rattle.machine_model.specs.declared.look.Look.{Look}
use Rattle.machine_model.specs.declared.look.Look.TheVariants.{Once, Again}
use Rattle.machine_model.specs.OnEvents.{events_of}

-- what a flush says of the lines that it lost: nothing, or the lowest
abbrev pub Looked : Look → Result (Unit {0}) FlushFault → Option ℕ → Type 0
Looked Once r lost = flushed r ≡ r
Looked Again r lost = OnOk (flushed r) (r ≡ verified lost)

-- all that is said of one; `pages` are those before it, and `p` after
pub record FlushSaid {D : Type 0} (state : D → Device) (pages p : PagesState) (r : Result (Unit {0}) FlushFault) (look : Look) (inode : ℕ) (spans : List Span) (before after : D) : Type 0 where
  pub refused : (files : List File) (file : File) → IsFileAt pages.journal (state before).medium inode files file → Answers flush_says (flush_refusal file.pages spans) (flushed r)
  pub untouched : OnRefused flush_says (flushed r) ((p ≡ pages) × (after ≡ before))
  pub ok : OnOk (flushed r) ((files : List File) (file : File) → IsFileAt pages.journal (state before).medium inode files file
      → FilesStand pages.journal.geo (state after).medium pages.journal.tables (change_file file_name file.name (on_pages (persist_spans spans)) files))
  pub looked : (files : List File) (file : File) → IsFileAt pages.journal (state before).medium inode files file → Looked look r (next_bad_touched spans (persist_spans spans file.pages) 0)
  pub images : OnWorked flush_says (flushed r) ((files : List File) (file : File) → IsFileAt pages.journal (state before).medium inode files file
      → EachReadsFiles pages.journal.geo (state after).medium (OneFileLeft file.name (MaySyncAll spans) files))
  pub outside : WritesBackOthers (IsOfFiles pages.journal.geo) (state before).medium (state after).medium
  pub marks : KeepsMarks pages.journal.geo (state before).medium (state after).medium
  pub serves : PagesServe p (state after).medium
  pub object : (p.journal ≡ pages.journal) × (p.settled ≡ is_done (outcome_by flush_says r))
  pub runs : Runs (lines_in pages.journal inode spans) (lines_in pages.journal inode spans) (outcome_by flush_says r) (state before).panel (state after).panel

-- There is room for an event of each line of a file that is bad and that spans touch.
pub record HoldsLost (f : HeldFiles) (m : Medium) (inode : ℕ) (spans : List Span) : Type 0 where
  pub files : List File
  pub file : File
  pub at : IsFileAt f.pages.journal m inode files file
  pub enough : length (bad_touched spans file.pages) ≤ f.events.spare

-- An event of each of them was added, in order of offset.
pub record LinesTold (name : List ℕ) (inode : ℕ) (spans : List Span) (m : Medium) (old new : HeldFiles) : Type 0 where
  pub events : (files : List File) (file : File) → IsFileAt old.pages.journal m inode files file
      → new.events.items ≡ old.events.items ++ events_of old.mappings.mappings name (bad_touched spans file.pages)
  pub spare : (files : List File) (file : File) → IsFileAt old.pages.journal m inode files file → new.events.spare + length (bad_touched spans file.pages) ≡ old.events.spare
  pub others : new ≡ record old { events = new.events }
