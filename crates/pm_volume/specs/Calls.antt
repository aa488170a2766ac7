-- What calls on the volume bring with them, and what each promises however it ends.
use Rattle.std.specs.Prelude.{◌≡◌, ℕ, Bool, true, false, IsTrue, List, OnErr, OnOk, Option, Result, length}
use Rattle.std.specs.Result.{is_ok}
use Rattle.nvm_base.specs.Units.{units_of}
use Rattle.nvm_base.specs.declared.units.Span.{Span}
use Rattle.line_device.specs.Device.{Device}
use Rattle.line_device.specs.Medium.{WritesBack}
use Rattle.line_device.specs.Panel.{Outcome, Runs}
use Rattle.line_words.specs.declared.interruption.Interruption.{Interruption}
use Rattle.line_words.specs.Ending.{ended}
use Rattle.line_words.specs.Told.{Answers, OnRefused, OnWorked, is_done, outcome_by}
use Rattle.line_words.specs.Words.{WritesBackOutside}
use Rattle.word_log.specs.Area.{IsOf}
use Rattle.word_log.specs.Changes.{commit_calls, commit_persists}
use Rattle.word_log.specs.Held.{EachReplays}
use Rattle.nvm_model.specs.Numbered.{AreMixed}
use Rattle.nvm_model.specs.Page.{Page, look}
use Rattle.page_lines.specs.Turns.{WritesBackOthers}
use Rattle.pm_volume.specs.declared.fault.VolumeFault.{VolumeFault}
use Rattle.pm_volume.specs.Area.{IsOfVolume, volume_area}
use Rattle.pm_volume.specs.Costs.{lines_there_at}
use Rattle.pm_volume.specs.Images.{EachReadsPages}
use Rattle.pm_volume.specs.Object.{KeepsMarks, VolumeHolds, VolumeServes, VolumeState, volume_place}
use Rattle.pm_volume.specs.Presence.{presence_words, switched}
use Rattle.pm_volume.specs.Refusals.{VolumeRefusal, volume_says}
use Rattle.pm_volume.specs.Synced.{IsPlacedAt, MaySyncAt, persist_at}

-- A volume that serves a device which is on. Nothing stopped its last call.
pub record IsReady (s : VolumeState) (d : Device) : Type 0 where
  pub serves : VolumeServes s d.medium
  pub settled : IsTrue s.settled
  pub on : IsTrue d.panel.power

-- the same inside a call
pub record IsServed (s : VolumeState) (d : Device) : Type 0 where
  pub serves : VolumeServes s d.medium
  pub on : IsTrue d.panel.power

-- the same inside a call that changes which pages exist: till it ends the volume is not settled, but its log is
pub record HasBegun (s : VolumeState) (d : Device) : Type 0 where
  pub serves : VolumeServes s d.medium
  pub quiet : IsTrue s.quiet
  pub unsettled : s.settled ≡ false
  pub on : IsTrue d.panel.power

-- A call that changes the pages to these.
pub record ChangesVolume {D T : Type 0} (state : D → Device) (s t : VolumeState) (before after : D) (result : Result T VolumeFault) (to : List Page → List Page) (may : List Page → List Page → Type 0) (calls persists : ℕ) : Type 0 where
  -- a refused call changes nothing
  pub untouched : OnRefused volume_says result ((t ≡ s) × (after ≡ before))
  pub ok : OnOk result ((pages : List Page) → VolumeHolds s (state before).medium pages → VolumeHolds t (state after).medium (to pages))
  -- what a cut may leave, then or at any time before
  pub images : OnWorked volume_says result ((pages : List Page) → VolumeHolds s (state before).medium pages → EachReadsPages s.geo (state after).medium (may pages))
  -- lines of other parts are only written back
  pub outside : WritesBackOthers (IsOfVolume s.geo) (state before).medium (state after).medium
  pub metadata : KeepsMarks s.geo (state before).medium (state after).medium
  pub serves : IsTrue t.settled → VolumeServes t (state after).medium
  pub object : (t.geo ≡ s.geo) × (t.settled ≡ is_done (outcome_by volume_says result))
  pub runs : Runs calls persists (outcome_by volume_says result) (state before).panel (state after).panel

-- A call that makes the lines of a span durable.
pub record SyncsVolume {D T : Type 0} (state : D → Device) (s t : VolumeState) (before after : D) (result : Result T VolumeFault) (why : List Page → Option VolumeRefusal) (start : Option ℕ) (len : ℕ) : Type 0 where
  pub refused : (pages : List Page) → VolumeHolds s (state before).medium pages → Answers volume_says (why pages) result
  pub untouched : OnRefused volume_says result (after ≡ before)
  pub ok : OnOk result ((pages : List Page) → VolumeHolds s (state before).medium pages → VolumeHolds t (state after).medium (persist_at start len pages))
  pub images : OnWorked volume_says result ((pages : List Page) → VolumeHolds s (state before).medium pages → EachReadsPages s.geo (state after).medium (MaySyncAt start len pages))
  pub outside : WritesBackOthers (IsOfVolume s.geo) (state before).medium (state after).medium
  -- lines that the span doesn't touch are only written back
  pub beside : WritesBackOthers (IsPlacedAt (volume_place s.geo s.present true) start len) (state before).medium (state after).medium
  pub metadata : KeepsMarks s.geo (state before).medium (state after).medium
  pub serves : VolumeServes t (state after).medium
  pub object : t ≡ record s { settled = is_done (outcome_by volume_says result) }
  pub runs : Runs (lines_there_at s.geo s.present start len) (lines_there_at s.geo s.present start len) (outcome_by volume_says result) (state before).panel (state after).panel

-- Bytes that are loaded into a buffer: what it had, and what it has.
pub record LoadsBytes {T E : Type 0} (s : VolumeState) (before after : Device) (result : Result T E) (end : Outcome) (offset : ℕ) (had has : List ℕ) : Type 0 where
  pub ok : OnOk result ((pages : List Page) → VolumeHolds s before.medium pages → has ≡ look pages offset (length had))
  -- a load that is stopped gives some of them
  pub err : OnErr result ((pages : List Page) → VolumeHolds s before.medium pages → AreMixed ℕ had (look pages offset (length had)) has)
  pub lines : WritesBack before.medium after.medium
  pub runs : Runs (units_of 64 (record { start = offset; len = length had })).len 0 end before.panel after.panel

-- Work on lines of pages that exist. The object stays as it is.
pub record WorksOnLines {T : Type 0} (s : VolumeState) (before after : Device) (result : Result T Interruption) (to : List Page → List Page) (may : List Page → List Page → Type 0) (calls persists : ℕ) : Type 0 where
  pub ok : OnOk result ((pages : List Page) → VolumeHolds s before.medium pages → VolumeHolds s after.medium (to pages))
  pub images : (pages : List Page) → VolumeHolds s before.medium pages → EachReadsPages s.geo after.medium (may pages)
  pub outside : WritesBackOthers (IsOfVolume s.geo) before.medium after.medium
  pub metadata : KeepsMarks s.geo before.medium after.medium
  pub serves : VolumeServes s after.medium
  pub runs : Runs calls persists (ended result) before.panel after.panel

-- Work that changes which pages exist.
pub record Works {T : Type 0} (s t : VolumeState) (before after : Device) (result : Result T Interruption) (to : List Page → List Page) (may : List Page → List Page → Type 0) (calls persists : ℕ) : Type 0 where
  pub ok : OnOk result ((pages : List Page) → VolumeHolds s before.medium pages → VolumeHolds t after.medium (to pages))
  pub images : (pages : List Page) → VolumeHolds s before.medium pages → EachReadsPages s.geo after.medium (may pages)
  pub outside : WritesBackOthers (IsOfVolume s.geo) before.medium after.medium
  pub metadata : KeepsMarks s.geo before.medium after.medium
  pub serves : OnOk result (VolumeServes t after.medium)
  pub object : (t.geo ≡ s.geo) × (t.settled ≡ s.settled) × (OnOk result (IsTrue t.quiet))
  pub runs : Runs calls persists (ended result) before.panel after.panel

-- Words of pages that become there or absent, together.
pub record Switches {T : Type 0} (s t : VolumeState) (before after : Device) (result : Result T Interruption) (pages : Span) (there : Bool) : Type 0 where
  pub ok : OnOk result (t.present ≡ switched pages.start pages.len there s.present)
  pub images : EachReplays (volume_area s.geo) after.medium (presence_words s.geo s.present) (presence_words s.geo (switched pages.start pages.len there s.present))
  pub outside : WritesBackOutside (IsOf (volume_area s.geo)) before.medium after.medium
  pub serves : OnOk result (VolumeServes t after.medium)
  pub object : (t.geo ≡ s.geo) × (t.settled ≡ s.settled) × (t.quiet ≡ is_ok result)
  pub runs : Runs (commit_calls pages.len) (commit_persists pages.len) (ended result) before.panel after.panel
