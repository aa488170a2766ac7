-- A media error leaves what its record says: where its place has no line, where the line was changed, and where memory ran out.
use Rattle.std.proofs.Common.{◌≡◌, ℕ, ◌/◌, ◌<◌, true, Option, Some, None, Result, Ok, Err, OnOk, List, refl, ap, ◌∙◌}
use Rattle.std.specs.Result.{IsErrAnd}
use Rattle.nvm_base.specs.declared.units.LineNo.{LineNo}
use Rattle.line_device.specs.Device.{Device}
use Rattle.line_device.specs.Medium.{Medium}
use Rattle.line_words.specs.Told.{Told, Answers, Checks, OnRefused, refusal_of}
use Rattle.line_words.specs.Told.Told.{Starves}
use Rattle.word_tables.specs.Bounds.{IsValid}
use Rattle.nvm_model.specs.Cell.{Cell}
use Rattle.nvm_model.specs.Page.{Page}
use Rattle.nvm_model.specs.Storage.{File}
use Rattle.file_journal.specs.Tables.{AreTables}
use Rattle.file_pages.specs.Object.{IsFileAt, PagesServe, PagesState, file_place}
use Rattle.marked_lines.specs.Refusals.{ScrubRefusal, file_refusal, place_refusal}
use Rattle.pm_volume.specs.Object.{VolumeHolds, VolumeServes, VolumeState, volume_place}
use Rattle.scrub.specs.declared.fault.PlaceFault.{PlaceFault}
use Rattle.scrub.specs.Calls.{MarksFile, MarksVolume}
use Rattle.scrub.specs.Others.{WritesBackBut}
use Rattle.scrub.specs.Refusals.{place_says}
use Rattle.scrub.proofs.ChangedLemmas.{holds-changed, volume-outside, volume-serves}
use Rattle.scrub.proofs.FileChangedLemmas.{file-marks, file-outside, file-serves, files-changed_at}
use Rattle.scrub.proofs.LineLemmas.{ChangesLine}
use Rattle.scrub.proofs.OthersLemmas.{but-refl}

-- what a call says of its place, as the search for it said
module _ {E : Type 0} (says : E → Told ScrubRefusal) (why : Option ScrubRefusal) where
  refused_as : (e : E) (fault : PlaceFault) → Checks {T = LineNo} place_says why (Err fault) → says e ≡ place_says fault → Answers {T = Unit {0}} says why (Err e)
  refused_as e fault told is = by_reason why told
    where
      by_reason : (o : Option ScrubRefusal) → Checks {T = LineNo} place_says o (Err fault) → Answers {T = Unit {0}} says o (Err e)
      by_reason None told = absurd told
      by_reason (Some w) told = ap refusal_of is ∙ told

-- a fault that is handed on says what it said
pub says_same : {E : Type 0} (says : E → Told ScrubRefusal) (fault : E) (r : Result (Unit {0}) E) → IsErrAnd r (λ e. e ≡ fault) → IsErrAnd r (λ e. says e ≡ says fault)
says_same says fault (Ok x) is = absurd is
says_same says fault (Err e) is = ap says is

-- how a call ended that changed its line, or had no memory for it
abbrev pub Marked : {E : Type 0} → (E → Told ScrubRefusal) → (Cell → Cell) → ℕ → Medium → Medium → Result (Unit {0}) E → Type 0
Marked says f line old new (Ok x) = ChangesLine f line old new
Marked says f line old new (Err e) = refusal_of (says e) ≡ None

module _ {E : Type 0} (says : E → Told ScrubRefusal) (f : Cell → Cell) (line : ℕ) (old new : Medium) where
  pub starved : (r : Result (Unit {0}) E) → IsErrAnd r (λ e. says e ≡ Starves) → Marked says f line old new r
  starved (Ok x) is = absurd is
  starved (Err e) is = ap refusal_of is

  not_refused : (why : Option ScrubRefusal) (found : LineNo) (r : Result (Unit {0}) E) → Checks place_says why (Ok found) → Marked says f line old new r → Answers says why r
  not_refused None found (Ok x) told marked = tt
  not_refused None found (Err e) told marked = marked
  not_refused (Some w) found r told marked = absurd told

  not_untouched : (P : Type 0) (r : Result (Unit {0}) E) → Marked says f line old new r → OnRefused says r P
  not_untouched P (Ok x) marked = tt
  not_untouched P (Err e) marked = λ refused. absurd (refused marked)

  where_changed : (P : Type 0) → (ChangesLine f line old new → P) → (r : Result (Unit {0}) E) → Marked says f line old new r → OnOk r P
  where_changed P then_ (Ok x) marked = then_ marked
  where_changed P then_ (Err e) marked = tt

module _ {D E : Type 0} (state : D → Device) (s : VolumeState) (before : D) (says : E → Told ScrubRefusal) (f : Cell → Cell) (offset : ℕ) (serves : VolumeServes s (state before).medium) where
  pub unmarked_volume : (fault : PlaceFault) → ((m : Medium) (pages : List Page) → VolumeHolds s m pages → Checks {T = LineNo} place_says (place_refusal s.geo pages offset) (Err fault))
      → (r : Result (Unit {0}) E) → IsErrAnd r (λ e. says e ≡ place_says fault) → MarksVolume state s before before r says f offset
  unmarked_volume fault refused (Ok x) is = absurd is
  unmarked_volume fault refused (Err e) is = record {
    refused = λ pages holds. refused_as says (place_refusal s.geo pages offset) e fault (refused (state before).medium pages holds) is;
    untouched = λ _. refl;
    ok = tt;
    outside = but-refl _ _;
    serves = serves;
    panel = refl;
  }

  pub marked_volume : (found : LineNo) → ((m : Medium) (pages : List Page) → VolumeHolds s m pages → Checks place_says (place_refusal s.geo pages offset) (Ok found))
      → volume_place s.geo s.present true (offset / 64) ≡ Some found.0 → (after : D) → WritesBackBut (λ l. l ≡ found.0) (state before).medium (state after).medium → (state after).panel ≡ (state before).panel
      → (r : Result (Unit {0}) E) → Marked says f found.0 (state before).medium (state after).medium r → MarksVolume state s before after r says f offset
  marked_volume found refused at after others panel r marked =
      let old = (state before).medium in
      let new = (state after).medium in
      record {
        refused = λ pages holds. not_refused says f found.0 old new (place_refusal s.geo pages offset) found r (refused old pages holds) marked;
        untouched = not_untouched says f found.0 old new (after ≡ before) r marked;
        ok = where_changed says f found.0 old new _ (λ x. holds-changed s old new (offset / 64) found.0 serves at f x) r marked;
        outside = volume-outside s old new (offset / 64) found.0 serves at others;
        serves = volume-serves s old new (offset / 64) found.0 serves at others;
        panel = panel;
      }

module _ {D E : Type 0} (state : D → Device) (s : PagesState) (before : D) (says : E → Told ScrubRefusal) (f : Cell → Cell) (inode offset : ℕ) (low : inode < 64) (serves : PagesServe s (state before).medium) where
  pub unmarked_file : (fault : PlaceFault) → ((m : Medium) (all : List File) (file : File) → IsFileAt s.journal m inode all file → Checks {T = LineNo} place_says (file_refusal file.pages offset) (Err fault))
      → (r : Result (Unit {0}) E) → IsErrAnd r (λ e. says e ≡ place_says fault) → MarksFile state s before before r says f inode offset
  unmarked_file fault refused (Ok x) is = absurd is
  unmarked_file fault refused (Err e) is = record {
    refused = λ all file at. refused_as says (file_refusal file.pages offset) e fault (refused (state before).medium all file at) is;
    untouched = λ _. refl;
    ok = tt;
    outside = but-refl _ _;
    metadata = λ _ _. refl;
    serves = serves;
    panel = refl;
  }

  pub marked_file : (found : LineNo) → ((m : Medium) (all : List File) (file : File) → IsFileAt s.journal m inode all file → Checks place_says (file_refusal file.pages offset) (Ok found))
      → file_place s.journal inode (offset / 64) ≡ Some found.0 → IsValid s.journal.geo → AreTables s.journal.geo.fpages s.journal.tables
      → (after : D) → WritesBackBut (λ l. l ≡ found.0) (state before).medium (state after).medium → (state after).panel ≡ (state before).panel
      → (r : Result (Unit {0}) E) → Marked says f found.0 (state before).medium (state after).medium r → MarksFile state s before after r says f inode offset
  marked_file found refused at valid are after others panel r marked =
      let old = (state before).medium in
      let new = (state after).medium in
      record {
        refused = λ all file is. not_refused says f found.0 old new (file_refusal file.pages offset) found r (refused old all file is) marked;
        untouched = not_untouched says f found.0 old new (after ≡ before) r marked;
        ok = where_changed says f found.0 old new _ (λ x. files-changed_at s.journal old new inode (offset / 64) found.0 valid are low serves at f x) r marked;
        outside = file-outside s.journal old new inode (offset / 64) found.0 valid are low serves at others;
        metadata = file-marks s.journal old new inode (offset / 64) found.0 valid are low serves at others;
        serves = file-serves s.journal old new inode (offset / 64) found.0 valid are low serves at others;
        panel = panel;
      }
