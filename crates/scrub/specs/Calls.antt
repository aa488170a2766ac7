-- What a media error leaves of the volume and of files.
use Rattle.std.specs.Prelude.{◌≡◌, ◌/◌, ℕ, List, OnOk, Result}
use Rattle.line_device.specs.Device.{Device}
use Rattle.line_words.specs.Told.{Told, Answers, OnRefused}
use Rattle.word_tables.specs.Layout.{volume_line}
use Rattle.nvm_model.specs.Cell.{Cell}
use Rattle.nvm_model.specs.Files.{on_pages}
use Rattle.nvm_model.specs.Listing.{change_file, file_name}
use Rattle.nvm_model.specs.Page.{Page, change_line}
use Rattle.nvm_model.specs.Storage.{File}
use Rattle.file_journal.specs.Standing.{FilesStand}
use Rattle.file_pages.specs.Object.{IsFileAt, KeepsMarks, PagesServe, PagesState}
use Rattle.marked_lines.specs.Refusals.{ScrubRefusal, file_refusal, place_refusal}
use Rattle.pm_volume.specs.Object.{VolumeHolds, VolumeServes, VolumeState}
use Rattle.scrub.specs.Lines.{IsFileLine}
use Rattle.scrub.specs.Others.{WritesBackBut}

-- A media error, as f says it of a line, at a byte of the volume: by no counted call, and the marks of other lines stay.
pub record MarksVolume {D E : Type 0} (state : D → Device) (s : VolumeState) (before after : D) (result : Result (Unit {0}) E) (says : E → Told ScrubRefusal) (f : Cell → Cell) (offset : ℕ) : Type 0 where
  pub refused : (pages : List Page) → VolumeHolds s (state before).medium pages → Answers says (place_refusal s.geo pages offset) result
  pub untouched : OnRefused says result (after ≡ before)
  pub ok : OnOk result ((pages : List Page) → VolumeHolds s (state before).medium pages → VolumeHolds s (state after).medium (change_line f (offset / 64) pages))
  pub outside : WritesBackBut (λ line. line ≡ volume_line s.geo (offset / 64)) (state before).medium (state after).medium
  pub serves : VolumeServes s (state after).medium
  pub panel : (state after).panel ≡ (state before).panel

-- The same at a byte of the file of an inode. Other files stay, and so do the marks of metadata.
pub record MarksFile {D E : Type 0} (state : D → Device) (s : PagesState) (before after : D) (result : Result (Unit {0}) E) (says : E → Told ScrubRefusal) (f : Cell → Cell) (inode offset : ℕ) : Type 0 where
  pub refused : (all : List File) (file : File) → IsFileAt s.journal (state before).medium inode all file → Answers says (file_refusal file.pages offset) result
  pub untouched : OnRefused says result (after ≡ before)
  pub ok : OnOk result ((all : List File) (file : File) → IsFileAt s.journal (state before).medium inode all file
      → FilesStand s.journal.geo (state after).medium s.journal.tables (change_file file_name file.name (on_pages (λ pages. change_line f (offset / 64) pages)) all))
  pub outside : WritesBackBut (IsFileLine s.journal inode (offset / 64)) (state before).medium (state after).medium
  pub metadata : KeepsMarks s.journal.geo (state before).medium (state after).medium
  pub serves : PagesServe s (state after).medium
  pub panel : (state after).panel ≡ (state before).panel
