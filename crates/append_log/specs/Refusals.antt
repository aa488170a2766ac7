-- When calls are refused, and why.
use Rattle.std.specs.Prelude.{◌+◌, ◌*◌, ◌==◌, ℕ, Bool, true, false, List, nat_lt, not, is_none, Option, Some, None, option_map, if◌then◌else◌}
use Rattle.line_device.specs.Medium.{Medium}
use Rattle.line_words.specs.Told.{Told}
use Rattle.line_words.specs.Told.Told.{Refuses, Stops, Starves}
use Rattle.nvm_model.specs.Blocks.{first_there}
use Rattle.nvm_model.specs.Cell.{Cell}
use Rattle.nvm_model.specs.Cell.Cell.{Bad, Kept}
use Rattle.nvm_model.specs.Page.{Page, cell_of, is_bad_cell, touches_absent}
use Rattle.pm_volume.specs.Object.{VolumeState}
use Rattle.pm_volume.specs.Refusals.{VolumeRefusal, volume_says, metadata_refusal_if, refused_if}
use Rattle.pm_volume.specs.Refusals.VolumeRefusal.{Poison}
use Rattle.append_log.specs.declared.fault.LogFault.{LogFault}
use Rattle.append_log.specs.declared.fault.LogFault.TheVariants as fault
use Rattle.append_log.specs.Lines.{entry_in, log_of}
use Rattle.append_log.specs.Log.{LogState}

-- why a call is refused; of a line its offset is told
pub data LogRefusal : Type 0 where
  TooLong : LogRefusal
  Full : LogRefusal
  NoRecord : LogRefusal
  Wrong : ℕ → LogRefusal
  Weak : ℕ → LogRefusal
  OfVolume : VolumeRefusal → LogRefusal

-- what a fault of the volume tells, and what one of the log does
abbrev pub passed_on : Told VolumeRefusal → Told LogRefusal
passed_on (Refuses why) = Refuses (OfVolume why)
passed_on (Stops stop) = Stops stop
passed_on Starves = Starves

abbrev pub log_says : LogFault → Told LogRefusal
log_says fault.TooLong = Refuses TooLong
log_says fault.Full = Refuses Full
log_says fault.NoRecord = Refuses NoRecord
log_says (fault.Wrong offset) = Refuses (Wrong offset)
log_says (fault.Weak offset) = Refuses (Weak offset)
log_says (fault.Volume inner) = passed_on (volume_says inner)

-- one refusal where a condition holds
abbrev pub refused_when : Bool → LogRefusal → Option LogRefusal
refused_when holds why = if holds then Some why else None

-- a bad line has no data
abbrev pub load_refusal : ℕ → Option Cell → Option VolumeRefusal
load_refusal n line = refused_if (is_bad_cell line) (Poison (64 * n))

-- a line that is bad, or would be after its next sync
abbrev pub mark_refusal : ℕ → Option Cell → Option LogRefusal
mark_refusal n None = None
mark_refusal n (Some Bad) = Some (OfVolume (Poison (64 * n)))
mark_refusal n (Some (Kept true words)) = Some (Weak (64 * n))
mark_refusal n (Some (Kept false words)) = None

abbrev pub open_refusal : List Page → Option LogRefusal
open_refusal pages =
    first_there (option_map OfVolume (load_refusal 0 (cell_of pages 0))) (refused_when (is_none (log_of pages)) (Wrong 0))

abbrev pub get_refusal : LogState → List Page → ℕ → Option LogRefusal
get_refusal s pages i =
    first_there (refused_when (not (nat_lt i s.len)) NoRecord)
    (first_there (option_map OfVolume (load_refusal (i + 1) (cell_of pages (i + 1))))
    (refused_when (is_none (entry_in (cell_of pages (i + 1)))) (Wrong (64 * (i + 1)))))

-- the metadata changes where the page of the line is absent
abbrev pub write_refusal : VolumeState → Medium → ℕ → Option VolumeRefusal
write_refusal s m n = metadata_refusal_if (touches_absent (64 * n) 64 s.present) s.geo m

-- an append: the record, the room, and the marks of line 0 and of the record's line; and then the volume
abbrev pub check_refusal : LogState → List Page → ℕ → Option LogRefusal
check_refusal s pages len =
    first_there (refused_when (nat_lt 48 len) TooLong)
    (first_there (refused_when (s.len + 1 == 64 * s.volume.geo.vpages) Full)
    (first_there (mark_refusal 0 (cell_of pages 0)) (mark_refusal (s.len + 1) (cell_of pages (s.len + 1)))))

abbrev pub append_refusal : LogState → Medium → List Page → ℕ → Option LogRefusal
append_refusal s m pages len = first_there (check_refusal s pages len) (option_map OfVolume (write_refusal s.volume m (s.len + 1)))
