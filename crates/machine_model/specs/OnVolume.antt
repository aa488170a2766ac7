-- The commands on the volume.
use Rattle.std.specs.Prelude.{◌+◌, ◌*◌, ℕ, Bool, true, false, List, Option, Some, None, length, nat_lt, slice_index_or, option_map, option_and_then, if◌then◌else◌}
use Rattle.word_tables.specs.declared.geometry.Geometry.{Geometry}
use Rattle.word_log.specs.Changes.{commit_calls, commit_persists}
use Rattle.nvm_model.specs.Page.{Page, discard, fill, first_bad_line, first_uncovered_line, look, persist, presence_of, put, touches_absent}
use Rattle.pm_volume.specs.Area.{volume_ranges}
use Rattle.pm_volume.specs.Costs.{lines_there, lines_there_at, lines_touched, store_calls, store_persists}
pub use Rattle.pm_volume.specs.Synced.{persist_at}
use Rattle.pm_volume.specs.Refusals.{VolumeRefusal, address_refusal, bytes_refusal, extent_refusal, physical_offset, poisoned_at}
use Rattle.pm_volume.specs.Refusals.VolumeRefusal.{Range, Length, Address, Meta, Poison}
use Rattle.reply_text.specs.declared.reply.Why.{Why}
use Rattle.reply_text.specs.declared.reply.Why.TheVariants as because
use Rattle.reply_text.specs.Answer.{Answer}
use Rattle.reply_text.specs.Answer.Answer.{Done, Bytes, Ranges, Yes, No, PoisonVolume, Refused, RefusedMeta}
use Rattle.machine_model.specs.Costs.{lines_persisted}
use Rattle.machine_model.specs.Machine.Fate.{Gives, Works}
use Rattle.machine_model.specs.Meaning.{Meaning, VolumeLeft, anywhere, most_refusal, no_reasons, placed, quiet}
use Rattle.machine_model.specs.declared.needs.Needs.TheVariants.{Usable}
use Rattle.machine_model.specs.Meaning.VolumeLeft.{PartStored, PartSynced, AllOrNone, PageByPage}

-- how a refusal by the volume is answered
abbrev pub volume_answer : VolumeRefusal → Answer
volume_answer Range = Refused because.Range
volume_answer Length = Refused because.Length
volume_answer Address = Refused because.Address
volume_answer (Meta line) = RefusedMeta line
volume_answer (Poison offset) = PoisonVolume offset

abbrev pub vload : ℕ → ℕ → Meaning
vload offset len =
    let past : Geometry → Option Why = λ geo. most_refusal 65536 (4096 * geo.vpages) offset len in
    record (quiet Usable past (λ h. Works (Bytes (look h.volume offset len)) h)) {
      reasons = λ h. record (placed past h) { unreadable = option_map volume_answer (poisoned_at (first_bad_line h.volume offset len)) };
      spends = λ h. record { calls = lines_touched offset len; persists = 0 };
      room = 72 + 3 * len;
    }

-- a change of the volume, as the sizes have it
abbrev pub changing_volume : (Geometry → List Page → List Page) → (Geometry → VolumeLeft) → Meaning
changing_volume to left = record (quiet Usable anywhere (λ h. Works Done (record h { volume = to h.geometry h.volume }))) {
  volume = to;
  volume_left = left;
}

-- where no page that it touches is absent, it changes no metadata
abbrev pub vstore : ℕ → List ℕ → Meaning
vstore offset bytes = record (changing_volume (λ geo pages. put offset bytes (fill offset (length bytes) pages)) (λ geo. PartStored offset bytes)) {
  reasons = λ h. record no_reasons {
    places = option_map volume_answer (bytes_refusal h.geometry offset (length bytes));
    changes_metadata = touches_absent offset (length bytes) (presence_of h.volume);
    unreadable = option_map volume_answer (poisoned_at (first_uncovered_line h.volume offset (length bytes)));
  };
  spends = λ h. record {
    calls = store_calls (presence_of h.volume) offset (length bytes);
    persists = store_persists (presence_of h.volume) offset (length bytes);
  };
}

abbrev pub vsync : ℕ → ℕ → Meaning
vsync offset len = record (changing_volume (λ geo. persist offset len) (λ geo. PartSynced offset len)) {
  reasons = λ h. record no_reasons {
    places = option_map volume_answer (bytes_refusal h.geometry offset len);
    unreadable = option_map volume_answer (poisoned_at (first_bad_line h.volume offset len));
  };
  spends = λ h. lines_persisted (lines_there h.geometry (presence_of h.volume) offset len);
}

-- what an interruption leaves of a sync of a span, which may have no place in the volume
abbrev pub part_synced_at : Option ℕ → ℕ → VolumeLeft
part_synced_at None len = PartSynced 0 0
part_synced_at (Some offset) len = PartSynced offset len

-- the same by physical addresses
abbrev pub vpsync : ℕ → ℕ → Meaning
vpsync address len =
    record (changing_volume (λ geo. persist_at (physical_offset geo address len) len) (λ geo. part_synced_at (physical_offset geo address len) len)) {
      reasons = λ h. record no_reasons {
        places = option_map volume_answer (address_refusal h.geometry address len);
        unreadable = option_and_then (λ offset. option_map volume_answer (poisoned_at (first_bad_line h.volume offset len))) (physical_offset h.geometry address len);
      };
      spends = λ h. lines_persisted (lines_there_at h.geometry (presence_of h.volume) (physical_offset h.geometry address len) len);
    }

-- pages that become absent
abbrev pub changing_pages : ℕ → ℕ → VolumeLeft → ℕ → ℕ → Meaning
changing_pages page count left calls persists = record (changing_volume (λ geo. discard page count) (λ geo. left)) {
  reasons = λ h. record no_reasons { places = option_map volume_answer (extent_refusal h.geometry.vpages page count); changes_metadata = true };
  spends = λ h. record { calls = calls; persists = persists };
}

-- by one commit, or by one for each page
abbrev pub vdiscard : ℕ → ℕ → Meaning
vdiscard page count = changing_pages page count AllOrNone (commit_calls count) (commit_persists count)

abbrev pub vdiscardif : ℕ → ℕ → Meaning
vdiscardif page count = changing_pages page count PageByPage (11 * count) (5 * count)

-- whether a page is there
abbrev pub yes_or_no : Bool → Answer
yes_or_no there = if there then Yes else No

abbrev pub vexists : ℕ → Meaning
vexists page = record (quiet Usable anywhere (λ h. Gives (yes_or_no (slice_index_or (presence_of h.volume) page false)) h)) {
  reasons = λ h. record no_reasons { places = if nat_lt page h.geometry.vpages then None else Some (Refused because.Range) };
}

-- where the volume lies
abbrev pub vranges : Meaning
vranges = record (quiet Usable anywhere (λ h. Gives (Ranges (volume_ranges h.geometry)) h)) {
  wants_memory = true;
  room = 133;
}
