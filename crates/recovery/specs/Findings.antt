-- What keeps a device from being mounted, in the order in which it is found.
use Rattle.std.specs.Prelude.{◌*◌, ℕ, Option, Some, option_map, position, if◌then◌else◌}
use Rattle.std.specs.List.{range_with_len}
use Rattle.line_device.specs.Medium.{Medium, last_image}
use Rattle.word_tables.specs.declared.geometry.Geometry.{Geometry}
use Rattle.word_tables.specs.Layout.{meta_lines}
use Rattle.word_tables.specs.Superblock.{geometry_of, first_wrong_word}
use Rattle.nvm_model.specs.Blocks.{first_there}
use Rattle.word_log.specs.Mount.{Finding}
use Rattle.word_log.specs.Mount.Finding.{bad_line, wrong_word}
use Rattle.word_log.specs.Replay as log
use Rattle.block_device.specs.Area.{block_area}
use Rattle.block_device.specs.Mounting.{wrong_map}
use Rattle.pm_volume.specs.Area.{volume_area}
use Rattle.pm_volume.specs.Presence.{wrong_presence}
use Rattle.file_journal.specs.Area.{file_area}
use Rattle.file_journal.specs.Reading as files

-- the sizes that the first line tells, as last stored
abbrev pub geometry_told : Medium → Geometry
geometry_told m = geometry_of (last_image m)

-- the first line is bad, or else this is its lowest wrong word
abbrev pub superblock_finding : Medium → Option Finding
superblock_finding m = if m.is_bad 0 then Some (bad_line 0) else option_map wrong_word (first_wrong_word m.count (last_image m))

-- the lowest bad line of metadata, or else the first word of the lowest weak one
abbrev pub meta_finding : Geometry → Medium → Option Finding
meta_finding geo m =
    first_there (option_map bad_line (position m.is_bad (range_with_len 0 (meta_lines geo))))
    (option_map (λ n. wrong_word (8 * n)) (position m.is_weak (range_with_len 0 (meta_lines geo))))

-- what is found before any log is read
unfoldable pub early_finding : Medium → Option Finding
early_finding m = first_there (superblock_finding m) (meta_finding (geometry_told m) m)

-- the first wrong word of the logs
abbrev pub wrong_log : Geometry → (ℕ → ℕ) → Option ℕ
wrong_log geo word =
    first_there (log.first_wrong (block_area geo) word) (first_there (log.first_wrong (volume_area geo) word) (log.first_wrong (file_area geo) word))

-- the first wrong word of the tables that they keep, once they are replayed
abbrev pub wrong_table : Geometry → (ℕ → ℕ) → Option ℕ
wrong_table geo word = first_there (wrong_map geo word) (first_there (wrong_presence geo word) (files.wrong_table geo (files.words_read geo word)))

-- what is found before any log is replayed
unfoldable pub inspection_finding : Medium → Option Finding
inspection_finding m = first_there (early_finding m) (option_map wrong_word (wrong_log (geometry_told m) (last_image m)))

-- what is found first
unfoldable pub first_finding : Medium → Option Finding
first_finding m = first_there (inspection_finding m) (option_map wrong_word (wrong_table (geometry_told m) (last_image m)))
