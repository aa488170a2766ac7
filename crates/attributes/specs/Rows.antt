-- Worked attributes, of a small medium.
use Rattle.std.specs.Prelude.{◌≡◌, [], Some, None, codes}
use Rattle.word_tables.specs.declared.geometry.Geometry.{Geometry}
use Rattle.attributes.specs.Attributes.{attribute}

-- a medium of 64 blocks, 4 volume pages and 64 physical file pages
abbrev pub small : Geometry
small = record { blocks = 64; vpages = 4; fpages = 64 }

pub record AttributeRows : Type 0 where
  pub block_size : attribute (codes "block.size") small 8 ≡ Some 512
  pub block_count : attribute (codes "block.count") small 8 ≡ Some 64
  pub block_write_atomicity : attribute (codes "block.write_atomicity") small 8 ≡ Some 512
  pub block_atomic_blocks : attribute (codes "block.atomic_blocks") small 8 ≡ Some 64
  pub block_atomic_ranges : attribute (codes "block.atomic_ranges") small 8 ≡ Some 8
  pub block_discard_zeros : attribute (codes "block.discard_zeros") small 8 ≡ Some 1
  pub volume_size : attribute (codes "volume.size") small 8 ≡ Some 16384
  pub volume_ranges : attribute (codes "volume.ranges") small 8 ≡ Some 2
  pub volume_sync_unit : attribute (codes "volume.sync_unit") small 8 ≡ Some 64
  pub file_pages : attribute (codes "file.pages") small 8 ≡ Some 48
  pub file_max_pages : attribute (codes "file.max_pages") small 8 ≡ Some 256
  pub file_max_files : attribute (codes "file.max_files") small 8 ≡ Some 64
  pub file_atomic_pages : attribute (codes "file.atomic_pages") small 8 ≡ Some 16
  pub file_atomic_ranges : attribute (codes "file.atomic_ranges") small 8 ≡ Some 8
  pub pm_store_atomicity : attribute (codes "pm.store_atomicity") small 8 ≡ Some 8
  pub pm_interrupted_store_atomicity : attribute (codes "pm.interrupted_store_atomicity") small 8 ≡ Some 1
  pub pm_store_atomicity_of_bytes : attribute (codes "pm.store_atomicity") small 1 ≡ Some 1
  pub pm_interrupted_store_atomicity_of_bytes : attribute (codes "pm.interrupted_store_atomicity") small 1 ≡ Some 0
  pub pm_error_range : attribute (codes "pm.error_range") small 8 ≡ Some 64
  pub pm_error_offset : attribute (codes "pm.error_offset") small 8 ≡ Some 0
  pub pm_flush_ranges : attribute (codes "pm.flush_ranges") small 8 ≡ Some 8
  pub pm_domains : attribute (codes "pm.domains") small 8 ≡ Some 1
  pub no_name : attribute [] small 8 ≡ None
  pub name_cut_short : attribute (codes "block.siz") small 8 ≡ None
  pub longer_name : attribute (codes "block.sizes") small 8 ≡ None
  pub upper_case : attribute (codes "Block.size") small 8 ≡ None
  pub mode_alone : attribute (codes "block") small 8 ≡ None
  pub another_modes_word : attribute (codes "volume.count") small 8 ≡ None
