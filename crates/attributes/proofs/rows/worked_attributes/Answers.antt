-- The definitions compute.
use Rattle.std.proofs.Common.{refl}
use Rattle.attributes.specs.Attributes.{attribute}
use Rattle.attributes.proofs.rows.worked_attributes.Goals as goal

pub returns : goal.returns
unfolding attribute
returns c = record {
  block_size = refl;
  block_count = refl;
  block_write_atomicity = refl;
  block_atomic_blocks = refl;
  block_atomic_ranges = refl;
  block_discard_zeros = refl;
  volume_size = refl;
  volume_ranges = refl;
  volume_sync_unit = refl;
  file_pages = refl;
  file_max_pages = refl;
  file_max_files = refl;
  file_atomic_pages = refl;
  file_atomic_ranges = refl;
  pm_store_atomicity = refl;
  pm_interrupted_store_atomicity = refl;
  pm_store_atomicity_of_bytes = refl;
  pm_interrupted_store_atomicity_of_bytes = refl;
  pm_error_range = refl;
  pm_error_offset = refl;
  pm_flush_ranges = refl;
  pm_domains = refl;
  no_name = refl;
  name_cut_short = refl;
  longer_name = refl;
  upper_case = refl;
  mode_alone = refl;
  another_modes_word = refl;
}
