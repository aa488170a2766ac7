-- What a host asks of the lines of a device, and which of those of metadata are bad.
use Rattle.std.specs.Prelude.{◌≡◌, ℕ, List}
use Rattle.line_device.specs.Medium.{Medium}
use Rattle.word_tables.specs.declared.geometry.Geometry.{Geometry}
use Rattle.word_tables.specs.Bounds.{IsValid}
use Rattle.word_tables.specs.Layout.{total_lines}
use Rattle.block_device.specs.Object.{HasStrongMetadata}
use Rattle.recovery.specs.Fresh.{HasSuperblock}
pub use Rattle.machine_model.specs.Lines.{bad_metadata, lowest}

-- The medium has the lines of the whole layout. Of those of metadata none is weak, and the first one is the superblock in each
-- image. Any line may be bad: one of metadata then has no words.
pub record HasLayout (geo : Geometry) (m : Medium) : Type 0 where
  pub valid : IsValid geo
  pub lines : m.count ≡ total_lines geo
  pub strong : HasStrongMetadata geo m
  pub superblock : HasSuperblock geo m

-- and of metadata these lines are bad
pub record MetadataStands (geo : Geometry) (m : Medium) (bad_meta : List ℕ) : Type 0 where
  pub layout : HasLayout geo m
  pub bad : bad_metadata geo m.is_bad ≡ bad_meta
