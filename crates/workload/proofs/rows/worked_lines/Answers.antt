-- The definitions compute.
use Rattle.std.proofs.Common.{refl}
use Rattle.std.specs.Fmt.{digits}
use Rattle.nvm_base.specs.Data.{data_text}
use Rattle.workload.specs.Lines.{kind, lines}
use Rattle.workload.proofs.rows.worked_lines.Goals as goal

pub returns : goal.returns
unfolding digits data_text kind lines
returns c = record {
  first_draw = refl;
  no_round = refl;
  volume_store = refl;
  block_writes = refl;
  atomic_write = refl;
  block_read = refl;
  block_discarded = refl;
  volume_synced = refl;
  mapping_stored_to = refl;
  mapping_flushed = refl;
  file_written_whole = refl;
  file_read = refl;
  power_cut = refl;
}
