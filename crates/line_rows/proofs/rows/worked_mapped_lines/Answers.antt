-- The definitions compute.
use Rattle.std.proofs.Common.{refl}
use Rattle.nvm_base.specs.Numbers.{number_of}
use Rattle.nvm_base.specs.Data.{runs_of, data_of, data_within}
use Rattle.script_text.specs.Script.{words_of, command_action, line_input}
use Rattle.line_rows.proofs.rows.worked_mapped_lines.Goals as goal

pub returns : goal.returns
unfolding number_of runs_of data_of data_within words_of command_action line_input
returns c = record {
  file_shown = refl;
  file_copied = refl;
  map_of_no_kind = refl;
  map_of_another_kind = refl;
  map_of_two_kinds = refl;
  map_without_a_length = refl;
  mapping_ended = refl;
  mapping_ended_by_name = refl;
  two_mappings_ended = refl;
  mapping_read = refl;
  mapping_read_without_a_handle = refl;
  mapping_stored_to = refl;
  too_many_bytes_of_a_mapping = refl;
}
