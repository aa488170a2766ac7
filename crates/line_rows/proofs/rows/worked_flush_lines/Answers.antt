-- The definitions compute.
use Rattle.std.proofs.Common.{refl}
use Rattle.nvm_base.specs.Numbers.{number_of}
use Rattle.nvm_base.specs.Data.{runs_of, data_of, data_within}
use Rattle.script_text.specs.Script.{words_of, command_action, line_input}
use Rattle.line_rows.proofs.rows.worked_flush_lines.Goals as goal

pub returns : goal.returns
unfolding number_of runs_of data_of data_within words_of command_action line_input
returns c = record {
  mapping_synced = refl;
  sync_without_a_length = refl;
  sync_of_a_span_and_a_number = refl;
  span_flushed = refl;
  spans_flushed = refl;
  flush_of_no_span = refl;
  flush_of_half_a_span = refl;
  flush_of_a_span_and_a_half = refl;
  flush_without_a_handle = refl;
  span_flushed_and_looked_at = refl;
  look_at_half_a_span = refl;
  span_flushed_deep = refl;
  deep_flush_of_no_span = refl;
  event_taken = refl;
  event_and_a_number = refl;
  file_checked = refl;
  file_checked_without_a_length = refl;
  line_of_a_file_poisoned = refl;
  poison_of_a_file_without_an_offset = refl;
  line_of_a_file_weakened = refl;
  weakened_in_no_place = refl;
  line_of_a_file_cleared = refl;
  line_of_a_file_cleared_and_a_number = refl;
}
