-- The definitions compute.
use Rattle.std.proofs.Common.{refl}
use Rattle.std.specs.Fmt.{digits}
use Rattle.line_device.specs.Word.{byte_over, reaches, word_from, word_over}
use Rattle.nvm_base.specs.Data.{data_text, data_within, runs_of}
use Rattle.nvm_base.specs.Numbers.{number_of}
use Rattle.word_tables.specs.Layout.{first_line, size, total_lines, volume_line}
use Rattle.nvm_model.specs.Events.{bad_numbers, restart_events}
use Rattle.nvm_model.specs.Page.{change_line, fill, first_bad_line, first_uncovered_line, look, put, read_pages}
use Rattle.nvm_model.specs.Touched.{bad_touched, next_bad_touched, persist_spans}
use Rattle.pm_volume.specs.Presence.{words_read}
use Rattle.word_log.specs.Replay.{listed}
use Rattle.block_device.specs.Reading.{blocks_read, states_read}
use Rattle.inode_table.specs.Words.{bytes_in, slots_of}
use Rattle.file_journal.specs.Reading.{tables_of, words_read as file_words}
use Rattle.file_journal.specs.Standing.{files_read}
use Rattle.file_actions.specs.Rewriting.{first_lost, rewritten}
use Rattle.script_text.specs.Script.{command_action, line_input, lines_of, words_of}
use Rattle.machine_model.specs.Commands.{refusal}
use Rattle.machine_model.specs.Restarting.{reading}
use Rattle.durable.proofs.rows.worked_mappings.Goals as goal

pub returns-clause-mapped : goal.returns-clause-mapped
unfolding digits word_from byte_over word_over reaches number_of runs_of data_within data_text change_line fill put first_bad_line first_uncovered_line look read_pages words_read lines_of words_of command_action line_input refusal size first_line total_lines volume_line reading restart_events bad_numbers states_read blocks_read listed files_read file_words tables_of slots_of bytes_in bad_touched next_bad_touched persist_spans
returns-clause-mapped c = record {
  first_line_stored = refl;
  first_line_flushed = refl;
  second_line_stored = refl;
  second_line_flushed = refl;
  copy_stored = refl;
  copy_flushed = refl;
  part_stored = refl;
  part_flushed = refl;
  one_file_stored = refl;
  one_file_flushed = refl;
  another_file_stored = refl;
  another_file_flushed = refl;
  before_a_restart = refl;
  stored_after_a_restart = refl;
  flushed_after_a_restart = refl;
  recovery_interrupted = refl;
  recovered = refl;
  restart_interrupted = refl;
}

pub returns-clause-worn : goal.returns-clause-worn
unfolding digits word_from byte_over word_over reaches number_of runs_of data_within data_text change_line fill put first_bad_line first_uncovered_line look read_pages words_read lines_of words_of command_action line_input refusal size first_line total_lines volume_line reading restart_events bad_numbers states_read blocks_read listed files_read file_words tables_of slots_of bytes_in bad_touched next_bad_touched persist_spans first_lost rewritten
returns-clause-worn c = record {
  weak_and_then_flushed = refl;
  flushed_and_then_weak = refl;
  flushed_before_and_after = refl;
  another_line = refl;
  another_line_weak = refl;
  another_file = refl;
  copy_flushed = refl;
  written_anew = refl;
  of_the_volume = refl;
  beside_it = refl;
  flush_interrupted = refl;
}
