-- The definitions compute.
use Rattle.std.proofs.Common.{refl}
use Rattle.std.specs.Fmt.{digits}
use Rattle.line_device.specs.Word.{word_from, byte_over, word_over, reaches}
use Rattle.nvm_base.specs.Numbers.{number_of}
use Rattle.nvm_base.specs.Data.{runs_of, data_within, data_text}
use Rattle.word_tables.specs.Layout.{size, first_line, total_lines, volume_line}
use Rattle.nvm_model.specs.Page.{discard, fill, first_bad_line, first_uncovered_line, look, persist, put, read_pages}
use Rattle.pm_volume.specs.Presence.{words_read}
use Rattle.nvm_model.specs.Blocks.{look_blocks, write}
use Rattle.word_log.specs.Replay.{listed}
use Rattle.block_device.specs.Reading.{states_read, blocks_read}
use Rattle.inode_table.specs.Words.{slots_of}
use Rattle.file_journal.specs.Reading.{tables_of, words_read as file_words}
use Rattle.file_journal.specs.Standing.{files_read}
use Rattle.reply_text.specs.Answer.{answer_line}
use Rattle.script_text.specs.Script.{lines_of, words_of, command_action, line_input}
use Rattle.machine_model.specs.Commands.{refusal}
use Rattle.machine_model.specs.Restarting.{reading}
use Rattle.machine_rows.proofs.FailureRunLemmas.{cut_before_failure, pair_all_or_nothing, pair_never_in_part, restart_cut, restart_failed, sync_failed, write_kept, write_kept_by_the_second_recovery, write_lost, write_lost_by_the_second_recovery}
use Rattle.machine_rows.proofs.rows.worked_failures.Goals as goal
use Rattle.nvm_model.specs.Events.{bad_numbers, restart_events}

pub returns-clause-failures : goal.returns-clause-failures
unfolding digits word_from byte_over word_over reaches number_of runs_of data_within data_text fill put persist discard first_bad_line first_uncovered_line look read_pages words_read answer_line lines_of words_of command_action line_input refusal size first_line total_lines volume_line reading restart_events bad_numbers write look_blocks states_read blocks_read listed files_read file_words tables_of slots_of
returns-clause-failures c = record {
  stopped_at_the_next_mount = refl;
  last_line_of_metadata = refl;
  lowest_line_of_metadata_named = refl;
  place_named_before_metadata = refl;
  load_while_metadata_is_bad = refl;
  store_while_metadata_is_bad = refl;
  sync_while_metadata_is_bad = refl;
  armed_while_stopped = refl;
  lower_line_while_stopped = refl;
  armed_while_off = refl;
}

pub returns-clause-may_fail : goal.returns-clause-may_fail
returns-clause-may_fail c = record {
  write_lost = write_lost;
  write_kept = write_kept;
  write_lost_by_the_second_recovery = write_lost_by_the_second_recovery;
  write_kept_by_the_second_recovery = write_kept_by_the_second_recovery;
  pair_all_or_nothing = pair_all_or_nothing;
  pair_never_in_part = pair_never_in_part;
  restart_cut = restart_cut;
  restart_failed = restart_failed;
  cut_before_failure = cut_before_failure;
  sync_failed = sync_failed;
}
