-- The definitions compute.
use Rattle.std.proofs.Common.{refl}
use Rattle.std.specs.Fmt.{digits}
use Rattle.line_device.specs.Word.{word_from, byte_over, word_over, reaches}
use Rattle.nvm_base.specs.Numbers.{number_of}
use Rattle.nvm_base.specs.Data.{runs_of, data_within, data_text}
use Rattle.word_tables.specs.Layout.{size, first_line, total_lines, volume_line}
use Rattle.nvm_model.specs.Page.{change_line, fill, put, persist, discard, first_bad_line, first_uncovered_line, look, read_pages}
use Rattle.pm_volume.specs.Presence.{words_read}
use Rattle.nvm_model.specs.Blocks.{write, change, look_blocks, lose}
use Rattle.word_log.specs.Replay.{listed}
use Rattle.block_device.specs.Reading.{states_read, blocks_read}
use Rattle.inode_table.specs.Words.{slots_of}
use Rattle.file_journal.specs.Reading.{tables_of, words_read as file_words}
use Rattle.file_journal.specs.Standing.{files_read}
use Rattle.reply_text.specs.Answer.{answer_line}
use Rattle.script_text.specs.Script.{lines_of, words_of, command_action, line_input}
use Rattle.machine_model.specs.Commands.{refusal}
use Rattle.machine_model.specs.Restarting.{reading}
use Rattle.machine_rows.proofs.rows.worked_scripts.Goals as goal
use Rattle.nvm_model.specs.Events.{bad_numbers, restart_events}

pub returns-clause-volume : goal.returns-clause-volume
unfolding digits word_from byte_over word_over reaches number_of runs_of data_within data_text fill put persist discard first_bad_line first_uncovered_line look read_pages words_read answer_line lines_of words_of command_action line_input refusal size first_line total_lines volume_line reading restart_events bad_numbers states_read blocks_read listed files_read file_words tables_of slots_of
returns-clause-volume c = record {
  unsynced_store_lost = refl;
  synced_store_kept = refl;
  last_values_kept = refl;
  refusals_in_order = refl;
  edges_of_the_volume = refl;
  several_items_of_data = refl;
  nothing_while_off = refl;
  two_restarts = refl;
  across_lines_and_pages = refl;
  comments_and_blank_lines = refl;
}

pub returns-clause-blocks : goal.returns-clause-blocks
unfolding digits word_from byte_over word_over reaches number_of runs_of data_within data_text fill put persist discard first_bad_line first_uncovered_line look read_pages words_read answer_line lines_of words_of command_action line_input refusal size first_line total_lines volume_line reading restart_events bad_numbers write change look_blocks states_read blocks_read listed files_read file_words tables_of slots_of
returns-clause-blocks c = record {
  read_of_new_blocks = refl;
  discard_of_absent_block = refl;
  written_block_kept = refl;
  write_over_a_scar = refl;
  absent_written_and_scarred = refl;
  scar_of_pairs = refl;
  last_block = refl;
  whole_blocks_alone = refl;
  limits_of_spans = refl;
  blocks_and_volume_apart = refl;
}

pub returns-clause-pages : goal.returns-clause-pages
unfolding digits word_from byte_over word_over reaches number_of runs_of data_within data_text fill put persist discard first_bad_line first_uncovered_line look read_pages words_read answer_line lines_of words_of command_action line_input refusal size first_line total_lines volume_line reading restart_events bad_numbers states_read blocks_read listed files_read file_words tables_of slots_of
returns-clause-pages c = record {
  half_synced_by_its_address = refl;
  store_over_the_end_of_a_range = refl;
  discarded_page = refl;
  hint_over_both = refl;
  sync_of_an_absent_page = refl;
  refusals_of_pages = refl;
  refusals_of_addresses = refl;
  most_that_a_load_asks_for = refl;
  synced_page_kept = refl;
}

pub returns-clause-errors : goal.returns-clause-errors
unfolding digits word_from byte_over word_over reaches number_of runs_of data_within data_text change_line fill put persist discard first_bad_line first_uncovered_line look read_pages words_read answer_line lines_of words_of command_action line_input refusal size first_line total_lines volume_line reading restart_events bad_numbers write change look_blocks lose states_read blocks_read listed files_read file_words tables_of slots_of
returns-clause-errors c = record {
  bad_line_of_the_volume = refl;
  bad_line_of_a_block = refl;
  value_between_kept_by_a_seed = refl;
  one_word_kept_and_one_lost = refl;
  weak_line_until_its_sync = refl;
  weak_line_cut_before_its_sync = refl;
  cleared_line = refl;
  no_such_line = refl;
  scar_has_no_lines = refl;
  lowest_bad_line_named = refl;
  sync_refused_whole = refl;
  store_over_half_a_bad_line = refl;
  bad_lines_counted = refl;
  discarded_with_its_bad_line = refl;
}
