-- The definitions compute.
use Rattle.std.proofs.Common.{refl}
use Rattle.std.specs.Fmt.{digits}
use Rattle.line_device.specs.Word.{word_from, byte_over, word_over, reaches}
use Rattle.nvm_base.specs.Numbers.{number_of}
use Rattle.nvm_base.specs.Data.{runs_of, data_within, data_text}
use Rattle.word_tables.specs.Layout.{size, first_line, total_lines, volume_line}
use Rattle.nvm_model.specs.Page.{change_line, fill, put, persist, discard, first_bad_line, first_uncovered_line, look, read_pages}
use Rattle.pm_volume.specs.Presence.{words_read}
use Rattle.nvm_model.specs.Blocks.{write, change, look_blocks, lose}
use Rattle.word_log.specs.Replay.{listed}
use Rattle.block_device.specs.Reading.{states_read, blocks_read}
use Rattle.file_journal.specs.Reading.{tables_of, words_read as file_words}
use Rattle.inode_table.specs.Words.{slots_of}
use Rattle.file_journal.specs.Standing.{files_read}
use Rattle.nvm_model.specs.Events.{bad_numbers, restart_events}
use Rattle.file_actions.specs.Rewriting.{first_lost, rewritten}
use Rattle.nvm_model.specs.Touched.{bad_touched, next_bad_touched, persist_spans}
use Rattle.script_text.specs.Script.{lines_of, words_of, command_action, line_input}
use Rattle.machine_model.specs.Commands.{refusal}
use Rattle.machine_model.specs.Restarting.{reading}
use Rattle.outcomes.proofs.laws.worked_questions.Goals as goal

pub returns : goal.returns
unfolding digits word_from byte_over word_over reaches number_of runs_of data_within data_text fill put persist discard change_line first_bad_line first_uncovered_line look read_pages words_read lines_of words_of command_action line_input refusal size first_line total_lines volume_line reading restart_events bad_numbers states_read blocks_read listed files_read file_words tables_of slots_of write change look_blocks lose persist_spans bad_touched next_bad_touched rewritten first_lost
returns c = record {
  record_before_count = refl;
  both_by_one_sync = refl;
  no_order_within_a_line = refl;
  each_value_of_a_word = refl;
  none_before_its_sync = refl;
  a_word_is_whole = refl;
  a_word_is_one_value = refl;
  blocks_together = refl;
  blocks_one_by_one = refl;
  a_bad_line_is_named = refl;
  no_other_line = refl;
  one_worn_line_of_two = refl;
  pages_one_by_one = refl;
  pages_together = refl;
  a_read_past_the_end = refl;
  a_read_within = refl;
  renamed_too_early = refl;
  renamed_once_durable = refl;
  header_by_one_write = refl;
  header_by_a_store = refl;
  through_a_mapping = refl;
  before_it_is_made = refl;
  all_files_of_one_change = refl;
}
