-- The definitions compute.
use Rattle.std.proofs.Common.{refl}
use Rattle.std.specs.Fmt.{digits}
use Rattle.line_device.specs.Word.{word_from, byte_over, word_over, reaches}
use Rattle.nvm_base.specs.Numbers.{number_of}
use Rattle.nvm_base.specs.Data.{runs_of, data_within, data_text}
use Rattle.word_tables.specs.Layout.{size, first_line, total_lines, volume_line}
use Rattle.nvm_model.specs.Page.{change_line, fill, put, persist, discard, first_bad_line, first_uncovered_line, look, read_pages}
use Rattle.block_sights.specs.Sights.{bytes_by}
use Rattle.reply_text.specs.Answer.{answer_line}
use Rattle.pm_volume.specs.Presence.{words_read}
use Rattle.nvm_model.specs.Blocks.{write, change, look_blocks, lose}
use Rattle.word_log.specs.Replay.{listed}
use Rattle.inode_table.specs.Words.{slots_of}
use Rattle.block_device.specs.Reading.{states_read, blocks_read}
use Rattle.file_journal.specs.Reading.{tables_of, words_read as file_words}
use Rattle.file_journal.specs.Standing.{files_read}
use Rattle.nvm_model.specs.Events.{bad_numbers, restart_events}
use Rattle.nvm_model.specs.Touched.{bad_touched, next_bad_touched, persist_spans}
use Rattle.script_text.specs.Script.{lines_of, words_of, command_action, line_input}
use Rattle.cut_places.specs.MachineModel.Commands.{refusal}
use Rattle.cut_places.specs.MachineModel.Restarting.{reading}
use Rattle.explorer.proofs.rows.worked_reports.Goals as goal

pub returns : goal.returns
unfolding digits word_from byte_over word_over reaches number_of runs_of data_within data_text fill put persist discard change_line first_bad_line first_uncovered_line look read_pages words_read lines_of words_of command_action line_input refusal size first_line total_lines volume_line reading restart_events bad_numbers states_read blocks_read listed files_read file_words tables_of slots_of write change look_blocks lose persist_spans bad_touched next_bad_touched bytes_by answer_line
returns c = record {
  store_past_the_end = refl;
  file_that_is_missing = refl;
  sync_of_a_bad_line = refl;
  scarred_block = refl;
  wanted_and_refused = refl;
  wanted_and_done = refl;
  cut_in_no_calls = refl;
  lines_that_lead = refl;
}
