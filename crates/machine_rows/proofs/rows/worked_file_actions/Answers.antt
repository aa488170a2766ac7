-- The definitions compute.
use Rattle.std.proofs.Common.{refl}
use Rattle.std.specs.Fmt.{digits}
use Rattle.line_device.specs.Word.{byte_over, reaches, word_from, word_over}
use Rattle.nvm_base.specs.Data.{data_of, data_text, data_within, runs_of}
use Rattle.nvm_base.specs.Numbers.{number_of}
use Rattle.word_tables.specs.Layout.{first_line, size, total_lines, volume_line}
use Rattle.nvm_model.specs.Events.{bad_numbers, restart_events}
use Rattle.nvm_model.specs.Page.{change_line, discard, fill, first_bad_line, first_uncovered_line, look, put, read_pages}
use Rattle.nvm_model.specs.Touched.{bad_touched, next_bad_touched, persist_spans}
use Rattle.pm_volume.specs.Presence.{words_read}
use Rattle.word_log.specs.Replay.{listed}
use Rattle.block_device.specs.Reading.{blocks_read, states_read}
use Rattle.inode_table.specs.Words.{bytes_in, slots_of}
use Rattle.file_journal.specs.Reading.{tables_of, words_read as file_words}
use Rattle.file_journal.specs.Standing.{files_read}
use Rattle.file_actions.specs.Rewriting.{first_lost, rewritten}
use Rattle.reply_text.specs.Answer.{answer_line}
use Rattle.script_text.specs.Script.{command_action, line_input, lines_of, words_of}
use Rattle.machine_model.specs.Commands.{refusal}
use Rattle.machine_model.specs.Restarting.{reading}
use Rattle.machine_rows.proofs.FileActionRunLemmas.{write_done, write_lost, written_together}
use Rattle.machine_rows.proofs.rows.worked_file_actions.Goals as goal

pub returns-clause-actions : goal.returns-clause-actions
unfolding digits word_from byte_over word_over reaches number_of data_of runs_of data_within data_text fill put first_bad_line first_uncovered_line look change_line discard bad_touched next_bad_touched persist_spans read_pages words_read answer_line lines_of words_of command_action line_input refusal size first_line total_lines volume_line reading restart_events bad_numbers states_read blocks_read listed files_read file_words tables_of slots_of bytes_in first_lost rewritten
returns-clause-actions c = record {
  bad_line_that_no_range_covers = refl;
  room_for_sixteen_pages = refl;
  rest_of_a_page_stays = refl;
  bytes_beside_are_durable_too = refl;
  reasons_in_order = refl;
  pages_are_counted_once = refl;
  ranges_that_cover_a_line_together = refl;
  weak_line_is_healthy_again = refl;
  pages_discarded = refl;
  file_made_durable = refl;
  bad_metadata_stops_them = refl;
  discard_gives_room = refl;
}

pub returns-clause-may_write : goal.returns-clause-may_write
returns-clause-may_write c = record { write_lost = write_lost; write_done = write_done; written_together = written_together }
