-- The definitions compute.
use Rattle.std.proofs.Common.{refl}
use Rattle.std.specs.Fmt.{digits}
use Rattle.line_device.specs.Word.{byte_over, reaches, word_from, word_over}
use Rattle.nvm_base.specs.Data.{data_text, data_within, runs_of}
use Rattle.nvm_base.specs.Numbers.{number_of}
use Rattle.word_tables.specs.Layout.{first_line, size, total_lines, volume_line}
use Rattle.nvm_model.specs.Page.{fill, first_bad_line, first_uncovered_line, look, put, read_pages}
use Rattle.pm_volume.specs.Presence.{words_read}
use Rattle.word_log.specs.Replay.{listed}
use Rattle.block_device.specs.Reading.{blocks_read, states_read}
use Rattle.inode_table.specs.Words.{bytes_in, slots_of}
use Rattle.file_journal.specs.Reading.{tables_of, words_read as file_words}
use Rattle.file_journal.specs.Standing.{files_read}
use Rattle.reply_text.specs.Answer.{answer_line}
use Rattle.script_text.specs.Script.{command_action, line_input, lines_of, words_of}
use Rattle.machine_model.specs.Commands.{refusal}
use Rattle.machine_model.specs.Restarting.{reading}
use Rattle.machine_rows.proofs.PageStoreRunLemmas.{hole_alone_filled, holes_filled_together, store_in_part, store_lost}
use Rattle.machine_rows.proofs.rows.worked_pages.Goals as goal
use Rattle.nvm_model.specs.Events.{bad_numbers, restart_events}

pub returns-clause-bytes : goal.returns-clause-bytes
unfolding digits word_from byte_over word_over reaches number_of runs_of data_within data_text fill put first_bad_line first_uncovered_line look read_pages words_read answer_line lines_of words_of command_action line_input refusal size first_line total_lines volume_line reading restart_events bad_numbers states_read blocks_read listed files_read file_words tables_of slots_of bytes_in
returns-clause-bytes c = record {
  written_and_read = refl;
  reasons_in_order = refl;
  most_that_a_read_gives = refl;
  full_but_for_sixteen_pages = refl;
  files_apart_and_renamed = refl;
  cut_page_is_zeros = refl;
  bad_metadata_stops_fills = refl;
  stored_bytes_lost = refl;
  last_bytes_kept = refl;
  bad_line_of_a_file = refl;
}

pub returns-clause-may_store : goal.returns-clause-may_store
returns-clause-may_store c = record {
  store_lost = store_lost;
  hole_alone_filled = hole_alone_filled;
  store_in_part = store_in_part;
  holes_filled_together = holes_filled_together;
}
