-- The definitions compute.
use Rattle.std.proofs.Common.{refl}
use Rattle.std.specs.Fmt.{digits}
use Rattle.nvm_base.specs.Numbers.{number_of}
use Rattle.word_tables.specs.Layout.{size, first_line, total_lines, volume_line}
use Rattle.nvm_model.specs.Page.{read_pages}
use Rattle.pm_volume.specs.Presence.{words_read}
use Rattle.word_log.specs.Replay.{listed}
use Rattle.block_device.specs.Reading.{states_read, blocks_read}
use Rattle.inode_table.specs.Words.{bytes_in, slots_of}
use Rattle.file_journal.specs.Reading.{tables_of, words_read as file_words}
use Rattle.file_journal.specs.Standing.{files_read}
use Rattle.reply_text.specs.Answer.{answer_line}
use Rattle.script_text.specs.Script.{lines_of, words_of, command_action, line_input}
use Rattle.machine_model.specs.Commands.{refusal}
use Rattle.machine_model.specs.Restarting.{reading}
use Rattle.machine_rows.proofs.FileRunLemmas.{deletion_kept, deletion_lost, renaming_all_or_nothing, renaming_kept, renaming_lost}
use Rattle.machine_rows.proofs.rows.worked_files.Goals as goal
use Rattle.nvm_model.specs.Events.{bad_numbers, restart_events}

pub returns-clause-files : goal.returns-clause-files
unfolding digits number_of read_pages words_read answer_line lines_of words_of command_action line_input refusal size first_line total_lines volume_line reading restart_events bad_numbers states_read blocks_read listed files_read file_words tables_of slots_of bytes_in
returns-clause-files c = record {
  made_listed_and_deleted = refl;
  sixty_four_files = refl;
  slot_that_a_delete_frees = refl;
  renamed_to_sort_elsewhere = refl;
  names_that_differ_in_their_last_byte = refl;
  reasons_in_order = refl;
  what_is_no_name = refl;
  made_file_kept = refl;
  cut_page_is_a_hole = refl;
  bad_metadata_stops_changes = refl;
}

pub returns-clause-may_change : goal.returns-clause-may_change
returns-clause-may_change c = record {
  deletion_lost = deletion_lost;
  deletion_kept = deletion_kept;
  renaming_lost = renaming_lost;
  renaming_kept = renaming_kept;
  renaming_all_or_nothing = renaming_all_or_nothing;
}
