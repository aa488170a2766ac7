-- The definitions compute.
use Rattle.std.proofs.Common.{refl}
use Rattle.std.specs.Fmt.{digits}
use Rattle.line_device.specs.Word.{word_from, byte_over, word_over, reaches}
use Rattle.nvm_base.specs.Numbers.{number_of}
use Rattle.nvm_base.specs.Data.{runs_of, data_within, data_text}
use Rattle.word_tables.specs.Layout.{size, first_line, total_lines, volume_line}
use Rattle.nvm_model.specs.Page.{fill, put, persist, first_bad_line, first_uncovered_line, look, read_pages}
use Rattle.pm_volume.specs.Presence.{words_read}
use Rattle.word_log.specs.Replay.{listed}
use Rattle.block_device.specs.Reading.{states_read, blocks_read}
use Rattle.inode_table.specs.Words.{slots_of}
use Rattle.file_journal.specs.Reading.{tables_of, words_read as file_words}
use Rattle.file_journal.specs.Standing.{files_read}
use Rattle.attributes.specs.Attributes.{attribute}
use Rattle.reply_text.specs.Answer.{answer_line}
use Rattle.script_text.specs.Script.{lines_of, words_of, command_action, line_input}
use Rattle.machine_model.specs.Commands.{refusal}
use Rattle.machine_model.specs.Restarting.{reading}
use Rattle.machine_rows.proofs.rows.worked_bytes.Goals as goal
use Rattle.nvm_model.specs.Events.{bad_numbers, restart_events}

pub returns : goal.returns
unfolding digits word_from byte_over word_over reaches number_of runs_of data_within data_text fill put persist first_bad_line first_uncovered_line look read_pages words_read attribute answer_line lines_of words_of command_action line_input refusal size first_line total_lines volume_line reading restart_events bad_numbers states_read blocks_read listed files_read file_words tables_of slots_of
returns c = record { bytes = record { word_torn_by_a_seed = refl; atomicity_of_bytes = refl } }
