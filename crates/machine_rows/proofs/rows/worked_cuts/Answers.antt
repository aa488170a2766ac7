-- The definitions compute.
use Rattle.std.proofs.Common.{refl}
use Rattle.std.specs.Prelude.{[], ◌∷◌, codes}
use Rattle.std.specs.Fmt.{digits}
use Rattle.nvm_base.specs.Numbers.{number_of}
use Rattle.nvm_base.specs.Data.{data_of, runs_of, data_within, data_text}
use Rattle.word_tables.specs.Layout.{size, first_line, total_lines, volume_line}
use Rattle.nvm_model.specs.Page.{read_pages}
use Rattle.pm_volume.specs.Presence.{words_read}
use Rattle.nvm_model.specs.Blocks.{write, look_blocks}
use Rattle.word_log.specs.Replay.{listed}
use Rattle.block_device.specs.Reading.{states_read, blocks_read}
use Rattle.inode_table.specs.Words.{slots_of}
use Rattle.file_journal.specs.Reading.{tables_of, words_read as file_words}
use Rattle.file_journal.specs.Standing.{files_read}
use Rattle.reply_text.specs.Answer.{answer_line}
use Rattle.script_text.specs.Script.{lines_of, words_of, command_action, line_input}
use Rattle.machine_model.specs.Commands.{refusal}
use Rattle.machine_model.specs.Restarting.{reading}
use Rattle.machine_model.specs.WorkedScripts.{text}
use Rattle.machine_rows.specs.Rows.{WritesOn}
use Rattle.machine_rows.specs.CutRows.{larger}
use Rattle.machine_rows.proofs.CutLemmas.{write_lost, write_kept, cut_that_never_came, store_in_part}
use Rattle.machine_rows.proofs.PartLemmas.{write_all_or_nothing, write_never_in_part}
use Rattle.machine_rows.proofs.PageRunLemmas.{discard_kept, discard_lost, discarded_together, fill_kept, fill_lost, filled_together}
use Rattle.machine_rows.proofs.rows.worked_cuts.Goals as goal
use Rattle.nvm_model.specs.Events.{bad_numbers, restart_events}

-- the blocks are not looked at
many_together : WritesOn larger (text (codes "batomic 0 01*33280" ∷ codes "batomic 0 01*32768" ∷ [])) [] (codes "refused limit" ∷ codes "ok" ∷ [])
unfolding digits number_of runs_of data_within answer_line lines_of words_of command_action line_input refusal reading restart_events bad_numbers
many_together = refl

many_in_ranges : WritesOn larger (text (codes "bmulti 0 01*16896 40 01*16896" ∷ [])) [] (codes "refused limit" ∷ [])
unfolding digits number_of data_of runs_of answer_line lines_of words_of command_action line_input refusal reading restart_events bad_numbers
many_in_ranges = refl

pub returns-clause-writes : goal.returns-clause-writes
unfolding digits number_of data_of runs_of data_within data_text read_pages answer_line lines_of words_of command_action line_input refusal size first_line total_lines volume_line reading restart_events bad_numbers write look_blocks states_read blocks_read listed files_read file_words tables_of slots_of words_read
returns-clause-writes c = record {
  ranges_apart_and_whole = refl;
  sixty_four_together = many_together;
  sixty_four_in_ranges = many_in_ranges;
  ranges_written = refl;
  refusals_of_ranges = refl;
  cut_after_no_calls = refl;
  cut_that_never_came = refl;
}

pub returns-clause-may_write : goal.returns-clause-may_write
returns-clause-may_write c = record {
  cut_that_never_came = cut_that_never_came;
  write_lost = write_lost;
  write_kept = write_kept;
  write_all_or_nothing = write_all_or_nothing;
  write_never_in_part = write_never_in_part;
  store_in_part = store_in_part;
}

pub returns-clause-pages : goal.returns-clause-pages
returns-clause-pages c = record {
  fill_lost = fill_lost;
  fill_kept = fill_kept;
  filled_together = filled_together;
  discard_lost = discard_lost;
  discard_kept = discard_kept;
  discarded_together = discarded_together;
}
