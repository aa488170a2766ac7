-- The definitions compute.
use Rattle.std.proofs.Common.{refl}
use Rattle.nvm_base.specs.Numbers.{number_of}
use Rattle.nvm_base.specs.Data.{runs_of, data_of, data_within}
use Rattle.script_text.specs.Script.{lines_of, words_of, command_action, line_input}
use Rattle.questions.specs.Question.{comment_question, question_line}
use Rattle.exploration.proofs.rows.worked_scripts.Goals as goal

pub returns : goal.returns
unfolding number_of runs_of data_of data_within lines_of words_of command_action line_input question_line comment_question
returns c = record {
  one_question = refl;
  reads_of_both_kinds = refl;
  no_look = refl;
  no_line = refl;
  look_without_reads = refl;
  reads_without_a_question = refl;
  a_table = refl;
  a_list = refl;
  all_that_may_be_asked = refl;
  read_behind_a_table = refl;
  read_behind_a_list = refl;
  read_behind_a_question = refl;
  command_of_power = refl;
  one_reply_to_two_reads = refl;
  reply_of_another_read = refl;
  second_look = refl;
  reads_of_files = refl;
  line_of_another_file = refl;
  line_of_a_file_and_of_the_volume = refl;
  load_of_a_mapping = refl;
  list_before_the_look = refl;
  one_byte_short = refl;
  half_a_block = refl;
  line_that_is_not_touched = refl;
  no_head_of_a_line = refl;
  block_behind_the_read = refl;
  ninth_line = refl;
  refused_as_nothing_is = refl;
  past_the_volume = refl;
  refused_as_it_is = refl;
  file_refused_by_no_word = refl;
  no_reply_at_all = refl;
  no_command = refl;
  nearly_a_look = refl;
}
