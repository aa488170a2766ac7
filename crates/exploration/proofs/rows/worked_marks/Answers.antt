-- The definitions compute.
use Rattle.std.proofs.Common.{refl}
use Rattle.nvm_base.specs.Numbers.{number_of}
use Rattle.nvm_base.specs.Data.{runs_of, data_of, data_within}
use Rattle.script_text.specs.Script.{lines_of, words_of, command_action, line_input}
use Rattle.questions.specs.Question.{comment_question, question_line}
use Rattle.exploration.proofs.rows.worked_marks.Goals as goal

pub returns : goal.returns
unfolding number_of runs_of data_of data_within lines_of words_of command_action line_input question_line comment_question
returns c = record {
  begins_at_a_line = refl;
  begins_at_once = refl;
  second_begin = refl;
  begin_in_the_look = refl;
  begin_and_a_word = refl;
  next_command_is_marked = refl;
  each_command_is_marked = refl;
  lines_between = refl;
  marked_before_the_begin = refl;
  marked_twice = refl;
  mark_before_the_look = refl;
  mark_at_the_end = refl;
  mark_before_no_command = refl;
  no_command_before_the_marked_one = refl;
  mark_before_a_command_of_power = refl;
  mark_in_the_look = refl;
  mark_and_a_word = refl;
  may_be_found = refl;
  may_any = refl;
  never_any = refl;
  may_any_of_too_many = refl;
  may_of_another_length = refl;
  may_before_the_look = refl;
  may_the_power_go = refl;
  no_reply_that_may_be = refl;
  nearly_a_may = refl;
}
