-- The definitions compute.
use Rattle.std.proofs.Common.{refl}
use Rattle.nvm_base.specs.Numbers.{number_of}
use Rattle.nvm_base.specs.Data.{runs_of, data_within}
use Rattle.script_text.specs.Script.{words_of}
use Rattle.questions.specs.Question.{comment_question, question_line}
use Rattle.questions.proofs.rows.worked_question_lines.Goals as goal

pub returns : goal.returns
unfolding number_of runs_of data_within words_of question_line comment_question
returns c = record {
  bytes_or_any = refl;
  line_of_a_block = refl;
  line_of_the_volume = refl;
  line_of_a_file = refl;
  block_made_unreadable = refl;
  no_file = refl;
  several_reads = refl;
  all_the_bytes = refl;
  one_byte_more = refl;
  half_a_byte = refl;
  two_datas = refl;
  line_of_another_length = refl;
  line_without_a_length = refl;
  line_of_a_block_with_a_length = refl;
  line_of_no_file = refl;
  largest_number = refl;
  larger_number = refl;
  refusal_of_no_word = refl;
  refusal_of_another_word = refl;
  reply_of_no_read = refl;
  no_reply = refl;
  two_empty_parts = refl;
  last_part_empty = refl;
  bar_within_a_word = refl;
  any_reply_twice = refl;
  look = refl;
  look_with_a_return = refl;
  look_and_a_word = refl;
  longer_word = refl;
  look_in_one_word = refl;
  look_in_upper_case = refl;
  look_at_both = refl;
  look_in_one_word_and_more = refl;
  two_marks = refl;
  never_in_one_word = refl;
  never_in_upper_case = refl;
  never_with_a_bar = refl;
  never_any = refl;
  may_the_power_go = refl;
  never_mind = refl;
  never_mind_in_lower_case = refl;
  second_reply_of_no_read = refl;
  kept_for_later = refl;
  kept_with_replies = refl;
  from_a_number = refl;
  from_something_else = refl;
  list = refl;
  table = refl;
  list_and_a_number = refl;
  mark_alone = refl;
  other_comment = refl;
  command = refl;
  blank_line = refl;
  longest_line = refl;
  longer_line = refl;
  may_be_found = refl;
  may_any = refl;
  second_reply_that_may_not_be = refl;
  may_alone = refl;
  may_the_power_go_in_lower_case = refl;
  may_in_one_word = refl;
  may_in_upper_case = refl;
  begin = refl;
  begin_and_a_word = refl;
  begin_in_upper_case = refl;
  begin_in_one_word = refl;
  begin_with_the_log = refl;
  refused = refl;
  refused_and_a_word = refl;
  refused_in_upper_case = refl;
  refused_in_one_word = refl;
  refused_before = refl;
}
