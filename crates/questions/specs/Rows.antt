-- Worked lines: what they ask.
use Rattle.std.specs.Prelude.{◌≡◌, [], ◌∷◌, ◌++◌, Some, None, replicate, codes}
use Rattle.reply_text.specs.Answer.Answer.{Bytes, PoisonBlock, PoisonVolume, PoisonFile, Scarred, Refused}
use Rattle.reply_text.specs.declared.reply.Why.TheVariants.{Missing, Off}
use Rattle.questions.specs.Question.{question_line}
use Rattle.questions.specs.Question.QuestionLine.{Plain, Begins, Refuses, Look, Lists, Tabulates, Never, May, Misspelled, NoReply}

pub record QuestionRows : Type 0 where
  pub bytes_or_any : question_line (codes "# never data 01,00 | _") ≡ Never (Some (Bytes (1 ∷ 0 ∷ [])) ∷ None ∷ [])
  pub line_of_a_block : question_line (codes "# never poison block 3 7") ≡ Never (Some (PoisonBlock 3 7) ∷ [])
  pub line_of_the_volume : question_line (codes "# never poison volume 64 64") ≡ Never (Some (PoisonVolume 64) ∷ [])
  pub line_of_a_file : question_line (codes "# never poison file log 128 64") ≡ Never (Some (PoisonFile (codes "log") 128) ∷ [])
  pub block_made_unreadable : question_line (codes "# never scarred 4095") ≡ Never (Some (Scarred 4095) ∷ [])
  pub no_file : question_line (codes "# never refused missing") ≡ Never (Some (Refused Missing) ∷ [])
  pub several_reads : question_line (codes "#  never _ | refused off |  data ff*3") ≡ Never (None ∷ Some (Refused Off) ∷ Some (Bytes (255 ∷ 255 ∷ 255 ∷ [])) ∷ [])
  pub all_the_bytes : question_line (codes "# never data 07*65536") ≡ Never (Some (Bytes (replicate 65536 7)) ∷ [])
  pub one_byte_more : question_line (codes "# never data 07*65537") ≡ NoReply 1
  pub half_a_byte : question_line (codes "# never data 0 ") ≡ NoReply 1
  pub two_datas : question_line (codes "# never data 01 02") ≡ NoReply 1
  pub line_of_another_length : question_line (codes "# never poison volume 64 128") ≡ NoReply 1
  pub line_without_a_length : question_line (codes "# never poison volume 64") ≡ NoReply 1
  pub line_of_a_block_with_a_length : question_line (codes "# never poison block 3 7 64") ≡ NoReply 1
  pub line_of_no_file : question_line (codes "# never poison file Log 128 64") ≡ NoReply 1
  pub largest_number : question_line (codes "# never scarred 4294967295") ≡ Never (Some (Scarred 4294967295) ∷ [])
  pub larger_number : question_line (codes "# never scarred 4294967296") ≡ NoReply 1
  pub refusal_of_no_word : question_line (codes "# never refused") ≡ NoReply 1
  pub refusal_of_another_word : question_line (codes "# never refused device") ≡ NoReply 1
  pub reply_of_no_read : question_line (codes "# never ok") ≡ NoReply 1
  pub no_reply : question_line (codes "# never") ≡ NoReply 1
  pub two_empty_parts : question_line (codes "# never |") ≡ NoReply 1
  pub last_part_empty : question_line (codes "# never data 00 |") ≡ NoReply 2
  pub bar_within_a_word : question_line (codes "# never _|_") ≡ NoReply 1
  pub any_reply_twice : question_line (codes "# never _ _") ≡ NoReply 1
  pub look : question_line (codes "# look") ≡ Look
  pub look_with_a_return : question_line (9 ∷ codes "# look" ++ 13 ∷ []) ≡ Look
  pub look_and_a_word : question_line (codes "# look now") ≡ Misspelled
  pub longer_word : question_line (codes "# looks") ≡ Plain
  pub look_in_one_word : question_line (codes "#look") ≡ Misspelled
  pub look_in_upper_case : question_line (codes "# Look ") ≡ Misspelled
  pub look_at_both : question_line (codes "# Look at both") ≡ Plain
  pub look_in_one_word_and_more : question_line (codes "#look closely") ≡ Plain
  pub two_marks : question_line (codes "## look") ≡ Plain
  pub never_in_one_word : question_line (codes "#never data 00") ≡ Misspelled
  pub never_in_upper_case : question_line (codes "# NEVER Refused missing") ≡ Misspelled
  pub never_with_a_bar : question_line (codes "#Never what | ever") ≡ Misspelled
  pub never_any : question_line (codes "#never _") ≡ Misspelled
  pub may_the_power_go : question_line (codes "# May the power go") ≡ Plain
  pub never_mind : question_line (codes "# Never mind") ≡ Plain
  pub never_mind_in_lower_case : question_line (codes "# never mind") ≡ NoReply 1
  pub second_reply_of_no_read : question_line (codes "# never _ | ok | data") ≡ NoReply 2
  pub kept_for_later : question_line (codes "# idle") ≡ Misspelled
  pub kept_with_replies : question_line (codes "# only data 00") ≡ Misspelled
  pub from_a_number : question_line (codes "# from 3") ≡ Misspelled
  pub from_something_else : question_line (codes "# from the start") ≡ Plain
  pub list : question_line (codes "# list") ≡ Lists
  pub table : question_line (codes "# table") ≡ Tabulates
  pub list_and_a_number : question_line (codes "# list 3") ≡ Misspelled
  pub mark_alone : question_line (codes "#") ≡ Plain
  pub other_comment : question_line (codes "# the record comes first") ≡ Plain
  pub command : question_line (codes "vload 0 64") ≡ Plain
  pub blank_line : question_line [] ≡ Plain
  pub longest_line : question_line (codes "# look" ++ replicate 65530 32) ≡ Look
  pub longer_line : question_line (codes "# look" ++ replicate 65531 32) ≡ Plain
  pub may_be_found : question_line (codes "# may data 01,00 | _") ≡ May (Some (Bytes (1 ∷ 0 ∷ [])) ∷ None ∷ [])
  pub may_any : question_line (codes "# may _") ≡ May (None ∷ [])
  pub second_reply_that_may_not_be : question_line (codes "# may _ | ok") ≡ NoReply 2
  pub may_alone : question_line (codes "# may") ≡ NoReply 1
  pub may_the_power_go_in_lower_case : question_line (codes "# may the power go") ≡ NoReply 1
  pub may_in_one_word : question_line (codes "#may data 00") ≡ Misspelled
  pub may_in_upper_case : question_line (codes "# May data 00") ≡ Misspelled
  pub begin : question_line (codes "# begin") ≡ Begins
  pub begin_and_a_word : question_line (codes "# begin here") ≡ Misspelled
  pub begin_in_upper_case : question_line (codes "# Begin") ≡ Misspelled
  pub begin_in_one_word : question_line (codes "#begin") ≡ Misspelled
  pub begin_with_the_log : question_line (codes "# Begin with the log") ≡ Plain
  pub refused : question_line (codes "# refused") ≡ Refuses
  pub refused_and_a_word : question_line (codes "# refused missing") ≡ Misspelled
  pub refused_in_upper_case : question_line (codes "# REFUSED") ≡ Misspelled
  pub refused_in_one_word : question_line (codes "#refused") ≡ Misspelled
  pub refused_before : question_line (codes "# Refused before") ≡ Plain
