use Rattle.std.proofs.Common.{drop}
use Rattle.nvm_base.proofs.AppendLemmas.{Appended}
use Rattle.reply_text.specs.Answer.{answer_text, files_text}
use Rattle.reply_text.specs.Answer.Answer.{Files}
use Rattle.reply_text.proofs.files.print_files.Given as goal

abbrev pub invariant-loop-file : goal.invariant-loop-file
invariant-loop-file l = Appended (answer_text (Files l.files)) (files_text (drop l.file-index l.files)) l.fn.out l.out
