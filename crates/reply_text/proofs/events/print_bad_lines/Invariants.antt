use Rattle.std.proofs.Common.{drop}
use Rattle.nvm_base.proofs.AppendLemmas.{Appended}
use Rattle.reply_text.specs.Answer.{answer_text, offsets_text}
use Rattle.reply_text.specs.Answer.Answer.{BadLines}
use Rattle.reply_text.proofs.events.print_bad_lines.Given as goal

abbrev pub invariant-loop-offset : goal.invariant-loop-offset
invariant-loop-offset l = Appended (answer_text (BadLines l.offsets)) (offsets_text (drop l.offset-index l.offsets)) l.fn.out l.out
