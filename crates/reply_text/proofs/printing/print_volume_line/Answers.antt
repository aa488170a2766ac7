use Rattle.std.proofs.Common.{◌++◌, codes, decimal}
use Rattle.nvm_base.proofs.AppendLemmas.{Appended-none, Appended-more, Appends-last, Appends-whole}
use Rattle.reply_text.specs.Answer.{answer_text}
use Rattle.reply_text.specs.Answer.Answer.{PoisonVolume}
use Rattle.reply_text.proofs.printing.print_volume_line.Goals as goal

pub returns-clause-text : goal.returns-clause-text
returns-clause-text c =
    let text = answer_text (PoisonVolume c.args.offset) in
    let first = codes "poison volume " ++ decimal c.args.offset in
    let second = codes " 64" in
    let extend = c.extend.ensures in
    Appends-last text second _ _ _ _ (Appended-more text first second _ _ _ tt (Appended-none text c.args.out.now) c.in_ok-print_counted.ensures.text)
    (Appends-whole second _ _ c.extend.result extend.ok extend.err extend.succeeds extend.spare)
