use Rattle.std.proofs.Common.{codes}
use Rattle.nvm_base.proofs.AppendLemmas.{Appends-whole}
use Rattle.reply_text.proofs.printing.print_text.Goals as goal

pub returns-in-DeviceFailed-clause-text : goal.returns-in-DeviceFailed-clause-text
returns-in-DeviceFailed-clause-text c =
    let extend = c.extend-in-DeviceFailed.ensures in
    rw c.in-DeviceFailed.is (Appends-whole (codes "refused device") _ _ _ extend.ok extend.err extend.succeeds extend.spare)

pub returns-in-RefusedMeta-clause-text : goal.returns-in-RefusedMeta-clause-text
returns-in-RefusedMeta-clause-text c = rw c.in-RefusedMeta.is c.print_counted-in-RefusedMeta.ensures.text

pub returns-in-PoisonBlock-clause-text : goal.returns-in-PoisonBlock-clause-text
returns-in-PoisonBlock-clause-text c = rw c.in-PoisonBlock.is c.print_two.ensures.text

pub returns-in-PoisonFile-clause-text : goal.returns-in-PoisonFile-clause-text
returns-in-PoisonFile-clause-text c = rw c.in-PoisonFile.is c.print_file_line.ensures.text
