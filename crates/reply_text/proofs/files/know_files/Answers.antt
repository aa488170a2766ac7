use Rattle.std.proofs.lemmas.List.{take_all}
use Rattle.std.proofs.Common.{All, subst}
use Rattle.std.proofs.lemmas.List.Elements.{All-more}
use Rattle.reply_text.specs.Room.{IsShort}
use Rattle.reply_text.proofs.files.know_files.Goals as goal

pub loop-file-preserved : goal.loop-file-preserved
loop-file-preserved c = All-more IsShort c.args.files.now c.loop-file.file-index _ c.loop-file-test.true c.loop-file.invariant (subst IsShort c.file-item.is c.know_file.ensures)

pub returns : goal.returns
returns c = subst (All IsShort) (take_all c.loop-file.file-index c.args.files.now c.loop-file-test.false) c.loop-file.invariant
