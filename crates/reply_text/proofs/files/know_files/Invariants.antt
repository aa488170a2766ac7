use Rattle.std.proofs.Common.{All, take}
use Rattle.reply_text.specs.Room.{IsShort}
use Rattle.reply_text.proofs.files.know_files.Given as goal

abbrev pub invariant-loop-file : goal.invariant-loop-file
invariant-loop-file l = All IsShort (take l.file-index l.files)
