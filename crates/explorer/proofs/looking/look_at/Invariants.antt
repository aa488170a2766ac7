use Rattle.std.proofs.Common.{take}
use Rattle.explorer.specs.Tabulating.{LooksAt}
use Rattle.explorer.proofs.looking.look_at.Given as goal

abbrev pub invariant-loop-read : goal.invariant-loop-read
invariant-loop-read l = LooksAt l.geometry (take l.read-index l.reads) l.question
