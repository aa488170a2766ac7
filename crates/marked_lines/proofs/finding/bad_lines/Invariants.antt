use Rattle.std.proofs.Common.{◌≡◌}
use Rattle.nvm_model.specs.Events.{offsets_of}
use Rattle.marked_lines.specs.Lines.{bad_from}
use Rattle.marked_lines.proofs.finding.bad_lines.Given as goal

abbrev pub invariant-loop-k : goal.invariant-loop-k
invariant-loop-k g l = l.found.items ≡ offsets_of (bad_from l.files.journal (g.L.Lines.state l.dev).medium l.inode l.lines.start l.k)
