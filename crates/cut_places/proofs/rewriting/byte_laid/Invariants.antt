use Rattle.std.proofs.Common.{◌≡◌, drop}
use Rattle.file_actions.specs.Rewriting.{byte_laid}
use Rattle.cut_places.proofs.rewriting.byte_laid.Given as goal

abbrev pub invariant-loop-range : goal.invariant-loop-range
invariant-loop-range l = byte_laid (drop l.range-index l.ranges) l.rest l.at l.old ≡ byte_laid l.ranges l.bytes l.at l.old
