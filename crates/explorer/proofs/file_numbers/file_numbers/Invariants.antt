use Rattle.std.proofs.Common.{◌≡◌, take, true}
use Rattle.cut_places.specs.AskedReads.Reads.{file_reads_asked}
use Rattle.cut_places.specs.SeesFiles.{are_held}
use Rattle.explorer.proofs.file_numbers.file_numbers.Given as goal

abbrev pub invariant-loop-read : goal.invariant-loop-read
invariant-loop-read l = are_held l.held.keys (file_reads_asked (take l.read-index l.reads)) ≡ true
