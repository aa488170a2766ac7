use Rattle.std.proofs.Common.{◌≡◌, map, take}
use Rattle.cut_places.specs.AskedReads.Reads.{file_reads_asked}
use Rattle.witnesses.specs.Sizes.{size_read}
use Rattle.witnesses.proofs.size_keeping.keep_sizes.Given as goal

abbrev pub invariant-loop-read : goal.invariant-loop-read
invariant-loop-read l = l.kept.items ≡ map (size_read l.now l.made l.left) (file_reads_asked (take l.read-index l.reads))
