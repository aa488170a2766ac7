use Rattle.std.proofs.Common.{◌≡◌, ◌++◌, flat_map, take}
use Rattle.cut_places.specs.AskedReads.Reads.{file_reads_asked}
use Rattle.witnesses.specs.Files.{read_kept}
use Rattle.witnesses.proofs.file_keeping.keep_reads.Given as goal

abbrev pub invariant-loop-read : goal.invariant-loop-read
invariant-loop-read l = l.kept.items ≡ l.fn.kept.items ++ flat_map (read_kept (file_reads_asked l.reads) l.now l.made l.left) (file_reads_asked (take l.read-index l.looked))
