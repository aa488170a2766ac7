use Rattle.std.proofs.Common.{◌≡◌, ◌++◌, flat_map}
use Rattle.std.specs.List.{range_with_len}
use Rattle.std.specs.Option.{option_copied}
use Rattle.cut_places.specs.AskedReads.Reads.{file_reads_asked}
use Rattle.witnesses.specs.Files.{line_kept_in, line_there}
use Rattle.witnesses.proofs.file_lines.keep_lines.Given as goal

abbrev pub invariant-loop-k : goal.invariant-loop-k
invariant-loop-k l =
    l.kept.items ≡ l.fn.kept.items
    ++ flat_map (λ n. line_kept_in (file_reads_asked l.reads) l.name n (option_copied l.now) (option_copied l.made) (line_there n (option_copied l.left))) (range_with_len l.lines.start l.k)
