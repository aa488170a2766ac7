-- One more line is kept, if it exists.
use Rattle.std.proofs.Common.{◌+◌, ap, ◌++◌, ◌∙◌}
use Rattle.std.specs.Option.{option_copied}
use Rattle.cut_places.specs.AskedReads.Reads.{file_reads_asked}
use Rattle.witnesses.specs.Files.{line_kept_in, line_there}
use Rattle.witnesses.proofs.TextLemmas.{more_of_range}
use Rattle.witnesses.proofs.file_lines.keep_lines.Goals as goal

pub loop-k-preserved : goal.loop-k-preserved
loop-k-preserved c =
    let n = c.lines_of-lines.result.start + c.loop-k.k in
    more_of_range (λ n. line_kept_in (file_reads_asked c.args.reads.now) c.args.name.now n (option_copied c.args.now) (option_copied c.args.made) (line_there n (option_copied c.args.left)))
    c.lines_of-lines.result.start c.loop-k.k c.args.kept.now.items c.loop-k.kept.items c.keep_if_there.new.kept.items c.loop-k.invariant
    (c.in_ok-keep_if_there.ensures
    ∙ ap (λ o. c.loop-k.kept.items ++ line_kept_in (file_reads_asked c.args.reads.now) c.args.name.now n (option_copied c.args.now) (option_copied c.args.made) o) c.there.ensures)
