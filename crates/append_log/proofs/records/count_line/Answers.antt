use Rattle.std.proofs.Common.{◌++◌, List, ℕ, ap, replicate, ◌∙◌}
use Rattle.line_device.specs.Word.{word_at}
use Rattle.append_log.proofs.RecordLemmas.{count-spelled}
use Rattle.append_log.proofs.records.count_line.Goals as goal

pub returns-clause-count : goal.returns-clause-count
returns-clause-count c =
    ap (λ (bs : List ℕ). word_at (bs ++ replicate 56 0) 0) (c.copy_from_slice.ensures.after ∙ c.word_bytes.ensures) ∙ count-spelled c.args.count (replicate 56 0) c.ranges.count.fits
