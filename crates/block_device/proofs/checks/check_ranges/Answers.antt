use Rattle.std.proofs.Common.{sym, ◌∙◌, arith}
use Rattle.block_device.proofs.ApartLemmas.{many_ranges}
use Rattle.block_device.proofs.checks.check_ranges.Goals as goal

pub returns-then-ranges-gt-MOST_SPANS : goal.returns-then-ranges-gt-MOST_SPANS
returns-then-ranges-gt-MOST_SPANS c =
    many_ranges _ c.args.count c.args.ranges.now (sym c.is_range_past.ensures ∙ c.if-is_range_past.false) (sym c.is_range_part.ensures ∙ c.if-is_range_part.false) (omega arith)
