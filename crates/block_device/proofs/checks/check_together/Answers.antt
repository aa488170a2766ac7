use Rattle.std.proofs.Common.{length, sum_by, Err, arith}
use Rattle.nvm_base.specs.declared.units.Span.{Span}
use Rattle.range_sets.specs.Ranges.{is_disjoint}
use Rattle.range_sets.proofs.DisjointLemmas.{overlap_not_disjoint}
use Rattle.block_device.specs.declared.fault.BlockFault.TheVariants as fault
use Rattle.block_device.specs.Refusals.{spans_refusal}
use Rattle.block_device.proofs.CheckLemmas.{ranges_of_passed, checks_second, overlap_found}
use Rattle.block_device.proofs.checks.check_together.Goals as goal

pub total_of-requires : goal.total_of-requires
total_of-requires c =
    let ranges = ranges_of_passed c.args.count c.args.spans.now c.in_ok-check_spans.field-0 c.requires c.in_ok-check_spans.ensures in
    omega (arith, ranges.total)

pub returns-in-Some : goal.returns-in-Some
returns-in-Some c =
    let spans = c.args.spans.now in
    checks_second (spans_refusal c.args.count spans) _ c.in_ok-check_spans.field-0 (Err fault.Overlap) c.in_ok-check_spans.ensures
    (overlap_found (Unit {0}) (sum_by (λ (s : Span). s.len) spans) (length spans) (is_disjoint spans) (omega arith) (omega arith)
    (overlap_not_disjoint spans c.in-Some.field-0 c.in-Some.ensures))
