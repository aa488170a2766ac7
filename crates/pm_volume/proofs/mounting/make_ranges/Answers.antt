use Rattle.std.proofs.Common.{◌+◌, ◌≤◌, ◌<◌, ◌^◌, ℕ, List, length, slice_index_or, sym, subst}
use Rattle.std.specs.List.{sum_by}
use Rattle.nvm_base.specs.declared.units.Span.{Span}
use Rattle.range_sets.specs.declared.set.RangeFault.{RangeFault}
use Rattle.range_sets.specs.declared.set.RangeFault.TheVariants.{Empty, Overlap}
use Rattle.range_sets.specs.Faults.{IsRangeCause}
use Rattle.pm_volume.proofs.RangeLemmas.{ranges_in_reach, ranges_total, no_empty, no_overlap}
use Rattle.pm_volume.proofs.mounting.make_ranges.Goals as goal

pub make-requires-clause-ends : goal.make-requires-clause-ends
make-requires-clause-ends c =
    subst (λ (rs : List Span). (k : ℕ) → (d : Span) → k < length rs → (slice_index_or rs k d).start + (slice_index_or rs k d).len ≤ 2 ^ 40) (sym c.volume_ranges.ensures)
    (ranges_in_reach c.args.geo c.requires)

pub make-requires-clause-total : goal.make-requires-clause-total
make-requires-clause-total c =
    subst (λ (rs : List Span). sum_by (λ (r : Span). r.len) rs ≤ 1099511627776) (sym c.volume_ranges.ensures) (ranges_total c.args.geo c.requires)

pub unreachable-requires : goal.unreachable-requires
unreachable-requires c =
    let cause = c.in-Err-Empty.ensures.err in
    no_empty c.args.geo c.requires c.in-Err-Empty.field-0-0
    (subst (λ (rs : List Span). IsRangeCause rs (Empty c.in-Err-Empty.field-0-0)) c.volume_ranges.ensures
    (subst (λ (f : RangeFault). IsRangeCause c.volume_ranges.result f) c.in-Err-Empty.field-0-is cause))

pub unreachable-requires-in-Err-Overlap : goal.unreachable-requires-in-Err-Overlap
unreachable-requires-in-Err-Overlap c =
    let cause = c.in-Err-Overlap.ensures.err in
    no_overlap c.args.geo c.requires c.in-Err-Overlap.field-0-0
    (subst (λ (rs : List Span). IsRangeCause rs (Overlap c.in-Err-Overlap.field-0-0)) c.volume_ranges.ensures
    (subst (λ (f : RangeFault). IsRangeCause c.volume_ranges.result f) c.in-Err-Overlap.field-0-is cause))
