-- The ranges end where addresses do, or before.
use Rattle.std.proofs.Common.{slice_index_or, sym, subst, List, arith}
use Rattle.nvm_base.specs.declared.units.Span.{Span}
use Rattle.range_sets.specs.Ranges.{IsInReach}
use Rattle.pm_volume.proofs.RangeLemmas.{ranges_in_reach}
use Rattle.sights.proofs.addresses.physical_offset.Goals as goal

pub offset_in-requires-clause-first : goal.offset_in-requires-clause-first
offset_in-requires-clause-first c =
    subst (λ (ranges : List Span). IsInReach (slice_index_or ranges 0 (record { start = 0; len = 0 }))) (sym c.volume_ranges.ensures)
    (ranges_in_reach c.args.geometry c.requires.valid 0 (record { start = 0; len = 0 }) (omega arith))

pub offset_in-requires-clause-second : goal.offset_in-requires-clause-second
offset_in-requires-clause-second c =
    subst (λ (ranges : List Span). IsInReach (slice_index_or ranges 1 (record { start = 0; len = 0 }))) (sym c.volume_ranges.ensures)
    (ranges_in_reach c.args.geometry c.requires.valid 1 (record { start = 0; len = 0 }) (omega arith))
