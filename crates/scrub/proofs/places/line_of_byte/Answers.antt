use Rattle.std.proofs.Common.{◌/◌, ◌%◌, ◌+◌, true, arith}
use Rattle.word_tables.specs.Layout.{volume_line}
use Rattle.pm_volume.specs.Object.{volume_place}
use Rattle.scrub.proofs.PlacedLemmas.{at_offset, nowhere_at, placed_below, told_nothing, told_there, volume_located}
use Rattle.scrub.proofs.places.line_of_byte.Goals as goal

pub returns-in_default-clause-refused : goal.returns-in_default-clause-refused
returns-in_default-clause-refused c m pages holds =
    let s = c.args.volume.now in
    told_nothing (volume_place s.geo s.present true) (volume_line s.geo) s.present (volume_located s.geo s.present) m pages holds.there holds.stand s.geo.vpages c.args.offset
    (omega (arith, c.count.ensures.count)) (nowhere_at s c.args.offset c.in_default.ensures.lines)

pub overflow_add-result : goal.overflow_add-result
overflow_add-result c =
    let below = placed_below c.args.volume.now (c.args.offset / 64) _ c.count.ensures.valid c.requires (at_offset c.args.volume.now c.args.offset c.in-Some.first.0 c.in-Some.ensures.lines) in
    omega (arith, below)

pub returns-clause-refused : goal.returns-clause-refused
returns-clause-refused c m pages holds =
    let s = c.args.volume.now in
    told_there (volume_place s.geo s.present true) (volume_line s.geo) s.present (volume_located s.geo s.present) m pages holds.there holds.stand s.geo.vpages c.args.offset
    (c.in-Some.first.0 + c.args.offset % 4096 / 64) _ (omega (arith, c.count.ensures.count)) (at_offset s c.args.offset c.in-Some.first.0 c.in-Some.ensures.lines)
