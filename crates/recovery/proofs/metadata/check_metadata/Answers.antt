use Rattle.std.proofs.Common.{arith}
use Rattle.block_device.proofs.AreaLemmas.{meta_within}
use Rattle.recovery.proofs.metadata.check_metadata.Goals as goal

pub first_bad-requires : goal.first_bad-requires
first_bad-requires g c = omega (arith, meta_within c.args.geo, c.requires.lines, c.meta_lines-lines.ensures.lines)

pub first_weak-requires : goal.first_weak-requires
first_weak-requires g c = omega (arith, meta_within c.args.geo, c.requires.lines, c.meta_lines-lines.ensures.lines)

pub overflow_mul-result : goal.overflow_mul-result
overflow_mul-result g c =
    omega (arith, meta_within c.args.geo, c.requires.lines, c.meta_lines-lines.ensures.lines, c.in-Some-first_weak.ensures.within, (g.met.L.Lines.sound c.args.dev.now).small)
