use Rattle.std.proofs.Common.{arith}
use Rattle.block_device.proofs.AreaLemmas.{meta_within}
use Rattle.block_device.proofs.CheckLemmas.{meta_found, meta_passes}
use Rattle.block_device.proofs.checks.check_meta.Goals as goal

pub first_bad-requires : goal.first_bad-requires
first_bad-requires g c = omega (arith, meta_within c.args.geo, c.meta_lines.ensures.lines, c.requires.lines)

pub returns-in-Some : goal.returns-in-Some
returns-in-Some g c = meta_found (Unit {0}) c.args.geo (g.L.Lines.state c.args.dev.now).medium c.meta_lines.result c.in-Some.line c.meta_lines.ensures.lines c.in-Some.ensures.line

pub returns-in-None : goal.returns-in-None
returns-in-None g c = meta_passes (Unit {0}) tt c.args.geo (g.L.Lines.state c.args.dev.now).medium c.meta_lines.result c.meta_lines.ensures.lines c.in-None.ensures.line
