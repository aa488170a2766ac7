use Rattle.std.proofs.Common.{◌&&◌, arith}
use Rattle.page_lines.specs.Sought.{is_bad_at, is_sought}
use Rattle.pm_volume.specs.Object.{volume_place}
use Rattle.pm_volume.proofs.PlaceLemmas.{lines_apart}
use Rattle.page_lines.proofs.SearchLemmas.{found_small}
use Rattle.pm_volume.proofs.checks.check_lines.Goals as goal

pub lowest_bad-requires-clause-within : goal.lowest_bad-requires-clause-within
lowest_bad-requires-clause-within g c = omega (arith, c.requires.within, c.requires.valid.most_vpages)

pub lowest_bad-requires-clause-apart : goal.lowest_bad-requires-clause-apart
lowest_bad-requires-clause-apart g c =
    lines_apart c.args.lines.now.geo c.requires.valid c.args.lines.now.present c.args.lines.now.wanted (g.L.Lines.state c.args.dev.now).medium.count c.requires.all c.requires.lines

pub overflow_mul-result : goal.overflow_mul-result
overflow_mul-result g c =
    let small = found_small (λ k. is_sought c.args.which c.args.span k && is_bad_at (g.L.Lines.state c.args.dev.now).medium (volume_place c.args.lines.now.geo c.args.lines.now.present c.args.lines.now.wanted k)) c.args.span.start c.args.span.len c.in-Some.n c.in-Some.ensures in
    omega (arith, small, c.requires.within, c.requires.valid.most_vpages)
