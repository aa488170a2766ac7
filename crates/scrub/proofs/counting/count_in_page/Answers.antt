use Rattle.std.proofs.Common.{◌+◌, ◌*◌, refl, sym, ◌∙◌, arith}
use Rattle.scrub.proofs.PageCountLemmas.{page_bad, page_bad-none}
use Rattle.scrub.proofs.PlacedLemmas.{on_device}
use Rattle.scrub.proofs.counting.count_in_page.Goals as goal

pub count_among-requires : goal.count_among-requires
count_among-requires g c =
    let last = on_device c.args.volume.now (g.L.Lines.state c.args.dev.now).medium (64 * c.args.page + 63) (c.in-Some.line.0 + 63) c.requires.serves (c.in-Some.ensures.lines 63 (omega arith)) in
    omega (arith, last)

pub returns-clause-count : goal.returns-clause-count
returns-clause-count g c pages holds =
    c.count_among.ensures.count
    ∙ sym (page_bad c.args.volume.now (g.L.Lines.state c.args.dev.now).medium pages c.args.page c.in-Some.line.0 holds c.in-Some.ensures.lines)

pub returns-in_default-clause-count : goal.returns-in_default-clause-count
returns-in_default-clause-count g c pages holds =
    sym (page_bad-none c.args.volume.now (g.L.Lines.state c.args.dev.now).medium pages c.args.page holds (c.in_default.ensures.none.0 refl))
