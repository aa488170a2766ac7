use Rattle.std.proofs.Common.{refl, sym, ◌∙◌, arith}
use Rattle.scrub.proofs.UnitLemmas.{block_bad, block_bad-none, block_on_device}
use Rattle.scrub.proofs.counting.count_in_block.Goals as goal

pub count_among-requires : goal.count_among-requires
count_among-requires g c =
    block_on_device c.args.blocks.now (g.L.Lines.state c.args.dev.now).medium c.args.block c.in-Some.ensures.line.0 c.in-Some.line.0 c.requires.serves c.in-Some.ensures.line.1 c.in-Some.ensures.line.2

pub returns-clause-count : goal.returns-clause-count
returns-clause-count g c =
    c.count_among.ensures.count
    ∙ sym (block_bad c.args.blocks.now (g.L.Lines.state c.args.dev.now).medium c.args.block c.in-Some.ensures.line.0 c.in-Some.line.0 c.in-Some.ensures.line.1 c.in-Some.ensures.line.2)

pub returns-in_default-clause-count : goal.returns-in_default-clause-count
returns-in_default-clause-count g c =
    sym (block_bad-none c.args.blocks.now (g.L.Lines.state c.args.dev.now).medium c.args.block (omega (arith, c.requires.serves.all, c.requires.block)) (c.in_default.ensures.none.0 refl))
