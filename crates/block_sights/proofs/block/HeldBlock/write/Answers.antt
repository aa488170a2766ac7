use Rattle.block_sights.proofs.HeldLemmas.{given_part}
use Rattle.block_sights.proofs.block.HeldBlock.write.Goals as goal

pub returns-then-is_among : goal.returns-then-is_among
returns-then-is_among c =
    given_part c.args.at c.args.bytes.now c.args.b c.is_among.result c.args.self.now c.hold.new.self c.if-is_among.true c.is_among.ensures c.hold.ensures
