use Rattle.std.proofs.Common.{refl, arith}
use Rattle.block_map.proofs.WrongLemmas.{first_is, first_is_none}
use Rattle.block_map.proofs.SeenLemmas.{wrong_from_marks}
use Rattle.block_map.proofs.table.check.Goals as goal

pub returns-then-not-claim-clause-err : goal.returns-then-not-claim-clause-err
returns-then-not-claim-clause-err c = first_is c.args.words.now c.loop-i.i (omega arith) c.loop-i.invariant.right (wrong_from_marks c.args.words.now c.loop-i.i c.loop-i.seen.items _ c.loop-i.invariant refl c.if-not-claim.ensures.right)

pub returns-clause-ok : goal.returns-clause-ok
returns-clause-ok c = first_is_none c.args.words.now c.loop-i.i (omega arith) c.loop-i.invariant.right
