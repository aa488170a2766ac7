use Rattle.std.proofs.Common.{Some}
use Rattle.raw_lines.proofs.KeptLemmas.{kept_set}
use Rattle.raw_lines.proofs.region.Region.hold.Goals as goal

pub invariant_of-self : goal.invariant_of-self
invariant_of-self c = let r = c.self.inside in kept_set r.room r.held.items r.lease r.alloc c.self.invariant c.args.i (Some c.args.bytes.now) c.write.new.self c.write.ensures
