use Rattle.std.proofs.Common.{None}
use Rattle.raw_lines.proofs.KeptLemmas.{kept_set}
use Rattle.raw_lines.proofs.region.Region.bare.Goals as goal

pub invariant_of-self : goal.invariant_of-self
invariant_of-self c = let r = c.self.inside in kept_set r.room r.held.items r.lease r.alloc c.self.invariant c.args.i None c.forget.new.self c.forget.ensures
