use Rattle.raw_lines.proofs.KeptLemmas.{kept_new}
use Rattle.raw_lines.proofs.region.Region.new.Goals as goal

pub invariant_of-result : goal.invariant_of-result
invariant_of-result c =
    kept_new c.in_ok-room.room c.in_ok-held.held.items c.in_ok-room.lease c.args.alloc c.args.n (c.in_ok-held.ensures.items_if_clones_equal (λ y e. e)) c.in_ok-room.ensures
