use Rattle.std.proofs.Common.{ℕ, List, ◌∙◌, ap}
use Rattle.free_pool.specs.Sparse.{pool_of}
use Rattle.free_pool.proofs.SparseLemmas.{range_kept, all_free}
use Rattle.free_pool.proofs.pool.Pool.new.Goals as goal

pub invariant_of-result : goal.invariant_of-result
invariant_of-result c = rw (c.in_ok-order.ensures, c.in_ok-places.ensures) (range_kept c.args.units)

pub returns : goal.returns
returns c = ap (λ (places : List ℕ). pool_of places c.args.units) c.in_ok-places.ensures ∙ all_free c.args.units
