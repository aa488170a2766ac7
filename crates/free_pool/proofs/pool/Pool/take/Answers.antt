use Rattle.std.proofs.Common.{◌≡◌, ◌-◌, ◌<◌, ℕ, List, Bool, false, get_or, set, subst, ap, ◌∙◌, arith}
use Rattle.std.proofs.lemmas.List.{get_or_read}
use Rattle.free_pool.specs.Units.{IsFree}
use Rattle.free_pool.specs.Sparse.{IsPool}
use Rattle.free_pool.proofs.SparseLemmas.{free_within, last_is_free, last_taken, kept_taken}
use Rattle.free_pool.proofs.pool.Pool.take.Goals as goal

-- what was read is the last free unit
last : (order places : List ℕ) (free unit : ℕ) → IsPool order places free → 0 < free → unit ≡ get_or order (free - 1) unit → unit ≡ get_or order (free - 1) 0
last order places free unit kept some read = get_or_read order (free - 1) unit (omega (arith, free_within order places free kept)) read 0

pub index-requires : goal.index-requires
index-requires c =
    let p = c.self.inside in
    omega (arith, free_within p.order.items p.places.items p.free c.self.invariant)

pub invariant_of-self : goal.invariant_of-self
invariant_of-self c =
    let p = c.self.inside in
    let some : 0 < p.free = omega arith in
    let unit = last p.order.items p.places.items p.free c.index.result.now c.self.invariant some c.index.ensures in
    kept_taken p.order.items p.places.items _ p.free c.index.result.now c.self.invariant.index c.self.invariant.count
    (last_is_free p.order.items p.places.items p.free c.self.invariant some c.index.result.now unit)
    (last_taken p.order.items p.places.items p.free c.self.invariant some c.index.result.now unit)

pub returns-clause-was_free : goal.returns-clause-was_free
returns-clause-was_free c =
    let p = c.self.inside in
    let some : 0 < p.free = omega arith in
    let unit = last p.order.items p.places.items p.free c.index.result.now c.self.invariant some c.index.ensures in
    subst (λ (pool : List Bool). IsFree pool c.index.result.now) c.self.view_is (last_is_free p.order.items p.places.items p.free c.self.invariant some c.index.result.now unit)

pub returns-clause-after : goal.returns-clause-after
returns-clause-after c =
    let p = c.self.inside in
    let some : 0 < p.free = omega arith in
    let unit = last p.order.items p.places.items p.free c.index.result.now c.self.invariant some c.index.ensures in
    last_taken p.order.items p.places.items p.free c.self.invariant some c.index.result.now unit ∙ ap (λ (pool : List Bool). set pool c.index.result.now false) c.self.view_is
