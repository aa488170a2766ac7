use Rattle.std.proofs.Common.{◌≡◌, ◌-◌, ℕ, List, Bool, false, set, subst, sym, ap, ◌∙◌, arith}
use Rattle.free_pool.specs.Units.{IsFree}
use Rattle.free_pool.specs.Sparse.{pool_of}
use Rattle.free_pool.proofs.SparseLemmas.{place_of_free, moved_taken, kept_taken}
use Rattle.free_pool.proofs.pool.Pool.mark.Goals as goal

-- the unit is free by the fields
free_inside : (pool : List Bool) (places : List ℕ) (free unit : ℕ) → pool_of places free ≡ pool → IsFree pool unit → IsFree (pool_of places free) unit
free_inside pool places free unit is is_free = subst (λ (p : List Bool). IsFree p unit) (sym is) is_free

pub overflow_sub-last : goal.overflow_sub-last
overflow_sub-last c =
    let p = c.self.inside in
    omega (arith, place_of_free p.places.items p.free c.args.unit (free_inside _ _ _ _ c.self.view_is c.requires))

pub move_to-requires-clause-unit : goal.move_to-requires-clause-unit
move_to-requires-clause-unit c =
    let p = c.self.inside in
    (place_of_free p.places.items p.free c.args.unit (free_inside _ _ _ _ c.self.view_is c.requires)).0

pub invariant_of-self : goal.invariant_of-self
invariant_of-self c =
    let p = c.self.inside in
    let is_free = free_inside _ _ _ _ c.self.view_is c.requires in
    kept_taken c.move_to.new.order.items c.move_to.new.places.items _ p.free c.args.unit c.move_to.ensures.index c.self.invariant.count is_free
    (ap (λ (places : List ℕ). pool_of places (p.free - 1)) c.move_to.ensures.places ∙ moved_taken p.order.items p.places.items p.free c.self.invariant c.args.unit is_free)

pub returns : goal.returns
returns c =
    let p = c.self.inside in
    let is_free = free_inside _ _ _ _ c.self.view_is c.requires in
    ap (λ (places : List ℕ). pool_of places (p.free - 1)) c.move_to.ensures.places
    ∙ moved_taken p.order.items p.places.items p.free c.self.invariant c.args.unit is_free
    ∙ ap (λ (pool : List Bool). set pool c.args.unit false) c.self.view_is
