use Rattle.std.proofs.Common.{◌≡◌, ◌+◌, ℕ, List, Bool, true, set, subst, sym, ap, ◌∙◌}
use Rattle.free_pool.specs.Units.{IsTaken}
use Rattle.free_pool.specs.Sparse.{pool_of}
use Rattle.free_pool.proofs.SparseLemmas.{place_of_taken, room_to_give, moved_given, kept_given}
use Rattle.free_pool.proofs.pool.Pool.give.Goals as goal

-- the unit is taken by the fields
taken_inside : (pool : List Bool) (places : List ℕ) (free unit : ℕ) → pool_of places free ≡ pool → IsTaken pool unit → IsTaken (pool_of places free) unit
taken_inside pool places free unit is is_taken = subst (λ (p : List Bool). IsTaken p unit) (sym is) is_taken

pub move_to-requires-clause-to : goal.move_to-requires-clause-to
move_to-requires-clause-to c =
    let p = c.self.inside in
    room_to_give p.order.items p.places.items p.free c.self.invariant c.args.unit (taken_inside _ _ _ _ c.self.view_is c.requires)

pub move_to-requires-clause-unit : goal.move_to-requires-clause-unit
move_to-requires-clause-unit c =
    let p = c.self.inside in
    (place_of_taken p.places.items p.free c.args.unit (taken_inside _ _ _ _ c.self.view_is c.requires)).0

pub invariant_of-self : goal.invariant_of-self
invariant_of-self c =
    let p = c.self.inside in
    let is_taken = taken_inside _ _ _ _ c.self.view_is c.requires in
    kept_given c.move_to.new.order.items c.move_to.new.places.items _ p.free c.args.unit c.move_to.ensures.index c.self.invariant.count is_taken
    (ap (λ (places : List ℕ). pool_of places (p.free + 1)) c.move_to.ensures.places ∙ moved_given p.order.items p.places.items p.free c.self.invariant c.args.unit is_taken)

pub returns : goal.returns
returns c =
    let p = c.self.inside in
    let is_taken = taken_inside _ _ _ _ c.self.view_is c.requires in
    ap (λ (places : List ℕ). pool_of places (p.free + 1)) c.move_to.ensures.places
    ∙ moved_given p.order.items p.places.items p.free c.self.invariant c.args.unit is_taken
    ∙ ap (λ (pool : List Bool). set pool c.args.unit true) c.self.view_is
