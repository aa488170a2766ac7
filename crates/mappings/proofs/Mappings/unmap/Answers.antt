-- One mapping less, or all as they were.
use Rattle.std.proofs.Common.{◌≡◌, Some, refl}
use Rattle.nvm_model.specs.Mappings.{mapping_of}
use Rattle.mappings.specs.Table.{mapping_under}
use Rattle.mappings.proofs.KeptLemmas.{mappings-without}
use Rattle.mappings.proofs.ListedLemmas.{mapping_of-listed, without-listed}
use Rattle.mappings.proofs.Mappings.unmap.Goals as goal

pub returns-in_default-clause-refused : goal.returns-in_default-clause-refused
returns-in_default-clause-refused c =
    (λ _. rw (← c.self.view_is, mapping_of-listed, ← c.shift_remove.ensures.value, c.in_default.is) refl, λ _. refl)

pub invariant_of-self-2 : goal.invariant_of-self-2
invariant_of-self-2 c =
    rw (c.shift_remove.ensures.entries, without-listed c.args.handle 0 c.self.inside.next c.self.inside.maps.entries c.self.invariant.rise)
    (mappings-without c.args.handle c.self.inside.next _ c.self.invariant)

pub returns-clause-ok : goal.returns-clause-ok
returns-clause-ok c =
    rw (← c.self.view_is, c.shift_remove.ensures.entries, without-listed c.args.handle 0 c.self.inside.next c.self.inside.maps.entries c.self.invariant.rise) refl

pub returns-clause-refused : goal.returns-clause-refused
returns-clause-refused c =
    let found : mapping_of c.args.handle c.args.self.now.mappings ≡ Some (mapping_under c.args.handle c.in-Some._ended) =
    rw (← c.self.view_is, mapping_of-listed, ← c.shift_remove.ensures.value, c.in-Some.is) refl in
    (λ e. cc, λ e. cc)
