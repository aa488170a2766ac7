-- Other bytes at the place of a handle.
use Rattle.std.proofs.Common.{◌≡◌, ◌∙◌, ℕ, Option, IfSome, IsSome, nat_eq, refl, slice_get, subst, sym}
use Rattle.std.specs.Map.{lookup, values_of}
use Rattle.nvm_model.specs.Mappings.{copy_of}
use Rattle.mappings.specs.Object.{MappingsState}
use Rattle.mappings.proofs.CopyLemmas.{copied-kept, copy-kept, mappings-recopied, recopied-found}
use Rattle.mappings.proofs.Mappings.bytes_mut.Goals as goal

pub unwrap-index-requires : goal.unwrap-index-requires
unwrap-index-requires c =
    let copied = subst (λ (s : MappingsState). IsSome (copy_of c.args.handle s.mappings)) (sym c.self.view_is) c.requires in
    c.get_index_of.ensures.found ∙ copied-kept c.args.handle c.self.inside.maps.entries copied

pub invariant_of-self-lent : goal.invariant_of-self-lent
invariant_of-self-lent c = λ w.
    let found = sym c.get_index_of.ensures.index ∙ c.unwrap-index.ensures in
    rw (recopied-found c.args.handle c.self.inside.next w c.self.inside.maps.entries c.unwrap-index.result c.index_mut.result.now c.self.invariant.rise found c.index_mut.ensures.value)
    (mappings-recopied c.args.handle w c.self.inside.next _ c.self.invariant)

pub returns : goal.returns
returns c =
    let found = sym c.get_index_of.ensures.index ∙ c.unwrap-index.ensures in
    let copied = subst (λ (s : MappingsState). IsSome (copy_of c.args.handle s.mappings)) (sym c.self.view_is) c.requires in
    let kept =
    subst (λ (r : Option ℕ). IfSome r (λ i. slice_get (values_of c.self.inside.maps.entries) i ≡ lookup (nat_eq c.args.handle) c.self.inside.maps.entries)) c.unwrap-index.ensures
    c.get_index_of.ensures.value in (
      (refl, λ w. rw (← c.self.view_is, recopied-found c.args.handle c.self.inside.next w c.self.inside.maps.entries c.unwrap-index.result c.index_mut.result.now c.self.invariant.rise found c.index_mut.ensures.value) refl),
      record {
        writes_back = tt;
        value = rw (← c.self.view_is, c.bytes_mut.ensures.value) (copy-kept c.args.handle c.self.inside.maps.entries c.index_mut.result.now (sym kept ∙ c.index_mut.ensures.value) copied);
      },
    )
