use Rattle.std.proofs.Common.{◌≡◌, true, List, subst, ap, ◌∙◌}
use Rattle.nvm_base.specs.declared.units.Span.{Span}
use Rattle.range_sets.specs.Ranges.{is_disjoint, address_of}
use Rattle.range_sets.proofs.PlaceLemmas.{place_is_none, place_leads_back}
use Rattle.range_sets.proofs.set.RangeSet.place.Goals as goal

pub returns-clause-none : goal.returns-clause-none
returns-clause-none c = place_is_none c.args.self.now c.args.offset c.place.result (c.place.ensures ∙ ap (λ (rs : List Span). address_of rs c.args.offset) (c.as_slice.ensures.value ∙ c.self.view_is))

pub returns-clause-inverse : goal.returns-clause-inverse
returns-clause-inverse c = place_leads_back c.args.self.now c.args.offset c.place.result (subst (λ (rs : List Span). is_disjoint rs ≡ true) c.self.view_is c.self.invariant.0.disjoint) (c.place.ensures ∙ ap (λ (rs : List Span). address_of rs c.args.offset) (c.as_slice.ensures.value ∙ c.self.view_is))
