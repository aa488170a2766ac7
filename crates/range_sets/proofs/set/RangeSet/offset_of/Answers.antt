use Rattle.std.proofs.Common.{List, ap, ◌∙◌}
use Rattle.nvm_base.specs.declared.units.Span.{Span}
use Rattle.range_sets.specs.Ranges.{offset_of}
use Rattle.range_sets.proofs.PlaceLemmas.{offset_is_none, offset_leads_back}
use Rattle.range_sets.proofs.set.RangeSet.offset_of.Goals as goal

pub returns-clause-none : goal.returns-clause-none
returns-clause-none c = offset_is_none c.args.self.now c.args.address c.offset_of.result (c.offset_of.ensures ∙ ap (λ (rs : List Span). offset_of rs c.args.address) (c.as_slice.ensures.value ∙ c.self.view_is))

pub returns-clause-inverse : goal.returns-clause-inverse
returns-clause-inverse c = offset_leads_back c.args.self.now c.args.address c.offset_of.result (c.offset_of.ensures ∙ ap (λ (rs : List Span). offset_of rs c.args.address) (c.as_slice.ensures.value ∙ c.self.view_is))
