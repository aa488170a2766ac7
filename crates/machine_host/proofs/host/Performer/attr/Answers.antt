use Rattle.std.proofs.Common.{ap, sym, ◌∙◌}
use Rattle.attributes.specs.Attributes.{attribute}
use Rattle.machine_model.specs.OnAttributes.{told_value}
use Rattle.machine_host.proofs.AttributeLemmas.{attr_answered}
use Rattle.machine_host.proofs.host.Performer.attr.Goals as goal

pub returns-in-Some : goal.returns-in-Some
returns-in-Some g c = attr_answered c.args.self.now _ c.args.name.now _ c.requires.serves
    (ap told_value (sym c.in-Some.is ∙ c.value.ensures) ∙ ap (λ h. told_value (attribute c.args.name.now h.geometry h.unit)) c.self.view_is)

pub returns-in-None : goal.returns-in-None
returns-in-None g c = attr_answered c.args.self.now _ c.args.name.now _ c.requires.serves
    (ap told_value (sym c.in-None.is ∙ c.value.ensures) ∙ ap (λ h. told_value (attribute c.args.name.now h.geometry h.unit)) c.self.view_is)
