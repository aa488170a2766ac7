use Rattle.std.proofs.Common.{refl, ◌∙◌, ap, sym, arith}
use Rattle.nvm_model.specs.Mappings.{is_mapped}
use Rattle.script_text.specs.Action.Action.{Delete}
use Rattle.machine_host.specs.Stands.{HostState}
use Rattle.machine_host.proofs.MappedFateLemmas.{mapped_answered}
use Rattle.machine_host.proofs.host.Performer.delete.Goals as goal

pub returns-then-has : goal.returns-then-has
returns-then-has g c =
    mapped_answered c.args.self.now _ c.requires.on c.requires.serves c.args.name.now
    (ap (λ (k : HostState). is_mapped c.args.name.now k.files.mappings.mappings) (sym c.self.view_is) ∙ sym c.has.ensures ∙ c.if-has.true)
    (Delete c.args.name.now) refl (omega arith) (λ h. refl)
