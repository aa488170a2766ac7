use Rattle.std.proofs.Common.{◌≡◌, sym, ◌∙◌, ap}
use Rattle.line_module.specs.Cells.{memory_in}
use Rattle.line_module.specs.Memory.{memory_after_install}
use Rattle.line_device.specs.declared.line.LineState.TheVariants.{Healthy, Weak, Bad}
use Rattle.line_module.proofs.cells.Cells.install.Goals as goal

pub returns-in-Healthy-clause-memory : goal.returns-in-Healthy-clause-memory
returns-in-Healthy-clause-memory c =
    let s = memory_in c.args.self.now in
    let told : memory_in c.renew.new.self ≡ memory_after_install s c.args.line.0 (Healthy c.in-Healthy.bytes) = (λ i. record { medium = c.renew.ensures.medium i; order = c.renew.ensures.order i }) in
    told ∙ sym (ap (memory_after_install s c.args.line.0) c.in-Healthy.is)

pub returns-in_ok-chain-in-Weak-clause-memory : goal.returns-in_ok-chain-in-Weak-clause-memory
returns-in_ok-chain-in-Weak-clause-memory c =
    let s = memory_in c.args.self.now in
    let renew = c.renew-in-Weak in
    let told : memory_in renew.new.self ≡ memory_after_install s c.args.line.0 (Weak c.in-Weak.bytes) = (λ i. record { medium = renew.ensures.medium i; order = renew.ensures.order i }) in
    told ∙ sym (ap (memory_after_install s c.args.line.0) c.in-Weak.is)

pub returns-in-Bad-clause-memory : goal.returns-in-Bad-clause-memory
returns-in-Bad-clause-memory c =
    let s = memory_in c.args.self.now in
    let renew = c.renew-in-Bad in
    let told : memory_in renew.new.self ≡ memory_after_install s c.args.line.0 Bad = (λ i. record { medium = renew.ensures.medium i; order = renew.ensures.order i }) in
    told ∙ sym (ap (memory_after_install s c.args.line.0) c.in-Bad.is)
