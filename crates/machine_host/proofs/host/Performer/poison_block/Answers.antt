use Rattle.std.proofs.Common.{ap, subst, sym, ◌∙◌}
use Rattle.reply_text.specs.Answer.{answer_of}
use Rattle.script_text.specs.Action.Action.{PoisonBlock}
use Rattle.machine_host.specs.Responding.{Answered}
use Rattle.machine_host.specs.Stands.{HostServes}
use Rattle.machine_host.proofs.CallLemmas.{on_refused-then}
use Rattle.machine_host.proofs.LineLemmas.{poison_block_answered}
use Rattle.machine_host.proofs.InsideLemmas.{left_of}
use Rattle.machine_host.proofs.host.Performer.poison_block.Goals as goal

pub returns : goal.returns
returns g c =
    let host = left_of c.self.view_is in
    let old = g.D.Lines.state c.args.device.now in
    let new = g.D.Lines.state c.poison_block-call.new.dev in
    let said = c.poison_block-call.ensures in
    subst (λ k. Answered (PoisonBlock c.args.block c.args.line) (answer_of c.marked.result) k k old new) c.self.view_is
    (poison_block_answered host old new (subst (λ k. HostServes k old) (sym c.self.view_is) c.requires.serves) (ap (λ k. k.mode) c.self.view_is ∙ c.requires.on) said.panel
    c.args.block c.args.line c.poison_block-call.result (answer_of c.marked.result) said.refused (on_refused-then _ c.poison_block-call.result (λ same. ap g.D.Lines.state same) said.untouched)
    said.ok said.outside said.serves c.marked.ensures)
