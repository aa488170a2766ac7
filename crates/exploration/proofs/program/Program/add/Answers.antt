use Rattle.std.proofs.Common.{◌≡◌, ◌&&◌, not, ap, sym, ◌∙◌, refl, rules}
use Rattle.std.specs.Prelude.{is_some}
use Rattle.exploration.proofs.ProgramLemmas.{held-add}
use Rattle.exploration.proofs.program.Program.add.Goals.{else-self, else-self-2, then-self, then-self-2}
use Rattle.exploration.proofs.program.Program.add.Goals as goal

pub returns-clause-line : goal.returns-clause-line
returns-clause-line c = λ before is.
    let old = c.args.self.now in
    let some = is_some c.args.command in
    let flag : c.if-self.push ≡ (old.marks && some) = elim c.if-self.branch [
      | then-self w ↦ w.push-is ∙ c.is_some-is_command.ensures ∙ sym (ap (λ b. b && some) w.if-self.true)
      | else-self w ↦ w.push-is ∙ w.if-self.false ∙ sym (ap (λ b. b && some) w.if-self.false)
    ] in
    let marks : c.if-self-2.self ≡ (old.marks && not some) = elim c.if-self-2.branch [
      | then-self-2 w ↦ w.self-is ∙ ap not c.is_some-is_command.ensures ∙ sym (ap (λ b. b && not some) w.if-self-2.true)
      | else-self-2 w ↦ w.self-is ∙ w.if-self-2.false ∙ sym (ap (λ b. b && not some) w.if-self-2.false)
    ] in
    held-add before old _ c.args.command _ _ is c.requires refl c.push-2.ensures.items (search rules) (rw flag at c.push.ensures.items) (search rules) marks
