use Rattle.line_words.proofs.FrameLemmas.{outside-refl}
use Rattle.word_log.specs.Changes.{commit_calls, commit_persists}
use Rattle.pm_volume.proofs.CallLemmas.{changes-done, changes-refused, changes-stopped}
use Rattle.pm_volume.proofs.DiscardLemmas.{switch-discards}
use Rattle.pm_volume.proofs.Volume.discard_now.Goals as goal

pub returns-in_err-check_discard-clause-changes : goal.returns-in_err-check_discard-clause-changes
returns-in_err-check_discard-clause-changes g c =
    changes-refused g.L.Lines.state c.args.self.now c.args.dev.now c.requires.ready _ c.in_err-check_discard.field-0.0 _ c.from_residual.ensures.1 (λ pages holds. c.in_err-check_discard.ensures.refused) _ _ _ _

pub returns-in_err-check_discard-clause-beside : goal.returns-in_err-check_discard-clause-beside
returns-in_err-check_discard-clause-beside g c = outside-refl _ _

pub returns-in_err-switch-clause-changes : goal.returns-in_err-switch-clause-changes
returns-in_err-switch-clause-changes g c =
    changes-stopped g.L.Lines.state _ c.args.self.now _ c.self.view_is _ _ _ _ (λ _. commit_calls c.args.pages.len) (λ _. commit_persists c.args.pages.len) c.in_err-switch.field-0.0 _ c.from_residual-in_err-switch.ensures.1
    (switch-discards _ c.args.self.now _ _ _ _ c.args.pages c.self.view_is c.requires.ready.serves c.in_err-switch.ensures.switches)

pub returns-clause-changes : goal.returns-clause-changes
returns-clause-changes g c =
    changes-done g.L.Lines.state _ c.args.self.now _ c.self.view_is _ _ _ _ (λ _. commit_calls c.args.pages.len) (λ _. commit_persists c.args.pages.len) tt _ c.self-2.view_is
    (switch-discards _ c.args.self.now _ _ _ _ c.args.pages c.self.view_is c.requires.ready.serves c.in_ok-switch.ensures.switches)
