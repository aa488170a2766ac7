use Rattle.std.proofs.Common.{◌*◌}
use Rattle.line_words.proofs.FrameLemmas.{outside-refl}
use Rattle.pm_volume.proofs.CallLemmas.{changes-done, changes-refused, changes-stopped}
use Rattle.pm_volume.proofs.Volume.discard_hint.Goals as goal

pub returns-in_err-check_discard-clause-changes : goal.returns-in_err-check_discard-clause-changes
returns-in_err-check_discard-clause-changes g c =
    changes-refused g.L.Lines.state c.args.self.now c.args.dev.now c.requires.ready _ c.in_err-check_discard.field-0.0 _ c.from_residual.ensures.1 (λ pages holds. c.in_err-check_discard.ensures.refused) _ _ _ _

pub returns-in_err-check_discard-clause-beside : goal.returns-in_err-check_discard-clause-beside
returns-in_err-check_discard-clause-beside g c = outside-refl _ _

pub returns-in_err-discard_apart-clause-changes : goal.returns-in_err-discard_apart-clause-changes
returns-in_err-discard_apart-clause-changes g c =
    changes-stopped g.L.Lines.state _ c.args.self.now _ c.self.view_is _ _ _ _ (λ _. 11 * c.args.pages.len) (λ _. 5 * c.args.pages.len) c.in_err-discard_apart.field-0.0 _ c.from_residual-in_err-discard_apart.ensures.1 c.in_err-discard_apart.ensures.works

pub returns-clause-changes : goal.returns-clause-changes
returns-clause-changes g c =
    changes-done g.L.Lines.state _ c.args.self.now _ c.self.view_is _ _ _ _ (λ _. 11 * c.args.pages.len) (λ _. 5 * c.args.pages.len) tt _ c.self-2.view_is c.in_ok-discard_apart.ensures.works
