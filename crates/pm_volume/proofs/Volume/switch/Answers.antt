use Rattle.std.proofs.Common.{refl, sym, ap, length, ◌∙◌}
use Rattle.nvm_model.proofs.NumberedLemmas.{length-map_from}
use Rattle.word_log.specs.State.{LogState}
use Rattle.word_log.proofs.AnswerLemmas.{is_fault}
use Rattle.pm_volume.proofs.SwitchLemmas.{switch_usable, switches}
use Rattle.pm_volume.proofs.Volume.switch.Goals as goal

pub invariant_of-self-2 : goal.invariant_of-self-2
invariant_of-self-2 g c = record {
  valid = c.self.invariant.valid;
  area = ap (λ (l : LogState). l.area) c.in_ok-commit.ensures.log ∙ c.self.invariant.area;
  ranges = c.self.invariant.ranges;
  all = ap length c.mark.ensures ∙ length-map_from _ 0 c.self.inside.present.items ∙ c.self.invariant.all;
  quiet = λ _. ap (λ (l : LogState). l.settled) c.in_ok-commit.ensures.log;
}

pub commit-requires-clause-usable : goal.commit-requires-clause-usable
commit-requires-clause-usable g c = switch_usable _ c.args.self.now c.self.view_is (g.L.Lines.state c.args.dev.now) c.requires.begun c.requires.good

pub returns-in_err-commit : goal.returns-in_err-commit
returns-in_err-commit g c = record {
  switches = switches _ c.args.self.now c.self.view_is (g.L.Lines.state c.args.dev.now) c.requires.begun (g.L.Lines.state c.commit.new.dev) _ c.args.pages c.args.there c.in_err-commit.ensures.commits
      _ _ (sym (is_fault c.from_residual.result c.in_err-commit.field-0.0 c.from_residual.ensures.1)) refl refl (ap (λ (l : LogState). l.settled) c.in_err-commit.ensures.log) tt;
}

pub returns : goal.returns
returns g c = record {
  switches = switches _ c.args.self.now c.self.view_is (g.L.Lines.state c.args.dev.now) c.requires.begun (g.L.Lines.state c.commit.new.dev) _ c.args.pages c.args.there c.in_ok-commit.ensures.commits
      _ _ refl refl refl (ap (λ (l : LogState). l.settled) c.in_ok-commit.ensures.log) c.mark.ensures;
}
