use Rattle.std.proofs.Common.{Bool, inl, refl, sym, subst, ◌+◌, ◌*◌, ◌∙◌, if◌then◌else◌, rules}
use Rattle.page_lines.proofs.OthersLemmas.{others-refl}
use Rattle.word_log.specs.Changes.{commit_calls, commit_persists}
use Rattle.word_log.specs.Held.{IsEither}
use Rattle.nvm_model.specs.Page.{fill}
use Rattle.pm_volume.specs.Calls.{Works}
use Rattle.pm_volume.specs.Costs.{pages_touched}
use Rattle.pm_volume.proofs.FillLemmas.{resting-images, unfilled-holds}
use Rattle.pm_volume.proofs.Volume.fill.Goals as goal

pub returns-then-not-touches_absent-clause-works : goal.returns-then-not-touches_absent-clause-works
returns-then-not-touches_absent-clause-works g c =
    let m = (g.L.Lines.state c.args.dev.now).medium in
    record {
      ok = unfilled-holds c.args.self.now m c.args.span (sym c.touches_absent.ensures ∙ c.if-not-touches_absent.true);
      images = λ pages holds. resting-images c.args.self.now m (IsEither pages (fill c.args.span.start c.args.span.len pages)) c.requires.begun.serves pages holds (inl refl);
      outside = others-refl _ m;
      metadata = search rules;
      serves = c.requires.begun.serves;
      object = (refl, refl, c.requires.begun.quiet);
      runs = search rules;
    }

pub returns-clause-works : goal.returns-clause-works
returns-clause-works g c =
    let count = pages_touched c.args.span.start c.args.span.len in
    subst (λ (b : Bool). Works c.args.self.now c.fill_absent.new.self (g.L.Lines.state c.args.dev.now) (g.L.Lines.state c.fill_absent.new.dev) c.fill_absent.result (fill c.args.span.start c.args.span.len) (λ pages. IsEither pages (fill c.args.span.start c.args.span.len pages)) (if b then 64 * count + commit_calls count else 0) (if b then commit_persists count else 0))
    (sym (sym c.touches_absent.ensures ∙ c.if-not-touches_absent.false)) c.fill_absent.ensures.works
