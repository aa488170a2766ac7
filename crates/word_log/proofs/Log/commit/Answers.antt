use Rattle.std.proofs.Common.{◌≡◌, Ok, sym, ap, subst}
use Rattle.word_log.specs.Commits.{Commits}
use Rattle.word_log.specs.State.{LogState}
use Rattle.word_log.proofs.AnswerLemmas.{is_fault}
use Rattle.word_log.proofs.Log.commit.Goals as goal

pub returns-in_err-commit_at-clause-commits : goal.returns-in_err-commit_at-clause-commits
returns-in_err-commit_at-clause-commits g c =
    let old = g.L.Lines.state c.args.dev.now in
    let new = g.L.Lines.state c.commit_at.new.dev in
    let changes = c.args.changes.now in
    let area : c.self.inside.area ≡ c.args.self.now.area = ap (λ (s : LogState). s.area) c.self.view_is in
    subst (λ a. Commits a old new c.from_residual.result changes) area
    (subst (λ r. Commits c.self.inside.area old new r changes) (sym (is_fault c.from_residual.result c.in_err-commit_at.field-0.0 c.from_residual.ensures.1)) c.in_err-commit_at.ensures.commits)

pub returns-clause-commits : goal.returns-clause-commits
returns-clause-commits g c =
    let area : c.self.inside.area ≡ c.args.self.now.area = ap (λ (s : LogState). s.area) c.self.view_is in
    subst (λ a. Commits a (g.L.Lines.state c.args.dev.now) (g.L.Lines.state c.commit_at.new.dev) (Ok tt) c.args.changes.now) area c.in_ok-commit_at.ensures.commits
