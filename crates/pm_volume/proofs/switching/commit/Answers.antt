use Rattle.std.proofs.Common.{sym, ◌∙◌, subst}
use Rattle.word_log.specs.Area.{IsUsable}
use Rattle.word_log.specs.Changes.{MayCommit}
use Rattle.word_log.specs.Commits.{Commits}
use Rattle.word_log.specs.State.{LogState}
use Rattle.pm_volume.specs.Presence.{word_changes}
use Rattle.pm_volume.proofs.WordLemmas.{changes-taken}
use Rattle.pm_volume.proofs.switching.commit.Goals as goal

pub commit-requires-clause-usable : goal.commit-requires-clause-usable
commit-requires-clause-usable g c = subst (λ (l : LogState). IsUsable l.area (g.L.Lines.state c.args.dev.now)) (sym c.requires.log) c.requires.usable

pub commit-requires-clause-changes : goal.commit-requires-clause-changes
commit-requires-clause-changes g c =
    subst (λ (l : LogState). MayCommit l.area c.as_slice.result.now) (sym c.requires.log)
    (subst (MayCommit _) (sym (c.as_slice.ensures.value ∙ c.word_changes-words.ensures)) (changes-taken c.args.geo c.args.pages.start c.args.pages.len c.args.there c.requires.valid c.requires.some c.requires.within))

pub returns-clause-commits : goal.returns-clause-commits
returns-clause-commits g c =
    let old = g.L.Lines.state c.args.dev.now in
    let new = g.L.Lines.state c.commit.new.dev in
    subst (λ (l : LogState). Commits l.area old new c.commit.result (word_changes c.args.geo c.args.pages.start c.args.pages.len c.args.there)) c.requires.log
    (subst (Commits c.args.log.now.area old new c.commit.result) (c.as_slice.ensures.value ∙ c.word_changes-words.ensures) c.commit.ensures.commits)
