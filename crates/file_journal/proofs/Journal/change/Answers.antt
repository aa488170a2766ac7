use Rattle.std.proofs.Common.{◌+◌, ◌≤◌, Err, length, refl, rules, ◌∙◌}
use Rattle.word_log.proofs.AnswerLemmas.{is_fault}
use Rattle.file_journal.specs.Changes.{changed_tables}
use Rattle.file_journal.specs.Holds.{Turns}
use Rattle.file_journal.proofs.ChangeLemmas.{at_rest, commit_works, may, turned, usable}
use Rattle.file_journal.proofs.WordLemmas.{change_words_few}
use Rattle.file_journal.proofs.Journal.change.Given as given
use Rattle.file_journal.proofs.Journal.change.Goals as goal
use Rattle.file_journal.proofs.Journal.change.Goals.{After-as_slice}

turn : (g : given.Over) (c : After-as_slice g) → Turns c.args.self.now.geo c.as_slice.result.now c.args.self.now.tables (changed_tables c.args.inode c.args.slot.now c.args.switches.now c.args.self.now.tables)
turn g c = turned _ c.args.self.now c.self.view_is _ c.args.slot.now _ c.requires.can _ (c.as_slice.ensures.value ∙ c.change_words-words.ensures) c.self.invariant.tables c.requires.after

few : (g : given.Over) (c : After-as_slice g) → length c.as_slice.result.now ≤ 5 + length c.args.switches.now
few g c = change_words_few _ _ _ _ _ (c.as_slice.ensures.value ∙ c.change_words-words.ensures)

pub commit-requires-clause-usable : goal.commit-requires-clause-usable
commit-requires-clause-usable g c = usable _ _ c.self.view_is _ c.self.invariant.area c.self.invariant.valid _ c.requires.ready c.requires.good

pub commit-requires-clause-rest : goal.commit-requires-clause-rest
commit-requires-clause-rest g c = at_rest _ _ c.self.view_is _ c.self.invariant.area _ c.requires.ready

pub commit-requires-clause-changes : goal.commit-requires-clause-changes
commit-requires-clause-changes g c = may _ _ c.self.view_is _ c.self.invariant.area _ _ (turn g (goal.at.commit-requires-clause-changes g c).After-as_slice)

pub returns-in_err-commit : goal.returns-in_err-commit
returns-in_err-commit g c =
    let at = (goal.at.returns-in_err-commit g c).After-as_slice in
    record {
      works = commit_works _ _ c.self.view_is _ c.self.invariant.area _ _ (turn g at) _ _ _ _ (Err c.in_err-commit.field-0.0) _ _ _ (is_fault _ _ c.from_residual.ensures.1) (few g at) c.requires.ready c.in_err-commit.ensures.commits (search rules) refl tt tt;
    }

pub returns : goal.returns
returns g c =
    let at = (goal.at.returns g c).After-as_slice in
    record {
      works = commit_works _ _ c.self.view_is _ c.self.invariant.area _ _ (turn g at) _ _ _ _ _ _ _ _ refl (few g at) c.requires.ready c.in_ok-commit.ensures.commits (search rules) refl (search rules) (search rules);
    }
