use Rattle.std.proofs.Common.{◌≡◌, Some, subst}
use Rattle.volume_view.specs.Shown.{line_shown}
use Rattle.volume_view.proofs.ShownLemmas.{shown_as-is, shown_as-shown}
use Rattle.volume_view.proofs.FrameLemmas.{shown_as-inside, shown_as-outside}
use Rattle.volume_view.proofs.laws.each_line_is_shown_once.Goals as goal

pub returns-clause-once : goal.returns-clause-once
returns-clause-once c ranges count n line lent =
    (λ is. shown_as-is ranges count n line lent is, λ is. subst (λ k. line_shown ranges k ≡ Some line) is (shown_as-shown ranges count line lent))

pub returns-clause-inside : goal.returns-clause-inside
returns-clause-inside c = shown_as-inside

pub returns-clause-outside : goal.returns-clause-outside
returns-clause-outside c = shown_as-outside
