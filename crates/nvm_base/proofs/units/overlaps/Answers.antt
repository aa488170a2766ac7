use Rattle.std.proofs.Common.{rules, tests}
use Rattle.nvm_base.proofs.UnitLemmas.{SharesByte-after, starts_below}
use Rattle.nvm_base.proofs.units.overlaps.Goals as goal

pub returns-then-a-b-clause-shared : goal.returns-then-a-b-clause-shared
returns-then-a-b-clause-shared c = (
  λ t. SharesByte-after _ _ c.requires.some.0 c.requires.some.1 c.if-a-b.true (search (rules, tests)),
  λ s. let below = (starts_below _ _ s).1 in search (rules, tests),
)
