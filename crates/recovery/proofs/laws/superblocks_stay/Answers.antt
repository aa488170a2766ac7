use Rattle.std.proofs.Common.{IsTrue, sym, ◌∙◌}
use Rattle.std.proofs.lemmas.Bool.{false≢true}
use Rattle.recovery.proofs.SuperblockLemmas.{superblock-outside, superblock-beside, superblock-poisoned, superblock-weakens, superblock-restarted, superblock-waits}
use Rattle.recovery.proofs.laws.superblocks_stay.Goals as goal

pub returns-clause-outside : goal.returns-clause-outside
returns-clause-outside c geo inside old new x out =
    superblock-outside geo (λ p. IsTrue (inside p)) old new x (λ p below is. false≢true (sym (out p below) ∙ is))

pub returns-clause-beside : goal.returns-clause-beside
returns-clause-beside c geo lines old new x out = superblock-beside geo (λ n. IsTrue (lines n)) old new x (λ is. false≢true (sym out ∙ is))

pub returns-clause-poisoned : goal.returns-clause-poisoned
returns-clause-poisoned c = superblock-poisoned

pub returns-clause-weakened : goal.returns-clause-weakened
returns-clause-weakened c = superblock-weakens

pub returns-clause-restarted : goal.returns-clause-restarted
returns-clause-restarted c = superblock-restarted

pub returns-clause-waited : goal.returns-clause-waited
returns-clause-waited c = superblock-waits
