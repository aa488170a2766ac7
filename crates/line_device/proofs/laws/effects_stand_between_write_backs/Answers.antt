use Rattle.line_device.specs.Medium.{stored, persisted, cleared, poisoned}
use Rattle.line_device.proofs.WriteBackLemmas.{is_between_write_backs, write_back-stored, write_back-persisted, write_back-cleared, write_back-poisoned}
use Rattle.line_device.proofs.laws.effects_stand_between_write_backs.Goals as goal

pub returns-clause-stored : goal.returns-clause-stored
returns-clause-stored c line at bytes = is_between_write_backs (λ m. stored m line at bytes) (write_back-stored line at bytes)

pub returns-clause-persisted : goal.returns-clause-persisted
returns-clause-persisted c line = is_between_write_backs (λ m. persisted m line) (write_back-persisted line)

pub returns-clause-cleared : goal.returns-clause-cleared
returns-clause-cleared c line = is_between_write_backs (λ m. cleared m line) (write_back-cleared line)

pub returns-clause-poisoned : goal.returns-clause-poisoned
returns-clause-poisoned c line = is_between_write_backs (λ m. poisoned m line) (write_back-poisoned line)
