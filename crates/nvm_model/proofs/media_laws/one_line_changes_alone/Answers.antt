use Rattle.nvm_model.proofs.MediaLemmas.{cell_of-changed, cell_of-unchanged, presence_of-change}
use Rattle.nvm_model.proofs.media_laws.one_line_changes_alone.Goals as goal

pub returns-clause-line : goal.returns-clause-line
returns-clause-line c = cell_of-changed

pub returns-clause-others : goal.returns-clause-others
returns-clause-others c = cell_of-unchanged

pub returns-clause-there : goal.returns-clause-there
returns-clause-there c = presence_of-change
