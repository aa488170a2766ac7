use Rattle.image_file.proofs.FirstLemmas.{fields_joined, wrong_is_first}
use Rattle.image_file.proofs.laws.first_wrong_fields_are_told.Goals as goal

pub returns-clause-fields : goal.returns-clause-fields
returns-clause-fields c = fields_joined

pub returns-clause-first : goal.returns-clause-first
returns-clause-first c = wrong_is_first
