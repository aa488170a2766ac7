use Rattle.word_tables.proofs.LayoutLemmas.{areas_laid_out}
use Rattle.word_tables.proofs.areas.areas_follow.Goals as goal

pub returns : goal.returns
returns c = areas_laid_out c.args.geo c.requires
