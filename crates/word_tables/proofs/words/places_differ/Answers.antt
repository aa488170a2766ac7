use Rattle.word_tables.proofs.WordLemmas.{places_apart}
use Rattle.word_tables.proofs.words.places_differ.Goals as goal

pub returns : goal.returns
returns c = places_apart c.args.geo c.requires
