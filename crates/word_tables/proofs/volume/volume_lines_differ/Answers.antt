use Rattle.word_tables.proofs.LayoutLemmas.{volume_spread}
use Rattle.word_tables.proofs.volume.volume_lines_differ.Goals as goal

pub returns : goal.returns
returns c = volume_spread c.args.geo
