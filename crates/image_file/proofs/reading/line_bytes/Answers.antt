use Rattle.image_file.proofs.LineLemmas.{front_taken}
use Rattle.image_file.proofs.reading.line_bytes.Goals as goal

pub returns : goal.returns
returns c = front_taken c.args.bytes.now c.split_first_chunk.result c.split_first_chunk.ensures.cases
