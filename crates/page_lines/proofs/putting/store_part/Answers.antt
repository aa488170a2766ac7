use Rattle.std.proofs.Common.{◌-◌, ◌∙◌, arith}
use Rattle.page_lines.proofs.PieceLemmas.{piece_size, get_or-stretch}
use Rattle.page_lines.proofs.PutLemmas.{turns-stored, others-store}
use Rattle.page_lines.proofs.putting.store_part.Goals as goal

pub store-requires-clause-some : goal.store-requires-clause-some
store-requires-clause-some g c =
    let size = piece_size c.args.offset c.args.n c.max-start.result c.min-end.result c.args.bytes.now c.requires.some c.max-start.ensures c.min-end.ensures c.requires.touched in
    omega (arith, size.0, size.1)

pub store-requires-clause-fits : goal.store-requires-clause-fits
store-requires-clause-fits g c =
    let size = piece_size c.args.offset c.args.n c.max-start.result c.min-end.result c.args.bytes.now c.requires.some c.max-start.ensures c.min-end.ensures c.requires.touched in
    omega (arith, size.0, size.1)

pub returns-in-Ok-clause-lines : goal.returns-in-Ok-clause-lines
returns-in-Ok-clause-lines g c =
    let size = piece_size c.args.offset c.args.n c.max-start.result c.min-end.result c.args.bytes.now c.requires.some c.max-start.ensures c.min-end.ensures c.requires.touched in
    turns-stored _ _ c.args.line c.args.n c.args.offset c.max-start.result c.args.bytes.now _ c.requires.healthy.1 c.requires.touched c.max-start.ensures (size.0 ∙ c.min-end.ensures)
    (λ k lt. get_or-stretch (c.max-start.result - c.args.offset) _ k c.args.bytes.now lt) c.in-Ok.ensures.lines

pub returns-in-Ok-clause-outside : goal.returns-in-Ok-clause-outside
returns-in-Ok-clause-outside g c = others-store c.store.result _ _ c.args.line _ _ c.store.ensures.lines

pub returns-in-Err-clause-outside : goal.returns-in-Err-clause-outside
returns-in-Err-clause-outside g c = others-store c.store.result _ _ c.args.line _ _ c.store.ensures.lines
