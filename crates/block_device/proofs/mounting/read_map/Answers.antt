use Rattle.std.proofs.Common.{length, subst, arith}
use Rattle.std.specs.List.{range_with_len}
use Rattle.std.proofs.lemmas.List.FromFn.{length-range_with_len}
use Rattle.std.proofs.lemmas.List.Quantifiers.{position-Some}
use Rattle.block_map.specs.declared.table.TableFault.{TableFault}
use Rattle.block_map.specs.Cause.{IsCause}
use Rattle.block_map.specs.Wrong.{is_wrong}
use Rattle.block_device.proofs.mounting.read_map.Goals as goal

pub block_word-requires-clause-block : goal.block_word-requires-clause-block
block_word-requires-clause-block c =
    let words = c.args.words.now in
    let first = subst (λ (f : TableFault). IsCause words f) c.in-Err-Bad.field-0-is c.in-Err-Bad.ensures.err in
    let at = position-Some (is_wrong words) (range_with_len 0 (length words)) c.in-Err-Bad.block 0 first in
    omega (arith, at.0, length-range_with_len 0 (length words))
