use Rattle.std.proofs.Common.{◌++◌}
use Rattle.attributes.specs.Attributes.{attribute, block_attributes, file_attributes, mapping_attributes, volume_attributes}
use Rattle.attributes.proofs.AttributeLemmas.{value_in-parts}
use Rattle.attributes.proofs.table.value.Goals as goal

pub returns : goal.returns
unfolding attribute
returns c =
    let geo = c.args.geo in
    let two = block_attributes geo ++ volume_attributes geo in
    let three = two ++ file_attributes geo in
    value_in-parts three (mapping_attributes c.args.unit) c.args.name.now _ _ _
    (value_in-parts two (file_attributes geo) c.args.name.now _ _ _
    (value_in-parts (block_attributes geo) (volume_attributes geo) c.args.name.now _ _ _ c.block_value.ensures c.volume_value.ensures c.or.ensures)
    c.file_value.ensures c.or-2.ensures)
    c.mapping_value.ensures c.or-3.ensures
