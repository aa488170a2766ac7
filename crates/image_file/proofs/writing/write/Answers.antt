use Rattle.std.proofs.Common.{◌∙◌}
use Rattle.image_file.specs.Text.{snapshot_of}
use Rattle.image_file.proofs.TextLemmas.{snapshot_allowed, written}
use Rattle.image_file.proofs.writing.write.Goals as goal

pub returns-clause-text : goal.returns-clause-text
returns-clause-text c =
    written (snapshot_of c.args.image.now) c.reserve.new.self.items c.extend.new.self.items c.write_number.new.out.items c.write_number-2.new.out.items c.write_lines.new.out.items c.len-2.result c.as_slice.result.now
    (c.in_ok-reserve.ensures.items ∙ c.new-out.ensures) c.in_ok-extend.ensures.ok c.in_ok-write_number.ensures c.len-2.ensures c.in_ok-write_number-2.ensures c.as_slice.ensures c.in_ok-write_lines.ensures.text

pub returns-clause-image : goal.returns-clause-image
returns-clause-image c = snapshot_allowed (snapshot_of c.args.image.now) c.as_slice.result.now c.requires.unit c.requires.lines c.as_slice.ensures c.in_ok-write_lines.ensures.whole
