use Rattle.std.proofs.Common.{◌≡◌, ◌++◌, take}
use Rattle.std.specs.List.{AllByRecursion, flat_map}
use Rattle.image_file.specs.Text.{IsImageLine, line_text}
use Rattle.image_file.proofs.writing.write_lines.Given as goal

abbrev pub invariant-loop-line : goal.invariant-loop-line
invariant-loop-line l = record {
  text : l.out.items ≡ l.fn.out.items ++ flat_map line_text (take l.line-index l.lines);
  whole : AllByRecursion IsImageLine (take l.line-index l.lines);
}
