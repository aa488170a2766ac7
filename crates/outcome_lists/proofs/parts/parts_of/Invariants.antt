use Rattle.std.proofs.Common.{◌≡◌, [], take}
use Rattle.outcome_lists.specs.Parts.{AreInOrder, AreParts, parts_of_reads, with_parts}
use Rattle.outcome_lists.proofs.parts.parts_of.Given as goal

abbrev pub invariant-loop-read : goal.invariant-loop-read
invariant-loop-read l = record {
  parts : l.parts.items ≡ with_parts [] (parts_of_reads l.geometry (take l.read-index l.reads));
  taken : AreParts l.geometry l.parts.items;
  order : AreInOrder l.parts.items;
}
