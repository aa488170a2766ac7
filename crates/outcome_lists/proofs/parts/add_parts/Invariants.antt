use Rattle.std.proofs.Common.{◌≡◌, ◌+◌, ◌-◌, ◌≤◌, map}
use Rattle.std.specs.List.{range_with_len}
use Rattle.outcome_lists.specs.Parts.{AreInOrder, AreParts, part, reach, with_parts}
use Rattle.outcome_lists.proofs.parts.add_parts.Given as goal

abbrev pub invariant-loop-n : goal.invariant-loop-n
invariant-loop-n l = record {
  ordered : l.initial.n ≤ l.n;
  begins : l.initial.n ≡ (reach l.read).start;
  ends : l.n-end ≡ (reach l.read).start + (reach l.read).len;
  parts : l.parts.items ≡ with_parts l.fn.parts.items (map (part l.read) (range_with_len (reach l.read).start (l.n - (reach l.read).start)));
  taken : AreParts l.geometry l.fn.parts.items → AreParts l.geometry l.parts.items;
  order : AreInOrder l.fn.parts.items → AreInOrder l.parts.items;
}
