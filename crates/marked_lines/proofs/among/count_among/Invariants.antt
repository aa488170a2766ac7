use Rattle.std.proofs.Common.{◌≡◌, ◌≤◌, count_by}
use Rattle.std.specs.List.{range_with_len}
use Rattle.marked_lines.specs.Counting.{has_mark}
use Rattle.marked_lines.proofs.among.count_among.Given as goal

abbrev pub invariant-loop-k : goal.invariant-loop-k
invariant-loop-k g l = record {
  count : l.marked ≡ count_by (has_mark l.mark (g.L.Lines.state l.dev).medium) (range_with_len l.first l.k);
  few : l.marked ≤ l.k;
}
