use Rattle.std.proofs.Common.{◌≡◌, ◌-◌, ◌≤◌, length}
use Rattle.std.specs.Vec.{vec_len}
use Rattle.std.specs.Io.KnownBytes.{Consumes}
use Rattle.explore_program.proofs.reading.read_all.Given as goal

abbrev pub invariant-loop-script : goal.invariant-loop-script
invariant-loop-script g l = record {
  read : Consumes (g.T.Source.left l.initial.script) (g.T.Source.left l.script) l.text.items;
  later : g.T.Source.count l.initial.script ≤ g.T.Source.count l.script;
  size : vec_len l.piece ≡ 65536;
}

abbrev pub decreases-loop-script : goal.decreases-loop-script
decreases-loop-script g l = 1073741824 - length l.text.items
