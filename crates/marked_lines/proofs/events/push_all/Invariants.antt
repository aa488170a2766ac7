use Rattle.std.proofs.Common.{◌≡◌, ◌++◌, ◌+◌, map, take}
use Rattle.nvm_model.specs.Events.{found_event}
use Rattle.marked_lines.proofs.events.push_all.Given as goal

abbrev pub invariant-loop-offset : goal.invariant-loop-offset
invariant-loop-offset l = record {
  items : l.events.items ≡ l.fn.events.items ++ map (found_event l.file) (take l.offset-index l.offsets);
  spare : l.events.spare + l.offset-index ≡ l.fn.events.spare;
}
