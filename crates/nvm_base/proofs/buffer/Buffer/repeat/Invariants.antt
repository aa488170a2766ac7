use Rattle.std.proofs.Common.{◌≡◌, ◌+◌, ◌≤◌, ◌++◌, replicate}
use Rattle.nvm_base.proofs.buffer.Buffer.repeat.Given as goal

abbrev pub invariant-loop : goal.invariant-loop
invariant-loop g l = record {
  items : l.self.items ≡ l.fn.self.items ++ replicate l.counter l.item;
  room : l.n ≤ l.self.spare + l.counter;
  spare : l.fn.self.spare ≤ l.self.spare + l.counter;
}
