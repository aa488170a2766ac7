use Rattle.std.proofs.Common.{◌+◌, ◌<◌, ◌≤◌, ◌++◌, replicate, drop}
use Rattle.nvm_base.specs.Data.{data_text}
use Rattle.nvm_base.proofs.AppendLemmas.{Appended}
use Rattle.nvm_base.proofs.printing.print_runs.Given as goal

abbrev pub invariant-loop-next : goal.invariant-loop-next
invariant-loop-next l = record {
  text : Appended (data_text l.bytes) (data_text (replicate l.count l.byte ++ drop l.next-index l.rest)) l.fn.out l.out;
  some : 0 < l.count;
  few : l.count ≤ l.next-index + 1;
}
