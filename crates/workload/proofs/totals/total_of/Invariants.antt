use Rattle.std.proofs.Common.{◌<◌, ◌^◌, ◌==◌, length, drop}
use Rattle.std.specs.List.{slice_split}
use Rattle.nvm_base.specs.Data.{items_of}
use Rattle.workload.proofs.SumLemmas.{Summed}
use Rattle.workload.proofs.totals.total_of.Given as goal

abbrev pub invariant-loop-item : goal.invariant-loop-item
invariant-loop-item l =
    let items = slice_split (λ c. c == 44) l.text in
    record {
      summed : Summed (items_of items) (items_of (drop (length l.yielded) items)) l.total;
      fits : l.total < 2 ^ 64;
    }
