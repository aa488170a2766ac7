use Rattle.std.proofs.Common.{◌≡◌, drop, take}
use Rattle.append_log.proofs.records.record_in.Given as goal

abbrev pub invariant-loop-byte : goal.invariant-loop-byte
invariant-loop-byte l = l.record.items ≡ take l.byte-index (take l.len (drop 1 l.line))
