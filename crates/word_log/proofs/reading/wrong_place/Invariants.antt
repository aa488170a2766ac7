use Rattle.std.proofs.Common.{◌≡◌, [], take, drop}
use Rattle.word_log.specs.Area.{entry_place}
use Rattle.word_log.specs.Replay.{wrong_entry}
use Rattle.word_log.proofs.reading.wrong_place.Given as goal

abbrev pub invariant-loop-k : goal.invariant-loop-k
invariant-loop-k l =
    wrong_entry l.area (entry_place l.area l.k) (take l.k l.entries) (drop l.k l.entries) ≡ wrong_entry l.area (entry_place l.area 0) [] l.entries
