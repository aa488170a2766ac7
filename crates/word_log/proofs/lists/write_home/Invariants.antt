use Rattle.std.proofs.Common.{◌≡◌, ℕ, ◌+◌, ◌<◌, slice_index}
use Rattle.word_log.specs.Area.{entry_place}
use Rattle.word_log.specs.Changes.{changed}
use Rattle.word_log.specs.Replay.{entries}
use Rattle.word_log.specs.Lists.{on_lists}
use Rattle.word_log.proofs.lists.write_home.Given as goal

abbrev pub invariant-loop-k : goal.invariant-loop-k
invariant-loop-k l =
    let image = on_lists l.area l.log l.initial.home in
    (j : ℕ) → j < l.area.home.len → slice_index l.home j ≡ changed (entries image (entry_place l.area 0) l.k) image (l.area.home.start + j)
