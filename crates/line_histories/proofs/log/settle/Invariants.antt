use Rattle.std.proofs.Common.{◌≡◌, ◌<◌, ℕ, length, get_or, take}
use Rattle.line_device.specs.History.{newest}
use Rattle.line_histories.specs.Log.{history}
use Rattle.line_histories.proofs.log.settle.Given as goal

abbrev pub invariant-loop-stored : goal.invariant-loop-stored
invariant-loop-stored l = record {
  eight : length l.durable ≡ 8;
  words : (w : ℕ) → w < 8 → get_or l.durable w 0 ≡ newest (history l.initial.durable (take l.stored-index l.log) w);
}
