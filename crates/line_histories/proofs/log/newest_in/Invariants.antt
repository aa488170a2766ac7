use Rattle.std.proofs.Common.{◌≡◌, ◌∷◌, take}
use Rattle.line_device.specs.History.{newest}
use Rattle.line_histories.specs.Log.{history_in}
use Rattle.line_histories.proofs.log.newest_in.Given as goal

abbrev pub invariant-loop-stored : goal.invariant-loop-stored
invariant-loop-stored l = l.newest ≡ newest (l.durable ∷ history_in (take l.stored-index l.log) l.w)
