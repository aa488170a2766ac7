use Rattle.std.proofs.Common.{◌≡◌, ◌∷◌, take}
use Rattle.line_device.specs.History.{newest}
use Rattle.line_histories.specs.Log.{history_in}
use Rattle.cut_places.proofs.rewriting.newest.Given as goal

abbrev pub invariant-loop-stored : goal.invariant-loop-stored
invariant-loop-stored l = l.value ≡ newest (l.durable ∷ history_in (take l.stored-index l.log) l.w)
