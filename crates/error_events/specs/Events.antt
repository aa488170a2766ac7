-- Events as the machine has them.
use Rattle.nvm_model.specs.Storage as model
use Rattle.error_events.specs.declared.Event.{Event}

-- an event as the machine has it
abbrev pub event_of : Event → model.Event
event_of event =
    record { file = event.file; offset = event.offset; len = event.len; mapped = event.mapped; live = event.live }
