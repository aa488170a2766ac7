use Rattle.std.proofs.Common.{◌^◌, ◌<◌, rules}
use Rattle.error_events.specs.Events.{event_of}
use Rattle.reply_text.proofs.EventTextLemmas.{length-event_text}
use Rattle.reply_text.proofs.FileTextLemmas.{name-short}
use Rattle.reply_text.proofs.events.know_event.Goals as goal

pub returns : goal.returns
returns c =
    let event = c.args.event.now in
    let offset : event.offset < 2 ^ 64 = search rules in
    let len : event.len < 2 ^ 64 = search rules in
    length-event_text (event_of event) (name-short event.file c.bytes-file.ensures.name) offset len
