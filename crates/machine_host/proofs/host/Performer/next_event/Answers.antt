use Rattle.std.proofs.Common.{◌≡◌, ◌∙◌, Some, None, option_map, is_some, sym, ap, subst}
use Rattle.nvm_base.specs.Stock.{Stock}
use Rattle.nvm_model.specs.Storage.{Event}
use Rattle.error_events.specs.Events.{event_of}
use Rattle.reply_text.specs.Answer.{answer_of}
use Rattle.script_text.specs.Action.Action.{NextEvent}
use Rattle.machine_model.specs.OnEvents.{told_event}
use Rattle.machine_host.specs.Responding.{Answered}
use Rattle.machine_host.specs.Stands.{HostServes, HostState}
use Rattle.machine_host.proofs.NextEventLemmas.{first_told, next_answered, spare_kept}
use Rattle.machine_host.proofs.RoomLemmas.{telling}
use Rattle.machine_host.proofs.InsideLemmas.{left_of}
use Rattle.machine_host.proofs.host.Performer.next_event.Goals as goal
use Rattle.machine_host.proofs.host.Performer.next_event.Goals.{in-Some, in-None}

pub returns : goal.returns
returns g c =
    let host = left_of c.self.view_is in
    let d = g.D.Lines.state c.args._device.now in
    let e : Stock Event = c.next.new.self in
    let said = c.next.ensures in
    let answer_is : answer_of c.match-next.result ≡ told_event host.files.events.items = elim c.match-next.branch [
      | in-Some w ↦ ap answer_of w.result-is ∙ first_told host.files.events.items (Some (event_of w.in-Some.event)) (ap (option_map event_of) (sym w.in-Some.is) ∙ said.oldest)
      | in-None w ↦ ap answer_of w.result-is ∙ first_told host.files.events.items None (ap (option_map event_of) (sym w.in-None.is) ∙ said.oldest)
    ] in
    let serves = subst (λ k. HostServes k d) (sym c.self.view_is) c.requires.serves in
    let on = ap (λ (k : HostState). k.mode) c.self.view_is ∙ c.requires.on in
    subst (λ a. Answered NextEvent a c.args.self.now (telling e host) d d) (sym answer_is)
    (subst (λ (k : HostState). Answered NextEvent (told_event host.files.events.items) k (telling e host) d d) c.self.view_is
    (next_answered host d e on serves said.rest (spare_kept host.files.events.spare e.spare (is_some c.next.result) said.spare)))
