-- What is answered where the oldest event is taken.
use Rattle.std.proofs.Common.{◌≡◌, ◌+◌, ◌≤◌, ◌∙◌, ℕ, Bool, true, false, Option, Some, None, slice_get, if◌then◌else◌, List, [], ◌∷◌, drop, refl, sym, ap, subst, arith}
use Rattle.line_device.specs.Device.{Device}
use Rattle.nvm_base.specs.Stock.{Stock}
use Rattle.nvm_model.specs.Storage.{Event}
use Rattle.reply_text.specs.Answer.{Answer, IsPrintable}
use Rattle.reply_text.specs.Room.{most_of}
use Rattle.script_text.specs.Action.Action.{NextEvent}
use Rattle.machine_model.specs.declared.mode.Mode.TheVariants.{On}
use Rattle.machine_model.specs.Interrupted.{stop_in}
use Rattle.machine_model.specs.Machine.{Machine}
use Rattle.machine_model.specs.Machine.Fate.{Gives}
use Rattle.machine_model.specs.OnEvents.{told_event}
use Rattle.machine_host.specs.Responding.{Answered}
use Rattle.machine_model.specs.Run.{answered}
use Rattle.machine_host.specs.Stands.{Comes, HostServes, HostState}
use Rattle.machine_model.proofs.RefusalLemmas.{fate_usable}
use Rattle.machine_host.proofs.RoomLemmas.{room_still, serves_telling, stands_telling, telling}
use Rattle.machine_host.proofs.TellingLemmas.{tells_nothing}
use Rattle.reply_text.specs.Answer.Answer.{Happened, NoEvent}
use Rattle.line_device.proofs.WriteBackLemmas.{write_back-refl}
use Rattle.machine_host.specs.Keeping.{is_refusal}
use Rattle.machine_host.proofs.KeepLemmas.{keeps_done}

quiet_event : (events : List Event) → stop_in (told_event events) ≡ None
quiet_event [] = refl
quiet_event (event ∷ events) = refl

printable_event : (events : List Event) → IsPrintable (told_event events)
printable_event [] = tt
printable_event (event ∷ events) = tt

short_event : (events : List Event) → most_of (told_event events) ≤ 128
short_event [] = omega arith
short_event (event ∷ events) = omega arith

accepts_event : (events : List Event) → is_refusal (told_event events) ≡ false
accepts_event [] = refl
accepts_event (event ∷ events) = refl

pub next_answered : (now : HostState) (d : Device) (e : Stock Event) → now.mode ≡ On → HostServes now d → e.items ≡ drop 1 now.files.events.items → now.files.events.spare ≤ e.spare
    → Answered NextEvent (told_event now.files.events.items) now (telling e now) d d
next_answered now d e on serves rest spare = record {
  step = λ h stands.
      let same = stands.events on in
      let next : Machine = record h { events = drop 1 h.events } in
      subst (λ f. Comes h NextEvent f (told_event now.files.events.items) (telling e now) d d) (sym (fate_usable h NextEvent refl (sym stands.mode ∙ on) ∙ ap (λ (a : Answer). Gives a next) (ap told_event (sym same)))) (record {
        said = answered (told_event now.files.events.items);
        next = next;
        answers = refl;
        takes = (refl, refl);
        tells = tells_nothing (told_event now.files.events.items) (quiet_event now.files.events.items) d.panel;
        stands = stands_telling now d h e (drop 1 h.events) (rest ∙ ap (drop 1) same) stands;
      });
  keeps = keeps_done (told_event now.files.events.items) NextEvent now (telling e now) d d (accepts_event now.files.events.items) (write_back-refl d.medium);
  printable = printable_event now.files.events.items;
  room = short_event now.files.events.items;
  serves = serves_telling now d e serves (λ on. room_still now.files (record now.files { events = e }) d.medium d.medium (λ files stand. stand) spare (serves.mounted on).room);
}

-- what the first event, if there is one, is answered
pub first_told : (events : List Event) (o : Option Event) → o ≡ slice_get events 0 → elim o [ None ↦ NoEvent | Some event ↦ Happened event ] ≡ told_event events
first_told [] o is = ap (λ (o : Option Event). elim o [ None ↦ NoEvent | Some event ↦ Happened event ]) is
first_told (event ∷ events) o is = ap (λ (o : Option Event). elim o [ None ↦ NoEvent | Some event ↦ Happened event ]) is

-- taking one leaves at least as much room
pub spare_kept : (old new : ℕ) (b : Bool) → new ≡ old + (if b then 1 else 0) → old ≤ new
spare_kept old new true is = omega (arith, is)
spare_kept old new false is = omega (arith, is)
