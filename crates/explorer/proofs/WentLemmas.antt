-- Lines that are performed, one after another, and the state that they lead to.
use Rattle.std.proofs.Common.{◌≡◌, ◌+◌, ◌<◌, ◌≤◌, ℕ, Option, Some, None, List, ◌∷◌, length, drop, get_or, refl, sym, ap, ◌∙◌}
use Rattle.std.proofs.lemmas.List.{drop_all}
use Rattle.line_device.specs.Device.{Device}
use Rattle.script_text.specs.declared.command.Command.{Command}
use Rattle.script_text.specs.Action.{action_of}
use Rattle.cut_places.specs.MachineModel.Machine.{Machine}
use Rattle.cut_places.specs.MachineModel.Commands.{fate}
use Rattle.cut_places.specs.AskedReads.Program.{inputs_of_lines}
use Rattle.cut_places.specs.Outcomes.Finds.{IsReady}
use Rattle.cut_places.specs.Outcomes.Stops.{led_to}
use Rattle.cut_places.proofs.GoingLemmas.{at_line}
use Rattle.machine_host.specs.Settling.{GoesOn}
use Rattle.machine_host.specs.Stands.{HostState, Stands}
use Rattle.explorer.specs.Leading.{led_through}
use Rattle.explorer.specs.Performing.{IsAfter}
use Rattle.explorer.specs.Stopping.{NoneFell}
use Rattle.explorer.proofs.CauseLemmas.{fell_later, none_fell}

-- The lines before this one were performed. So much holds of the state before them and that after them.
pub record Went (lines : List (Option Command)) (first : HostState) (begun : Device) (i : ℕ) (host : HostState) (d : Device) (Told : Machine → Machine → Type 0) : Type 0 where
  pub known : GoesOn host d
  pub counts : NoneFell begun.panel d.panel
  pub comes : (h : Machine) → Stands first begun h → IsReady h
      → (to : Machine) × Stands host d to × IsReady to × (led_through h (inputs_of_lines lines) ≡ led_through to (inputs_of_lines (drop i lines))) × Told h to

pub went_first : (lines : List (Option Command)) (first : HostState) (begun : Device) (Told : Machine → Machine → Type 0) → GoesOn first begun → ((h : Machine) → Told h h)
    → Went lines first begun 0 first begun Told
went_first lines first begun Told known told =
    record { known = known; counts = none_fell begun.panel; comes = λ h stands ready. (h, stands, ready, refl, told h) }

module _ (lines : List (Option Command)) (first : HostState) (begun : Device) (i : ℕ) (host : HostState) (d : Device) (Told : Machine → Machine → Type 0)
    (went : Went lines first begun i host d Told) where
  module _ (line : Option Command) (lt : i < length lines) (is : line ≡ get_or lines i line) (Later : Machine → Machine → Type 0) where
    lines_next : drop i lines ≡ line ∷ drop (i + 1) lines
    lines_next = at_line lines i line lt is

    -- a line without a command
    pub went_past : line ≡ None → ((h to : Machine) → Told h to → Later h to) → Went lines first begun (i + 1) host d Later
    went_past none later = record {
      known = went.known;
      counts = went.counts;
      comes = λ h stands ready.
          let before = went.comes h stands ready in (
            before.0,
            before.1,
            before.2,
            before.3 ∙ ap (λ ls. led_through before.0 (inputs_of_lines ls)) (lines_next ∙ ap (λ l. l ∷ drop (i + 1) lines) none),
            later h before.0 before.4,
          );
    }

    -- a command
    pub went_on : (command : Command) → line ≡ Some command → (next : HostState) (new : Device) (Came : Machine → Type 0) → GoesOn next new → NoneFell d.panel new.panel
        → ((h : Machine) → Stands host d h → IsReady h → Came h × IsAfter h (action_of command) next new)
        → ((h to : Machine) → Told h to → Came to → Later h (led_to to (fate to (action_of command))))
        → Went lines first begun (i + 1) next new Later
    went_on command some next new Came known counts comes later = record {
      known = known;
      counts = fell_later begun.panel d.panel new.panel went.counts counts;
      comes = λ h stands ready.
          let before = went.comes h stands ready in
          let came = comes before.0 before.1 before.2 in (
            led_to before.0 (fate before.0 (action_of command)),
            came.1.stands,
            came.1.ready,
            before.3 ∙ ap (λ ls. led_through before.0 (inputs_of_lines ls)) (lines_next ∙ ap (λ l. l ∷ drop (i + 1) lines) some),
            later h before.0 before.4 came.0,
          );
    }

  -- after the last line
  pub went_last : length lines ≤ i → (h : Machine) → Stands first begun h → IsReady h
      → (to : Machine) × (to ≡ led_through h (inputs_of_lines lines)) × Stands host d to × IsReady to × Told h to
  went_last ends h stands ready =
      let before = went.comes h stands ready in
      (before.0, sym (before.3 ∙ ap (λ ls. led_through before.0 (inputs_of_lines ls)) (drop_all i lines ends)), before.1, before.2, before.4)
