-- What a program may find after a power cut: what its runs show, and the test that tells it.
use Rattle.std.specs.Prelude.{◌≡◌, ℕ, Bool, true, false, List, [], ◌∷◌, ◌++◌, None}
use Rattle.std.specs.List.{list_any}
use Rattle.line_device.specs.declared.line.Choice.{Choice}
use Rattle.script_text.specs.Action.Action.{Cut, Restart}
use Rattle.script_text.specs.Script.{Input}
use Rattle.script_text.specs.Script.Input.{Asked}
use Rattle.reply_text.specs.Answer.Answer.{DoneBad}
use Rattle.machine_model.specs.declared.mode.Mode.TheVariants.{On}
use Rattle.machine_model.specs.Machine.{Machine}
use Rattle.machine_model.specs.Run.{Run, Transcript}
use Rattle.machine_model.specs.Settling.{disarmed}
use Rattle.durable.specs.Durable.{IsComplete}
use Rattle.outcomes.specs.Seen.{Seen, answers, asked, may_show}
use Rattle.outcomes.specs.Stops.{stops}

-- the state in which a cut may come at any call of the device
abbrev pub armed : Machine → Machine
armed h = record h { cut_armed = true }

-- The storage is mounted, and whole, as a run leaves it; a cut keeps words whole; nothing is interrupted, and no failure is armed.
pub record IsReady (h : Machine) : Type 0 where
  pub whole : IsComplete h
  pub unit : h.unit ≡ 8
  pub mode : h.mode ≡ On
  pub settled : h.interrupted ≡ None
  pub metadata : h.bad_meta ≡ []
  pub failures : h.fail_armed ≡ false

-- The power went somewhere in a program, between its commands or inside one. Once it was back, a look showed this.
pub record Finds (h : Machine) (program : List Input) (look : List Seen) : Type 0 where
  pub before : List Input
  pub after : List Input
  pub split : program ≡ before ++ after
  pub said : Transcript
  pub off : Machine
  pub ran : Run (armed h) (before ++ Asked Cut ∷ []) said off
  pub choice : Choice
  pub told : Transcript
  pub end : Machine
  pub looked : Run (disarmed off) (Asked (Restart choice) ∷ asked look) told end
  pub bad : ℕ
  pub shown : told.answers ≡ DoneBad bad ∷ answers look

-- some place of the cut may show it
abbrev pub may_find : Machine → List Input → List Seen → Bool
may_find h program look = list_any (may_show look) (stops (armed h) program)
