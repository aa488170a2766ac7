-- What an interruption is answered, and the state that it leaves.
use Rattle.std.specs.Prelude.{◌≡◌, Bool, IsTrue, Option, Some, None}
use Rattle.line_words.specs.declared.interruption.Interruption.{Interruption}
use Rattle.line_words.specs.declared.interruption.Interruption.TheVariants.{Failed, PowerLost as Lost}
use Rattle.reply_text.specs.Answer.{Answer}
use Rattle.reply_text.specs.Answer.Answer.{Done, DoneBad, Bytes, Handle, Ranges, Files, Happened, NoEvent, BadLines, Attribute, Yes, No, Scarred, PoisonBlock, PoisonVolume, PoisonFile, VerifyFile, DeviceFailed, PowerLost, Stopped, Refused, RefusedMeta}
use Rattle.machine_model.specs.declared.mode.Mode.{Mode}
use Rattle.machine_model.specs.declared.mode.Mode.TheVariants as modes
use Rattle.machine_model.specs.Machine.{Machine}

-- what an interruption is answered, and the mode after it
abbrev pub interrupted_answer : Interruption → Answer
interrupted_answer Failed = DeviceFailed
interrupted_answer Lost = PowerLost

abbrev pub interrupted_mode : Interruption → Mode
interrupted_mode Failed = modes.Unsettled
interrupted_mode Lost = modes.Off

-- and which interruption an answer tells of
abbrev pub stop_in : Answer → Option Interruption
stop_in Done = None
stop_in (DoneBad n) = None
stop_in (Bytes bytes) = None
stop_in (Ranges ranges) = None
stop_in (Files files) = None
stop_in (Handle n) = None
stop_in (Happened event) = None
stop_in NoEvent = None
stop_in (BadLines lines) = None
stop_in (Attribute value) = None
stop_in Yes = None
stop_in No = None
stop_in (Scarred block) = None
stop_in (PoisonBlock block line) = None
stop_in (PoisonVolume offset) = None
stop_in (PoisonFile name offset) = None
stop_in (VerifyFile name offset) = None
stop_in DeviceFailed = Some Failed
stop_in PowerLost = Some Lost
stop_in (Stopped line) = None
stop_in (Refused why) = None
stop_in (RefusedMeta line) = None

-- whether it may come: a failure where one is armed, a loss of power where a cut is
abbrev pub may_come : Interruption → Machine → Bool
may_come Failed h = h.fail_armed
may_come Lost h = h.cut_armed

-- It came in this state, and left that one: what was armed may be gone.
pub record Interrupts (by : Interruption) (h next : Machine) : Type 0 where
  pub armed : IsTrue (may_come by h)
  pub state : next ≡ record h { mode = interrupted_mode by; cut_armed = next.cut_armed; fail_armed = next.fail_armed }
  pub cut : IsTrue next.cut_armed → IsTrue h.cut_armed
  pub fail : IsTrue next.fail_armed → IsTrue h.fail_armed
