-- What a command's method promises of its reply.
use Rattle.std.specs.Prelude.{◌≡◌, ◌≤◌, ◌++◌, ℕ, List, Result, Ok, Err, length, take}
use Rattle.line_device.specs.Device.{Device}
use Rattle.script_text.specs.Action.{Action}
use Rattle.reply_text.specs.Answer.{Answer, IsPrintable, answer_line, answer_of}
use Rattle.reply_text.specs.Answer.Answer.{Bytes}
use Rattle.reply_text.specs.declared.reply.Reply.{Reply}
use Rattle.reply_text.specs.Room.{most_of}
use Rattle.machine_host.specs.declared.outcome.Outcome.{Outcome}
use Rattle.machine_host.specs.declared.outcome.Outcome.TheVariants.{Read, Reply as Replied}
use Rattle.machine_model.specs.Machine.{Machine}
use Rattle.machine_model.specs.Commands.{fate, longest}
use Rattle.machine_host.specs.Stands.{HostState, HostServes, Stands, Comes}
use Rattle.machine_host.specs.Faults.{Leaves}
use Rattle.machine_host.specs.Keeping.{Keeps, is_refusal}

-- A command was answered so: the machine comes to it in whichever state host and device stood for, host and lines are kept as the
-- answer says, its line can be printed and has room, and the host may go on.
pub record Answered (action : Action) (answer : Answer) (before after : HostState) (old new : Device) : Type 0 where
  pub step : (h : Machine) → Stands before old h → Comes h action (fate h action) answer after old new
  pub keeps : Keeps (is_refusal answer) action before after old new
  pub printable : IsPrintable answer
  pub room : most_of answer ≤ longest action
  pub serves : HostServes after new

-- one step: what came of the command is answered by one line, and host and lines are kept as the answer says
pub record Steps (h : Machine) (action : Action) (out_old out_new : List ℕ) (before after : HostState) (old new : Device) : Type 0 where
  pub answer : Answer
  pub comes : Comes h action (fate h action) answer after old new
  pub keeps : Keeps (is_refusal answer) action before after old new
  pub line : out_new ≡ out_old ++ answer_line answer

-- it was answered, or there was no memory
pub record Unanswered (action : Action) (before after : HostState) (old new : Device) : Type 0 where
  pub leaves : Leaves action before after old new
  pub serves : HostServes after new

abbrev pub Responds : {E : Type 0} → Action → Result Reply E → HostState → HostState → Device → Device → Type 0
Responds action (Ok reply) before after old new = Answered action (answer_of reply) before after old new
Responds action (Err e) before after old new = Unanswered action before after old new

-- what an outcome is answered, where this stands in the work buffer
abbrev pub outcome_answer : List ℕ → Outcome → Answer
outcome_answer work (Read n) = Bytes (take n work)
outcome_answer work (Replied reply) = answer_of reply

-- the bytes that were read stand there
abbrev pub IsWithin : List ℕ → Outcome → Type 0
IsWithin work (Read n) = n ≤ length work
IsWithin work (Replied reply) = Unit {0}

-- a command came to that
abbrev pub ComesTo : Action → List ℕ → Outcome → HostState → HostState → Device → Device → Type 0
ComesTo action work outcome before after old new = Answered action (outcome_answer work outcome) before after old new × IsWithin work outcome

-- or there was no memory
abbrev pub Performs : {E : Type 0} → Action → List ℕ → Result Outcome E → HostState → HostState → Device → Device → Type 0
Performs action work (Ok outcome) before after old new = ComesTo action work outcome before after old new
Performs action work (Err e) before after old new = Unanswered action before after old new
