-- What comes of a command, and of a script.
use Rattle.std.specs.Prelude.{◌≡◌, ◌⊎◌, ◌+◌, ℕ, List, [], ◌∷◌, ◌++◌}
use Rattle.line_device.specs.Panel.{Start}
use Rattle.line_device.specs.declared.order.Order.{Order}
use Rattle.line_words.specs.declared.interruption.Interruption.{Interruption}
use Rattle.reply_text.specs.declared.reply.Why.TheVariants.{Syntax, TooLong}
use Rattle.reply_text.specs.Answer.{Answer}
use Rattle.reply_text.specs.Answer.Answer.{Done, Refused}
use Rattle.script_text.specs.Action.{Action}
use Rattle.script_text.specs.Script.{Input}
use Rattle.script_text.specs.Script.Input.{Skipped, Malformed, Overlong, Asked}
use Rattle.machine_model.specs.Costs.{Spending, no_spending, spent_with}
use Rattle.machine_model.specs.Machine.{Machine, Fate}
use Rattle.machine_model.specs.Commands.{fate, spending, while_interrupted}
use Rattle.machine_model.specs.Machine.Fate.{Gives, Works, Orders, Cuts, Restarts, Recovers}
use Rattle.machine_model.specs.Interrupted.{Interrupts, interrupted_answer}
use Rattle.machine_model.specs.Restarting.{RestartMayLeave, mounted_answer, restarted}
use Rattle.machine_model.specs.Recovering.{RecoveryMayLeave}

-- It came to this answer and this state, or was interrupted in that one.
abbrev pub Ends : Answer → Machine → Machine → Answer → Machine → Type 0
Ends good to interrupted answer next =
    ((answer ≡ good) × (next ≡ to)) ⊎ ((by : Interruption) × (answer ≡ interrupted_answer by) × Interrupts by interrupted next)

-- What was said between script and device: what each restart left, the orders that the device got, how often its power was cut,
-- what it was asked for at most, and the answers.
pub record Transcript : Type 0 where
  pub starts : List Start
  pub orders : List Order
  pub cuts : ℕ
  pub spent : Spending
  pub answers : List Answer

-- one after another
abbrev pub followed_by : Transcript → Transcript → Transcript
followed_by one other = record {
  starts = one.starts ++ other.starts;
  orders = one.orders ++ other.orders;
  cuts = one.cuts + other.cuts;
  spent = spent_with one.spent other.spent;
  answers = one.answers ++ other.answers;
}

-- nothing was said
abbrev pub silence : Transcript
silence = record { starts = []; orders = []; cuts = 0; spent = no_spending; answers = [] }

-- an answer alone, or after work
abbrev pub answered : Answer → Transcript
answered answer = record silence { answers = answer ∷ [] }

abbrev pub worked : Spending → Answer → Transcript
worked spent answer = record silence { spent = spent; answers = answer ∷ [] }

-- an answer after an order, a cut of the power, or a restart that left this
abbrev pub with_order : Order → Answer → Transcript
with_order order answer = record silence { orders = order ∷ []; answers = answer ∷ [] }

abbrev pub with_cut : Answer → Transcript
with_cut answer = record silence { cuts = 1; answers = answer ∷ [] }

abbrev pub with_start : Spending → Start → Answer → Transcript
with_start spent start answer = record silence { starts = start ∷ []; spent = spent; answers = answer ∷ [] }

-- what comes of a command in h
abbrev pub Takes : Machine → Action → Fate → Transcript → Machine → Type 0
Takes h action (Gives good to) said next = (said ≡ answered good) × (next ≡ to)
Takes h action (Works good to) said next = (answer : Answer) × (said ≡ worked (spending h action) answer) × Ends good to (while_interrupted h action) answer next
Takes h action (Orders order to) said next = (said ≡ with_order order Done) × (next ≡ to)
Takes h action (Cuts to) said next = (said ≡ with_cut Done) × (next ≡ to)
Takes h action (Restarts choice) said next =
    (start : Start) × (answer : Answer) × (said ≡ with_start (spending h action) start answer) × (start.choice ≡ choice) × RestartMayLeave choice start.image h
    × Ends (mounted_answer (restarted h start.image)) (restarted h start.image) (restarted h start.image) answer next
Takes h action Recovers said next =
    (answer : Answer) × (said ≡ worked (spending h action) answer)
    × (((answer ≡ mounted_answer next) × RecoveryMayLeave h next) ⊎ ((by : Interruption) × (answer ≡ interrupted_answer by) × Interrupts by h next))

-- what comes of an input
abbrev pub Hears : Machine → Input → Transcript → Machine → Type 0
Hears h Skipped said next = (said ≡ silence) × (next ≡ h)
Hears h Malformed said next = (said ≡ answered (Refused Syntax)) × (next ≡ h)
Hears h Overlong said next = (said ≡ answered (Refused TooLong)) × (next ≡ h)
Hears h (Asked action) said next = Takes h action (fate h action) said next

-- A run over inputs, one after another.
abbrev pub Run : Machine → List Input → Transcript → Machine → Type 0
Run h [] said end = (said ≡ silence) × (end ≡ h)
Run h (input ∷ inputs) said end =
    (first : Transcript) × (rest : Transcript) × (next : Machine) × (said ≡ followed_by first rest) × Hears h input first next × Run next inputs rest end
