-- Runs that nothing interrupts: what the machine writes, given what each restart left. There is nothing to recover from in them.
use Rattle.std.specs.Prelude.{◌≡◌, List, [], ◌∷◌}
use Rattle.line_device.specs.Panel.{Start}
use Rattle.reply_text.specs.declared.reply.Why.TheVariants.{Syntax, TooLong}
use Rattle.reply_text.specs.Answer.Answer.{Done, Refused}
use Rattle.script_text.specs.Script.{Input}
use Rattle.script_text.specs.Script.Input.{Skipped, Malformed, Overlong, Asked}
use Rattle.machine_model.specs.Machine.{Machine}
use Rattle.machine_model.specs.Commands.{fate, spending}
use Rattle.machine_model.specs.Machine.Fate.{Gives, Works, Orders, Cuts, Restarts, Recovers}
use Rattle.machine_model.specs.Restarting.{RestartMayLeave, mounted_answer, restarted}
use Rattle.machine_model.specs.Run.{Transcript, answered, followed_by, silence, with_cut, with_order, with_start, worked}

-- what was said, and the state after it
pub record Performance : Type 0 where
  pub said : Transcript
  pub state : Machine

-- the same with something said before
abbrev pub after : Transcript → Performance → Performance
after said rest = record { said = followed_by said rest.said; state = rest.state }

-- Each restart that is done takes the next start; with none left the machine stops there, and so it does at a recovery.
abbrev pub perform : Machine → List Input → List Start → Performance
perform h [] starts = record { said = silence; state = h }
perform h (Skipped ∷ inputs) starts = perform h inputs starts
perform h (Malformed ∷ inputs) starts = after (answered (Refused Syntax)) (perform h inputs starts)
perform h (Overlong ∷ inputs) starts = after (answered (Refused TooLong)) (perform h inputs starts)
perform h (Asked action ∷ inputs) starts = elim (fate h action) [
  | Gives answer next ↦ after (answered answer) (perform next inputs starts)
  | Works answer next ↦ after (worked (spending h action) answer) (perform next inputs starts)
  | Orders order next ↦ after (with_order order Done) (perform next inputs starts)
  | Cuts next ↦ after (with_cut Done) (perform next inputs starts)
  | Restarts choice ↦ elim starts [
    | [] ↦ record { said = silence; state = h }
    | start ∷ others ↦ after (with_start (spending h action) start (mounted_answer (restarted h start.image))) (perform (restarted h start.image) inputs others)
  ]
  | Recovers ↦ record { said = silence; state = h }
]

-- The starts are as many as the script needs, and each is what its command may leave.
abbrev pub Allows : Machine → List Input → List Start → Type 0
Allows h [] starts = starts ≡ []
Allows h (Skipped ∷ inputs) starts = Allows h inputs starts
Allows h (Malformed ∷ inputs) starts = Allows h inputs starts
Allows h (Overlong ∷ inputs) starts = Allows h inputs starts
Allows h (Asked action ∷ inputs) starts = elim (fate h action) as (λ _. Type 0) [
  | Gives answer next ↦ Allows next inputs starts
  | Works answer next ↦ Allows next inputs starts
  | Orders order next ↦ Allows next inputs starts
  | Cuts next ↦ Allows next inputs starts
  | Restarts choice ↦ elim starts as (λ _. Type 0) [
    | [] ↦ ⊥
    | start ∷ others ↦ (start.choice ≡ choice) × RestartMayLeave choice start.image h × Allows (restarted h start.image) inputs others
  ]
  | Recovers ↦ ⊥
]
