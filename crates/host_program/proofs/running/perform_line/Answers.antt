use Rattle.std.proofs.lemmas.Result.{IfOk-weaker, on_err_weaker}
use Rattle.script_text.specs.Action.{action_of}
use Rattle.host_program.proofs.LineLemmas.{line_goes-skipped, line_goes-malformed, line_goes-overlong, line_goes-asked}
use Rattle.host_program.proofs.TellLemmas.{unanswered-none, unanswered-left}
use Rattle.host_program.proofs.running.perform_line.Goals as goal

pub returns-in-Ok-None-clause-goes : goal.returns-in-Ok-None-clause-goes
returns-in-Ok-None-clause-goes g c h stands = line_goes-skipped h _ _ _ _ (rw c.in-Ok-None.field-0-is at c.in-Ok-None.ensures.input) stands

pub returns-in-Ok-Some-clause-goes : goal.returns-in-Ok-Some-clause-goes
returns-in-Ok-Some-clause-goes g c = IfOk-weaker c.step.result _ _ (λ _ step h stands. line_goes-asked h _ (action_of c.in-Ok-Some.command) _ _ _ _ _ _ (rw c.in-Ok-Some.field-0-is at c.in-Ok-Some.ensures.input) (step h stands)) c.step.ensures.step

pub returns-in-Err-Syntax-clause-goes : goal.returns-in-Err-Syntax-clause-goes
returns-in-Err-Syntax-clause-goes g c = IfOk-weaker c.print.result _ _ (λ _ line h stands. line_goes-malformed h _ _ _ _ _ (rw c.in-Err-Syntax.field-0-is at c.in-Err-Syntax.ensures.input) stands line) c.print.ensures.ok

pub returns-in-Err-TooLong-clause-goes : goal.returns-in-Err-TooLong-clause-goes
returns-in-Err-TooLong-clause-goes g c = IfOk-weaker c.print-in-Err-TooLong.result _ _ (λ _ line h stands. line_goes-overlong h _ _ _ _ _ (rw c.in-Err-TooLong.field-0-is at c.in-Err-TooLong.ensures.input) stands line) c.print-in-Err-TooLong.ensures.ok

pub returns-in-Ok-Some-clause-unanswered : goal.returns-in-Ok-Some-clause-unanswered
returns-in-Ok-Some-clause-unanswered g c = on_err_weaker c.step.result (λ left. unanswered-left (action_of c.in-Ok-Some.command) _ _ _ _ left.1) c.step.ensures.memory

pub returns-in-Err-Syntax-clause-unanswered : goal.returns-in-Err-Syntax-clause-unanswered
returns-in-Err-Syntax-clause-unanswered g c = on_err_weaker c.print.result (λ _. unanswered-none _) c.print.ensures.err

pub returns-in-Err-TooLong-clause-unanswered : goal.returns-in-Err-TooLong-clause-unanswered
returns-in-Err-TooLong-clause-unanswered g c = on_err_weaker c.print-in-Err-TooLong.result (λ _. unanswered-none _) c.print-in-Err-TooLong.ensures.err

pub returns-in-Err-Memory-clause-unanswered : goal.returns-in-Err-Memory-clause-unanswered
returns-in-Err-Memory-clause-unanswered g c = unanswered-none _
