use Rattle.std.proofs.Common.{◌≡◌, ◌∙◌, rules, ap, ap₂}
use Rattle.std.proofs.lemmas.Result.{IfOk-weaker}
use Rattle.clap.specs.Words.{App, app_of, with_rule, with_subcommand}
use Rattle.command_line.specs.Commands.{new_command}
use Rattle.command_line.proofs.commands.with_new.Goals as goal

pub returns : goal.returns
returns c =
    let one = c.in_ok-arg.ensures.shape c.required.ensures.local ∙ ap₂ with_rule c.new.ensures.app c.required.ensures.rule in
    let two = c.in_ok-arg-2.ensures.shape c.required-2.ensures.local ∙ ap₂ with_rule one c.required-2.ensures.rule in
    let three = c.in_ok-arg-3.ensures.shape c.required-3.ensures.local ∙ ap₂ with_rule two c.required-3.ensures.rule in
    let whole : app_of c.in_ok-command.command ≡ new_command c.args.name.now = c.in_ok-command.ensures.shape c.required-4.ensures.local ∙ ap₂ with_rule three c.required-4.ensures.rule in
    IfOk-weaker c.subcommand.result _ _ (λ r h. h.shape (search rules) ∙ ap (λ (a : App). with_subcommand (app_of c.args.program) a.top) whole) c.subcommand.ensures
