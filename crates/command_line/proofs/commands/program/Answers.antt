use Rattle.std.proofs.Common.{◌∙◌, true, ap, codes}
use Rattle.std.proofs.lemmas.Result.{IfOk-weaker}
use Rattle.clap.specs.Simple.{app_of_fields, on_top}
use Rattle.clap.specs.Words.{App, Shape, with_subcommand}
use Rattle.command_line.specs.Commands.{bench_command, check_command, new_command, run_command}
use Rattle.command_line.proofs.commands.program.Goals as goal

pub returns : goal.returns
returns c =
    let one = ap app_of_fields c.no_binary_name.ensures ∙ ap (on_top (λ (s : Shape). record s { no_binary_name = true })) c.new.ensures.app in
    let two = ap app_of_fields c.disable_help_flag.ensures ∙ ap (on_top (λ (s : Shape). record s { disable_help_flag = true })) one in
    let three = ap app_of_fields c.disable_help_subcommand.ensures ∙ ap (on_top (λ (s : Shape). record s { disable_help_subcommand = true })) two in
    let four = ap app_of_fields c.disable_version_flag.ensures ∙ ap (on_top (λ (s : Shape). record s { disable_version_flag = true })) three in
    let base = ap app_of_fields c.subcommand_required-base.ensures ∙ ap (on_top (λ (s : Shape). record s { subcommand_required = true })) four in
    let new = c.in_ok-program.ensures ∙ ap (λ (a : App). with_subcommand a (new_command (codes "new")).top) base in
    let run = c.in_ok-program-2.ensures ∙ ap (λ (a : App). with_subcommand a run_command.top) new in
    let check = c.in_ok-program-3.ensures ∙ ap (λ (a : App). with_subcommand a check_command.top) run in
    let bench = c.in_ok-program-4.ensures ∙ ap (λ (a : App). with_subcommand a bench_command.top) check in
    IfOk-weaker c.with_new-2.result _ _ (λ r h. h ∙ ap (λ (a : App). with_subcommand a (new_command (codes "newbyte")).top) bench) c.with_new-2.ensures
