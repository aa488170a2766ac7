use Rattle.std.proofs.Common.{◌++◌, ap, option_map, sym, ◌∙◌}
use Rattle.reply_text.specs.Answer.{answer_of}
use Rattle.explorer.specs.Reporting.{refusal_line}
use Rattle.explorer.proofs.reporting.report_command.Goals as goal

pub returns-clause-text : goal.returns-clause-text
returns-clause-text g c = λ h stands ready.
    let came = c.in_ok-refused.ensures.done h stands ready in (
      c.in_ok-report_line.ensures
          ∙ ap (λ o. c.args.text.now.items ++ refusal_line c.args.n (option_map answer_of o) c.args.wanted) c.as_ref.ensures.value
          ∙ ap (λ o. c.args.text.now.items ++ refusal_line c.args.n o c.args.wanted) (sym came.0),
      came.1,
    )
