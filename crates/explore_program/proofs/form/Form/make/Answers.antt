use Rattle.std.proofs.Common.{◌≡◌, subst, sym}
use Rattle.std.specs.Prelude.{IfOk}
use Rattle.outcome_lists.specs.AskedReads.Program.{inputs_of_lines}
use Rattle.outcome_lists.proofs.Explorer.LedLemmas.{armed_led}
use Rattle.explore_program.specs.Showing.{form_text}
use Rattle.explore_program.specs.declared.form.Form.TheVariants as forms
use Rattle.explore_program.proofs.form.Form.make.Goals as goal

pub returns-in-Table-clause-text : goal.returns-in-Table-clause-text
returns-in-Table-clause-text g c h stands begins =
    rw c.in-Table.is (subst (λ m. IfOk c.tabulate.result (λ t. t.items ≡ form_text forms.Table m (inputs_of_lines c.args.program.now) c.args.reads.now)) (sym (armed_led h (inputs_of_lines c.args.first.now) c.requires.first.program))
    (c.tabulate.ensures.text h stands begins))

pub returns-in-List-clause-text : goal.returns-in-List-clause-text
returns-in-List-clause-text g c h stands begins =
    rw c.in-List.is (subst (λ m. IfOk c.list_outcomes.result (λ t. t.items ≡ form_text forms.List m (inputs_of_lines c.args.program.now) c.args.reads.now)) (sym (armed_led h (inputs_of_lines c.args.first.now) c.requires.first.program))
    (c.list_outcomes.ensures.text h stands begins))
