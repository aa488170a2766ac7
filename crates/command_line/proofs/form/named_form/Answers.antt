use Rattle.std.proofs.Common.{◌∙◌, sym}
use Rattle.command_line.proofs.FormLemmas.{command_bench, command_check, command_new, command_new_byte, command_other, command_run, met_is}
use Rattle.command_line.proofs.form.named_form.Goals as goal

pub returns-in-new : goal.returns-in-new
returns-in-new c =
    c.new_form.ensures ∙ sym (met_is _ _ _ c.in_ok-name.ensures.name c.in_ok-name.ensures.rows ∙ command_new _ _ c.in-new.is)

pub returns-in-run : goal.returns-in-run
returns-in-run c =
    c.run_form.ensures ∙ sym (met_is _ _ _ c.in_ok-name.ensures.name c.in_ok-name.ensures.rows ∙ command_run _ _ c.in-run.is)

pub returns-in-check : goal.returns-in-check
returns-in-check c =
    c.check_form.ensures ∙ sym (met_is _ _ _ c.in_ok-name.ensures.name c.in_ok-name.ensures.rows ∙ command_check _ _ c.in-check.is)

pub returns-in-bench : goal.returns-in-bench
returns-in-bench c =
    c.bench_form.ensures ∙ sym (met_is _ _ _ c.in_ok-name.ensures.name c.in_ok-name.ensures.rows ∙ command_bench _ _ c.in-bench.is)

pub returns-in-newbyte : goal.returns-in-newbyte
returns-in-newbyte c =
    c.new_byte_form.ensures ∙ sym (met_is _ _ _ c.in_ok-name.ensures.name c.in_ok-name.ensures.rows ∙ command_new_byte _ _ c.in-newbyte.is)

pub returns-in_default : goal.returns-in_default
returns-in_default c =
    sym (met_is _ _ _ c.in_ok-name.ensures.name c.in_ok-name.ensures.rows ∙ command_other _ _ c.in_default.not-new c.in_default.not-run c.in_default.not-check c.in_default.not-bench c.in_default.not-newbyte)
