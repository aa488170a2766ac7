use Rattle.std.proofs.Common.{◌≡◌, true, false, refl, sym, ◌∙◌}
use Rattle.script_text.specs.Script.{lines_of}
use Rattle.exploration.specs.Program.{has_command, marks_from}
use Rattle.exploration.proofs.ProgramLemmas.{held-mark}
use Rattle.exploration.proofs.program.Program.mark.Goals as goal

pub returns : goal.returns
returns c = λ before is.
    let unmarked : marks_from false before ≡ false = sym is.marks ∙ c.if-self.false in
    let there : has_command (lines_of c.args.others.now) ≡ true = sym c.in_ok-has_command.ensures.value ∙ c.if-not-branch.false in
    rw (unmarked, there) (held-mark before c.add.new.self _ (c.in_ok-add.ensures.line before is) refl refl refl refl)
