use Rattle.std.proofs.Common.{Result, Ok, Err, OnOk, ap, ◌∙◌}
use Rattle.mappings.specs.Object.{MappingsState}
use Rattle.script_text.specs.Action.{action_of}
use Rattle.cut_places.specs.FileCommands.{files_change}
use Rattle.cut_places.specs.FilesState.{FilesState, after}
use Rattle.cut_places.proofs.SeesLemmas.{sees_done}
use Rattle.cut_places.proofs.files.FilesSeen.change.Goals as goal

then_so : {T E P Q : Type 0} (r : Result T E) → OnOk r P → (P → Q) → OnOk r Q
then_so (Ok x) so next = next so
then_so (Err e) so next = tt

pub returns-clause-is : goal.returns-clause-is
returns-clause-is c =
    let held = c.args.self.now in
    let action = action_of c.args.command.now in
    then_so c.make.result c.make.ensures
    (λ is. is ∙ ap (λ change. after change held) (c.in_ok-change.ensures ∙ ap (λ (s : MappingsState). files_change s.mappings action) (ap (λ (f : FilesState). f.mappings) c.self.view_is)))

pub returns-clause-follows : goal.returns-clause-follows
returns-clause-follows c = λ h sees complete allowed.
    let held = c.args.self.now in
    let action = action_of c.args.command.now in
    then_so c.make.result c.make.ensures
    (λ is. sees_done held h action c.make.new.self
    (is ∙ ap (λ change. after change held) (c.in_ok-change.ensures ∙ ap (λ (s : MappingsState). files_change s.mappings action) (ap (λ (f : FilesState). f.mappings) c.self.view_is)))
    sees complete allowed)

pub returns-clause-numbers : goal.returns-clause-numbers
returns-clause-numbers c = then_so c.make.result c.make.ensures (λ is. ap (λ (f : FilesState). f.numbers) is)
