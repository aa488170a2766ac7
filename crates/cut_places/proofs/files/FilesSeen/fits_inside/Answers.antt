use Rattle.std.proofs.Common.{Result, Ok, Err, IfOk, ap, ◌∙◌}
use Rattle.mappings.specs.Object.{MappingsState}
use Rattle.script_text.specs.Action.{action_of}
use Rattle.sights.specs.AskedReads.Reads.{file_reads_asked}
use Rattle.cut_places.specs.FileCommands.{files_change}
use Rattle.cut_places.specs.FileFitting.{fit_inside}
use Rattle.cut_places.specs.FilesState.{FilesState}
use Rattle.cut_places.proofs.InsideLemmas.{command_inside}
use Rattle.cut_places.proofs.files.FilesSeen.fits_inside.Goals as goal

then_if : {T E : Type 0} {P Q : T → Type 0} (r : Result T E) → IfOk r P → ((x : T) → P x → Q x) → IfOk r Q
then_if (Ok x) so next = next x so
then_if (Err e) so next = tt

pub returns-clause-fits : goal.returns-clause-fits
returns-clause-fits c =
    let s = c.args.self.now in
    let action = action_of c.args.command.now in
    let reads = file_reads_asked c.args.reads.now in
    then_if c.fits_in_change.result c.fits_in_change.ensures
    (λ fit is. is ∙ ap (λ change. fit_inside change reads s) (c.in_ok-change.ensures ∙ ap (λ (m : MappingsState). files_change m.mappings action) (ap (λ (f : FilesState). f.mappings) c.self.view_is)))

pub returns-clause-shown : goal.returns-clause-shown
returns-clause-shown c = λ h sees complete held allowed.
    let s = c.args.self.now in
    let action = action_of c.args.command.now in
    let reads = file_reads_asked c.args.reads.now in
    then_if c.fits_in_change.result c.fits_in_change.ensures
    (λ fit is. is ∙ ap (λ change. fit_inside change reads s) (c.in_ok-change.ensures ∙ ap (λ (m : MappingsState). files_change m.mappings action) (ap (λ (f : FilesState). f.mappings) c.self.view_is))
    ∙ command_inside reads s h action sees complete held allowed)
