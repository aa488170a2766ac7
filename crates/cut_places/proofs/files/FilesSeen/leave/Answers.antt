-- What is left fits, where a cut may leave what is asked for.
use Rattle.std.proofs.Common.{◌≡◌, Result, Ok, Err, IfOk, Option, ap, option_map, rules, ◌∙◌}
use Rattle.std.specs.Option.{option_copied}
use Rattle.script_text.specs.Action.{action_of}
use Rattle.sights.specs.AskedReads.Reads.{file_reads_asked}
use Rattle.cut_places.specs.FileChanges.{FilesChange}
use Rattle.cut_places.specs.FileCommands.{files_change}
use Rattle.cut_places.specs.FileFitting.{fit_now}
use Rattle.cut_places.specs.FileLeaving.{files_left}
use Rattle.cut_places.proofs.LeavingLemmas.{left_fits}
use Rattle.cut_places.proofs.files.FilesSeen.leave.Goals as goal

then_if : {T E : Type 0} {P Q : T → Type 0} (r : Result T E) → IfOk r P → ((x : T) → P x → Q x) → IfOk r Q
then_if (Ok x) so next = next x so
then_if (Err e) so next = tt

pub returns-in_ok-change-in-Some-clause-fits : goal.returns-in_ok-change-in-Some-clause-fits
returns-in_ok-change-in-Some-clause-fits c = λ fit.
    let s = c.args.self.now in
    let reads = file_reads_asked c.args.reads.now in
    let change : Option FilesChange = option_map (files_change s.mappings.mappings) (option_map action_of (option_copied c.args.inside)) in
    let is : IfOk c.leave_in.result (λ left. left ≡ files_left change reads s) = search rules in
    then_if c.leave_in.result is (λ left same. ap (fit_now reads) same ∙ left_fits reads s change fit)
