use Rattle.std.proofs.Common.{◌≢◌, rules, ap, ◌∙◌}
use Rattle.nvm_base.specs.Stock.{Stock}
use Rattle.nvm_base.specs.declared.files.FileEntry.{FileEntry}
use Rattle.reply_text.specs.Answer.{answer_of}
use Rattle.reply_text.specs.declared.reply.Reply.TheVariants as reply
use Rattle.machine_host.specs.declared.outcome.Outcome.TheVariants.{Reply as Replied}
use Rattle.machine_host.specs.Responding.{outcome_answer}
use Rattle.explorer.specs.Stopping.{DeviceStopped}
use Rattle.explorer.proofs.FileLookLemmas.{few_listed, no_list_told, told_list}
use Rattle.explorer.proofs.UntoldLemmas.{not_listed}
use Rattle.explorer.proofs.files_look.list_files.Goals.{in-Reply+in-Ranges-1, in-Reply+in-BadLines-1, in-Reply+in-Done-2, in-Read-2}
use Rattle.explorer.proofs.files_look.list_files.Goals as goal

pub returns-in-Reply-Files-clause-small : goal.returns-in-Reply-Files-clause-small
returns-in-Reply-Files-clause-small g c =
    let known = c.requires.known in
    let work = c.answer.new.work in
    let told = told_list c.answer.new.self known.state (outcome_answer work c.in_ok-files.field-0) (g.D.Lines.state c.args.device.now) (g.D.Lines.state c.answer.new.device)
    (c.in_ok-files.ensures.step known.state known.stands) c.in-Reply-Files.files.items
    (ap (outcome_answer work) c.in-Reply-Files.is ∙ ap answer_of c.in-Reply-Files.field-0-is) in
    few_listed c.args.host.now (g.D.Lines.state c.args.device.now) known.state c.in-Reply-Files.files.items known.serves known.stands told.on told.are

pub returns-in-Reply-Files-clause-lists : goal.returns-in-Reply-Files-clause-lists
returns-in-Reply-Files-clause-lists g c = λ h stands begins.
    let work = c.answer.new.work in
    let told = told_list c.answer.new.self h (outcome_answer work c.in_ok-files.field-0) (g.D.Lines.state c.args.device.now) (g.D.Lines.state c.answer.new.device)
    (c.in_ok-files.ensures.step h stands) c.in-Reply-Files.files.items
    (ap (outcome_answer work) c.in-Reply-Files.is ∙ ap answer_of c.in-Reply-Files.field-0-is) in
    (told.are, told.stands)

pub returns-clause-cause : goal.returns-clause-cause
returns-clause-cause g c = λ h stands begins is.
    let work = c.answer.new.work in
    let outcome = c.in_ok-files.field-0 in
    let old = g.D.Lines.state c.args.device.now in
    let new = g.D.Lines.state c.answer.new.device in
    let stops : ((files : Stock FileEntry) → outcome ≢ Replied (reply.Files files)) → DeviceStopped old.panel new.panel =
    λ none. no_list_told c.answer.new.self h (outcome_answer work outcome) old new (c.in_ok-files.ensures.step h stands) begins.ready (not_listed work outcome none) in
    elim c.match-this.branch [
      | in-Reply+in-Ranges-1 w ↦ let none : (files : Stock FileEntry) → outcome ≢ Replied (reply.Files files) = search rules in stops none
      | in-Reply+in-BadLines-1 w ↦ let none : (files : Stock FileEntry) → outcome ≢ Replied (reply.Files files) = search rules in stops none
      | in-Reply+in-Done-2 w ↦ let none : (files : Stock FileEntry) → outcome ≢ Replied (reply.Files files) = search rules in stops none
      | in-Read-2 w ↦ let none : (files : Stock FileEntry) → outcome ≢ Replied (reply.Files files) = search rules in stops none
    ]
