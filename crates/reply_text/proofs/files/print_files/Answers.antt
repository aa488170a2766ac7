use Rattle.std.proofs.lemmas.Result.{err_from_is_err_and}
use Rattle.nvm_base.proofs.AppendLemmas.{Appended-as, Appends-stopped}
use Rattle.reply_text.proofs.FileTextLemmas.{length-files_text, files_text-more}
use Rattle.reply_text.proofs.files.print_files.Goals as goal

pub returns-in_err-print_file-clause-text : goal.returns-in_err-print_file-clause-text
returns-in_err-print_file-clause-text c =
    let loop = c.loop-file in
    let p = err_from_is_err_and c.from_residual-in_err-print_file.result c.from_residual-in_err-print_file.ensures.1 in
    rw p.1 (Appends-stopped _ _ _ _ _ _ _ (Appended-as _ _ _ _ _ loop.invariant (files_text-more loop.file-index c.args.files.now c.file-item.result c.loop-file-test.true c.file-item.is)) c.in_err-print_file.ensures)

pub returns-in_err-extend-clause-short : goal.returns-in_err-extend-clause-short
returns-in_err-extend-clause-short c = length-files_text c.args.files.now c.know_files.ensures

pub returns-in_err-print_file-clause-short : goal.returns-in_err-print_file-clause-short
returns-in_err-print_file-clause-short c = length-files_text c.args.files.now c.know_files.ensures

pub returns-clause-short : goal.returns-clause-short
returns-clause-short c = length-files_text c.args.files.now c.know_files.ensures
