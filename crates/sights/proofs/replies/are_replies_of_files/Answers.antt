-- Each reply is asked.
use Rattle.std.proofs.Common.{sym, ◌∙◌, rules, tests}
use Rattle.std.proofs.lemmas.Iterator.{YieldsList-from_slice}
use Rattle.std.proofs.lemmas.Iterator.Search.{all_from_yields_List}
use Rattle.std.proofs.lemmas.List.Folds.{list_all-map}
use Rattle.asked_reads.specs.Asking.{may_be_file_reply}
use Rattle.asked_reads.specs.Reads.{file_read}
use Rattle.asked_reads.specs.declared.reads.FileRead.{FileRead}
use Rattle.sights.proofs.replies.are_replies_of_files.Goals as goal

pub returns : goal.returns
returns c =
    all_from_yields_List (λ (r : FileRead). may_be_file_reply (file_read r)) _ _ _ c.all.ensures.ran
    (YieldsList-from_slice c.args.reads.now cc) (λ x b q k. search (rules, tests))
    ∙ sym (list_all-map may_be_file_reply file_read c.args.reads.now)
