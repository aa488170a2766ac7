use Rattle.std.proofs.Common.{ap, sym, ◌∙◌}
use Rattle.std.specs.List.{list_all}
use Rattle.cut_places.specs.AskedReads.Asking.{files_asked}
use Rattle.cut_places.specs.SeesFiles.{is_held}
use Rattle.explorer.proofs.LookingLemmas.{held_read}
use Rattle.explorer.proofs.tabulating.tabulate.Goals as goal

pub table_of-requires-clause-looks : goal.table_of-requires-clause-looks
table_of-requires-clause-looks g c =
    let whole = c.in_ok-sight.ensures.whole.0 in
    let looks = c.in_ok-question.ensures in
    let numbers = c.in_ok-sight.field-0.sight.files.numbers in
    record {
      lines = whole.lines ∙ looks.lines;
      blocks = whole.blocks ∙ looks.blocks;
      files = ap (list_all (is_held numbers)) (sym looks.files) ∙ held_read numbers (files_asked c.in_ok-question.question) ∙ whole.files;
    }
