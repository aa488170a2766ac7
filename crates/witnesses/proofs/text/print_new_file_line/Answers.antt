-- No line before it has its number and its file.
use Rattle.std.proofs.Common.{◌==◌, ◌&&◌, ◌++◌, Bool, cond, [], ap, rules, sym, tests, ◌∙◌}
use Rattle.std.specs.Str.{bytes_eq}
use Rattle.std.proofs.lemmas.Iterator.{YieldsList-from_slice}
use Rattle.std.proofs.lemmas.Iterator.Search.{any_from_yields_List}
use Rattle.cut_places.specs.AskedReads.Reads.{file_reads_asked}
use Rattle.witnesses.specs.declared.file_kept.FileLineKept.{FileLineKept}
use Rattle.witnesses.specs.Texts.{file_line_text}
use Rattle.witnesses.proofs.TextLemmas.{ok_more}
use Rattle.witnesses.proofs.text.print_new_file_line.Goals as goal

pub returns : goal.returns
returns c =
    let number = c.args.line.now.number in
    let name = c.args.line.now.name in
    let any = any_from_yields_List (λ (k : FileLineKept). (k.number == number) && bytes_eq k.name name) _ _ _ c.any.ensures.ran (YieldsList-from_slice c.args.before.now cc) (λ x b q k. search (rules, tests)) in
    ok_more c.print_file_line.result
    (λ told. told ∙ ap (λ (b : Bool). c.args.out.now.items ++ cond b [] (file_line_text (file_reads_asked c.args.reads.now) c.args.line.now)) (sym (sym any ∙ c.if-any.false))) c.print_file_line.ensures
