-- No line before it has its number.
use Rattle.std.proofs.Common.{◌==◌, ◌++◌, Bool, cond, [], ap, rules, sym, tests, ◌∙◌}
use Rattle.std.proofs.lemmas.Iterator.{YieldsList-from_slice}
use Rattle.std.proofs.lemmas.Iterator.Search.{any_from_yields_List}
use Rattle.cut_places.specs.AskedReads.Reads.{pages_asked}
use Rattle.witnesses.specs.declared.line_kept.LineKept.{LineKept}
use Rattle.witnesses.specs.Texts.{line_text}
use Rattle.witnesses.proofs.TextLemmas.{ok_more}
use Rattle.witnesses.proofs.text.print_new_line.Goals as goal

pub returns : goal.returns
returns c =
    let number = c.args.line.now.number in
    let any = any_from_yields_List (λ (k : LineKept). k.number == number) _ _ _ c.any.ensures.ran (YieldsList-from_slice c.args.before.now cc) (λ x b q k. search (rules, tests)) in
    ok_more c.print_line.result
    (λ told. told ∙ ap (λ (b : Bool). c.args.out.now.items ++ cond b [] (line_text (pages_asked c.args.reads.now) c.args.line.now)) (sym (sym any ∙ c.if-any.false))) c.print_line.ensures
