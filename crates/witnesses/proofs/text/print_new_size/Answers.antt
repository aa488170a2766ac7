-- No file before it has its name.
use Rattle.std.proofs.Common.{◌++◌, Bool, cond, [], ap, rules, sym, tests, ◌∙◌}
use Rattle.std.specs.Str.{bytes_eq}
use Rattle.std.proofs.lemmas.Iterator.{YieldsList-from_slice}
use Rattle.std.proofs.lemmas.Iterator.Search.{any_from_yields_List}
use Rattle.witnesses.specs.declared.size_kept.SizeKept.{SizeKept}
use Rattle.witnesses.specs.Texts.{size_text}
use Rattle.witnesses.proofs.TextLemmas.{ok_more}
use Rattle.witnesses.proofs.text.print_new_size.Goals as goal

pub returns : goal.returns
returns c =
    let name = c.args.size.now.name in
    let any = any_from_yields_List (λ (k : SizeKept). bytes_eq k.name name) _ _ _ c.any.ensures.ran (YieldsList-from_slice c.args.before.now cc) (λ x b q k. search (rules, tests)) in
    ok_more c.print_size.result
    (λ told. told ∙ ap (λ (b : Bool). c.args.out.now.items ++ cond b [] (size_text c.args.size.now)) (sym (sym any ∙ c.if-any.false))) c.print_size.ensures
