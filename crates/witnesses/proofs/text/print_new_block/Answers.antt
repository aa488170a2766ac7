-- No block before it has its number.
use Rattle.std.proofs.Common.{◌==◌, ◌++◌, Bool, cond, [], ap, rules, sym, tests, ◌∙◌}
use Rattle.std.proofs.lemmas.Iterator.{YieldsList-from_slice}
use Rattle.std.proofs.lemmas.Iterator.Search.{any_from_yields_List}
use Rattle.witnesses.specs.declared.block_kept.BlockKept.{BlockKept}
use Rattle.witnesses.specs.Texts.{block_text}
use Rattle.witnesses.proofs.TextLemmas.{ok_more}
use Rattle.witnesses.proofs.text.print_new_block.Goals as goal

pub returns : goal.returns
returns c =
    let number = c.args.unit.now.number in
    let any = any_from_yields_List (λ (k : BlockKept). k.number == number) _ _ _ c.any.ensures.ran (YieldsList-from_slice c.args.before.now cc) (λ x b q k. search (rules, tests)) in
    ok_more c.print_block.result
    (λ told. told ∙ ap (λ (b : Bool). c.args.out.now.items ++ cond b [] (block_text c.args.unit.now)) (sym (sym any ∙ c.if-any.false))) c.print_block.ensures
