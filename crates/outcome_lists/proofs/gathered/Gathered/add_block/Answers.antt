-- What is seen of the block is sought among what was found.
use Rattle.std.proofs.Common.{◌≡◌, ◌++◌, [], ◌∷◌, false, cond, ap, sym, ◌∙◌, rules, tests}
use Rattle.std.specs.List.{list_any}
use Rattle.std.proofs.lemmas.Iterator.{YieldsList-from_slice}
use Rattle.std.proofs.lemmas.Iterator.Search.{any_from_yields_List}
use Rattle.explorer.specs.SightsSeen.BlockTelling.{same_sight}
use Rattle.outcome_lists.proofs.gathered.Gathered.add_block.Goals as goal

pub returns-in_ok-push-clause-blocks : goal.returns-in_ok-push-clause-blocks
returns-in_ok-push-clause-blocks c =
    let block = c.args.block.now in
    let blocks = c.args.self.now.blocks.items in
    let any = any_from_yields_List (same_sight block) _ _ _ c.any.ensures.ran (YieldsList-from_slice blocks cc) (λ x b q k. search (rules, tests)) in
    let none : list_any (same_sight block) blocks ≡ false = cc in
    c.in_ok-push.ensures.items ∙ ap (λ b. blocks ++ b ∷ []) c.in_ok-duplicate.ensures ∙ ap (λ b. cond b blocks (blocks ++ block ∷ [])) (sym none)
