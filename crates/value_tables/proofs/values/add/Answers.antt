-- The value is sought among those that were found.
use Rattle.std.proofs.Common.{◌≡◌, ◌==◌, ◌++◌, [], ◌∷◌, false, cond, ap, sym, ◌∙◌, rules, tests}
use Rattle.std.specs.List.{list_any}
use Rattle.std.proofs.lemmas.Iterator.{YieldsList-from_slice}
use Rattle.std.proofs.lemmas.Iterator.Search.{any_from_yields_List}
use Rattle.value_tables.proofs.values.add.Goals as goal

pub returns-in_ok-push : goal.returns-in_ok-push
returns-in_ok-push c =
    let v = c.args.value in
    let found = c.args.found.now.items in
    let any = any_from_yields_List (λ other. v == other) _ _ _ c.any.ensures.ran (YieldsList-from_slice found cc) (λ x b q k. search (rules, tests)) in
    let none : list_any (λ other. v == other) found ≡ false = cc in
    c.in_ok-push.ensures.items ∙ ap (λ b. cond b found (found ++ v ∷ [])) (sym none)
