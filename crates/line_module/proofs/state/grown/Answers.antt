use Rattle.std.proofs.Common.{◌≡◌, ◌∷◌, [], sym, ◌∙◌, ap}
use Rattle.std.specs.Prelude.{Some}
use Rattle.line_module.specs.Chains.{after_durable, grown_word}
use Rattle.line_module.proofs.state.grown.Goals as goal

pub returns-in-Clean-clause-values : goal.returns-in-Clean-clause-values
returns-in-Clean-clause-values c w first =
    let none : after_durable (Some c.args.state) w ≡ [] = ap (λ s. after_durable (Some s) w) c.in-Clean.is in
    c.grow.ensures w first ∙ ap (λ h. grown_word c.args.at c.args.len c.args.last.now w (first ∷ h)) (c.push-chain.ensures.chain w ∙ sym none)
