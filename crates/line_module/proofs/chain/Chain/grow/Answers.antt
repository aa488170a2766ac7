use Rattle.std.proofs.Common.{◌≡◌, inl, inr, ◌∷◌, refl, sym, ◌∙◌, ap, arith}
use Rattle.std.proofs.lemmas.Bool.{cases_eq, cases_lt}
use Rattle.line_device.proofs.WordLemmas.{reaches-in, reaches-out}
use Rattle.line_module.specs.Chains.{values_in, grown_word}
use Rattle.line_module.specs.Memory.{one_more}
use Rattle.line_module.proofs.ChainLemmas.{grown_word-in, grown_word-out}
use Rattle.line_module.proofs.chain.Chain.grow.Goals as goal

pub loop-w-init : goal.loop-w-init
loop-w-init c =
    let at = c.args.at in
    let len = c.args.len in
    (λ v first below. sym (grown_word-out at len c.args.line.now v (first ∷ values_in c.args.self.now v) (reaches-out at len v (inl (omega arith)))), λ v from. refl)

pub loop-w-preserved : goal.loop-w-preserved
loop-w-preserved c =
    let at = c.args.at in
    let len = c.args.len in
    let line = c.args.line.now in
    let old = c.args.self.now in
    let w = c.loop-w.w in (
      λ v first below.
          elim (cases_eq v w) as (λ _. first ∷ values_in c.add.new.self v ≡ grown_word at len line v (first ∷ values_in old v)) [
            | inl is ↦
                let was : values_in c.loop-w.self w ≡ values_in old w = c.loop-w.invariant.1 w (omega arith) in
                let here : first ∷ values_in c.add.new.self w ≡ grown_word at len line w (first ∷ values_in old w) =
                c.add.ensures.on first
                ∙ ap (λ value. one_more (first ∷ values_in c.loop-w.self w) value) c.word_in.ensures
                ∙ sym (grown_word-in at len line w (first ∷ values_in c.loop-w.self w) (reaches-in at len w (omega arith) (omega arith)))
                ∙ ap (λ h. grown_word at len line w (first ∷ h)) was in
                ap (λ k. first ∷ values_in c.add.new.self k) is ∙ here ∙ sym (ap (λ k. grown_word at len line k (first ∷ values_in old k)) is)
            | inr other ↦ ap (λ h. first ∷ h) (c.add.ensures.beside v other) ∙ c.loop-w.invariant.0 v first (omega arith)
          ],
      λ v from. c.add.ensures.beside v (λ is. absurd (omega arith)) ∙ c.loop-w.invariant.1 v (omega arith),
    )

pub returns : goal.returns
returns c w first =
    let at = c.args.at in
    let len = c.args.len in
    let line = c.args.line.now in
    let old = c.args.self.now in
    elim (cases_lt w c.loop-w.w) as (λ _. first ∷ values_in c.loop-w.self w ≡ grown_word at len line w (first ∷ values_in old w)) [
      | inl done ↦ c.loop-w.invariant.0 w first done
      | inr rest ↦ ap (λ h. first ∷ h) (c.loop-w.invariant.1 w rest) ∙ sym (grown_word-out at len line w (first ∷ values_in old w) (reaches-out at len w (inr (omega arith))))
    ]
