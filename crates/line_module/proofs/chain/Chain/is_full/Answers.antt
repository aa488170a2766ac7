use Rattle.std.proofs.Common.{◌≡◌, inl, inr, ◌==◌, ◌&&◌, ◌∷◌, false, length, sym, ◌∙◌, ap, arith}
use Rattle.std.proofs.lemmas.Bool.{cases_eq, cases_lt}
use Rattle.std.specs.Prelude.{Some, slice_get}
use Rattle.std.proofs.lemmas.Option.{slice_get_read}
use Rattle.line_device.specs.Word.{reaches}
use Rattle.line_device.proofs.WordLemmas.{reaches-in, reaches-out}
use Rattle.line_module.specs.Chains.{values_in, items_in}
use Rattle.line_module.proofs.WordsLemmas.{any_below-at, any_below-none}
use Rattle.line_module.proofs.ChainLemmas.{is_whole}
use Rattle.line_module.proofs.chain.Chain.is_full.Goals as goal

pub loop-w-init : goal.loop-w-init
loop-w-init c v below = ap (λ b. b && (length (values_in c.args.self.now v) == 15)) (reaches-out c.args.at c.args.len v (inl (omega arith)))

pub returns-then-is_full : goal.returns-then-is_full
returns-then-is_full c first =
    let w = c.loop-w.w in
    let h = values_in c.args.self.now in
    let found : slice_get c.args.self.now.words.items w ≡ Some c.index.result.now = slice_get_read c.args.self.now.words.items 8 w c.index.result.now (omega (arith, c.args.self.now.eight, c.args.self.now.words.ok)) (omega arith) c.index.ensures in
    let full = ap (λ l. length (items_in l) == 15) found ∙ sym c.is_full.ensures.value ∙ c.if-is_full.true in
    sym
    (any_below-at (λ v. reaches c.args.at c.args.len v && (length (first v ∷ h v) == 16)) 8 w (omega arith)
    (ap (λ b. b && (length (first w ∷ h w) == 16)) (reaches-in c.args.at c.args.len w (omega arith) (omega arith)) ∙ is_whole (first w) (h w) ∙ full))

pub loop-w-preserved : goal.loop-w-preserved
loop-w-preserved c v below =
    let h = values_in c.args.self.now in
    elim (cases_eq v c.loop-w.w) as (λ _. (reaches c.args.at c.args.len v && (length (h v) == 15)) ≡ false) [
      | inl is ↦
          let w = c.loop-w.w in
          let found : slice_get c.args.self.now.words.items w ≡ Some c.index.result.now = slice_get_read c.args.self.now.words.items 8 w c.index.result.now (omega (arith, c.args.self.now.eight, c.args.self.now.words.ok)) (omega arith) c.index.ensures in
          ap (λ k. reaches c.args.at c.args.len k && (length (h k) == 15)) is
          ∙ ap (λ b. b && (length (h w) == 15)) (reaches-in c.args.at c.args.len w (omega arith) (omega arith))
          ∙ ap (λ l. length (items_in l) == 15) found
          ∙ sym c.is_full.ensures.value
          ∙ c.if-is_full.false
      | inr other ↦ c.loop-w.invariant v (omega arith)
    ]

pub returns : goal.returns
returns c first =
    let h = values_in c.args.self.now in
    sym
    (any_below-none (λ v. reaches c.args.at c.args.len v && (length (first v ∷ h v) == 16)) 8
    (λ v below. ap (λ b. reaches c.args.at c.args.len v && b) (is_whole (first v) (h v))
    ∙ elim (cases_lt v c.loop-w.w) as (λ _. (reaches c.args.at c.args.len v && (length (h v) == 15)) ≡ false) [
      | inl done ↦ c.loop-w.invariant v done
      | inr rest ↦ ap (λ b. b && (length (h v) == 15)) (reaches-out c.args.at c.args.len v (inr (omega arith)))
    ]))
