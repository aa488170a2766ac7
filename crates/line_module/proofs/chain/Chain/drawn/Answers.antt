use Rattle.std.proofs.Common.{◌≡◌, ◌+◌, ◌-◌, ◌∷◌, ℕ, suc, List, length, get_or, sym, ◌∙◌, ap, arith}
use Rattle.std.specs.Prelude.{Some, slice_get}
use Rattle.std.proofs.lemmas.Option.{slice_get_read}
use Rattle.line_module.specs.Chains.{values_in, items_in}
use Rattle.line_module.specs.Survivors.{drawn_value, survivor_index}
use Rattle.line_module.proofs.chain.Chain.drawn.Goals as goal

-- a value that is drawn after the durable one
later : (seed place first index : ℕ) (h seen : List ℕ) → seen ≡ h → index ≡ survivor_index seed place (length seen + 1) → (index ≡ 0 → ⊥) → get_or seen (index - 1) 0 ≡ drawn_value seed place (first ∷ h)
later seed place first index h seen is drew some =
    let long : length seen + 1 ≡ suc (length h) = omega (arith, ap length is) in
    let which : suc (index - 1) ≡ survivor_index seed place (suc (length h)) = omega (arith, some) ∙ drew ∙ ap (survivor_index seed place) long in
    ap (λ l. get_or l (index - 1) 0) is ∙ ap (λ n. get_or (first ∷ h) n 0) which

pub returns-else-index-eq0 : goal.returns-else-index-eq0
returns-else-index-eq0 c =
    let k = c.args.self.now in
    let found : slice_get k.words.items c.args.w ≡ Some c.index.result.now = slice_get_read k.words.items 8 c.args.w c.index.result.now (omega (arith, k.eight, k.words.ok)) c.requires c.index.ensures in
    let seen : c.as_slice-values.result.now ≡ values_in k c.args.w = c.as_slice-values.ensures.value ∙ sym (ap items_in found) in
    later c.args.seed c.args.place c.args.first c.survivor-index.result (values_in k c.args.w) c.as_slice-values.result.now seen c.survivor-index.ensures c.if-index-eq0.false
