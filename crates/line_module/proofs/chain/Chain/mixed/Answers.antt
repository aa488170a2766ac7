use Rattle.std.proofs.Common.{◌≡◌, inl, inr, ◌+◌, ◌*◌, ◌∷◌, ℕ, List, get_or, set, sym, ◌∙◌, ap, arith}
use Rattle.std.specs.Int.{byte_at}
use Rattle.std.proofs.lemmas.Bool.{cases_eq}
use Rattle.std.proofs.lemmas.List.{get_or-set_same, get_or-set_other, length-set}
use Rattle.line_device.proofs.WordLemmas.{to_le_bytes-at, word_from-cong}
use Rattle.line_module.specs.Chains.{values_in}
use Rattle.line_module.specs.Survivors.{drawn_value}
use Rattle.line_module.proofs.MixedLemmas.{mixed-small}
use Rattle.line_module.proofs.chain.Chain.mixed.Goals as goal

pub loop-b-preserved : goal.loop-b-preserved
loop-b-preserved c =
    let b = c.loop-b.b in
    let old = c.loop-b.bytes in
    let byte = get_or c.word_bytes.result b 0 in
    let value = λ (n : ℕ). drawn_value c.args.seed (8 * c.args.place + n) (c.args.first ∷ values_in c.args.self.now c.args.w) in
    record {
      long = length-set old b byte ∙ c.loop-b.invariant.long;
      drawn = λ k below.
          elim (cases_eq k b) as (λ _. get_or (set old b byte) k 0 ≡ byte_at k (value k)) [
            | inl same ↦
                ap (λ n. get_or (set old b byte) n 0) same
                ∙ get_or-set_same old b byte 0 (omega (arith, c.loop-b-test.true, c.loop-b.invariant.long))
                ∙ ap (λ (l : List ℕ). get_or l b 0) c.word_bytes.ensures
                ∙ to_le_bytes-at c.drawn-value.result b (omega (arith, c.loop-b-test.true))
                ∙ ap (byte_at b) c.drawn-value.ensures
                ∙ ap (λ n. byte_at n (value n)) (sym same)
            | inr other ↦ get_or-set_other old b k byte 0 other ∙ c.loop-b.invariant.drawn k (omega (arith, below, other))
          ];
    }

pub returns : goal.returns
returns c =
    let h = c.args.first ∷ values_in c.args.self.now c.args.w in
    let value = λ (b : ℕ). drawn_value c.args.seed (8 * c.args.place + b) h in
    c.word_in.ensures
    ∙ word_from-cong (λ k. get_or c.loop-b.bytes (8 * 0 + k) 0) (λ b. byte_at b (value b)) (λ k below.
    let place : 8 * 0 + k ≡ k = omega arith in
    ap (λ i. get_or c.loop-b.bytes i 0) place ∙ c.loop-b.invariant.drawn k (omega (arith, c.loop-b-test.false, below)))
    ∙ sym (mixed-small value c.args.first c.ranges.first.fits)
