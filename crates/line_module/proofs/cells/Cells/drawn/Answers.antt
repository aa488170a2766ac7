use Rattle.std.proofs.Common.{◌≡◌, inl, inr, ◌+◌, ◌*◌, ℕ, List, [], ◌∷◌, length, sym, ◌∙◌, ap, arith}
use Rattle.std.proofs.lemmas.Bool.{cases_eq}
use Rattle.std.specs.Int.{w64, to_le_bytes}
use Rattle.line_device.specs.Word.{word_at, word_over, reaches}
use Rattle.line_device.specs.declared.line.Choice.TheVariants.{Seed}
use Rattle.line_device.proofs.WordLemmas.{word_over-word, reaches-other_word}
use Rattle.line_module.specs.Survivors.{survivor_of}
use Rattle.line_module.specs.Cells.{cells_medium}
use Rattle.line_module.proofs.PutOverLemmas.{word-put, word-past}
use Rattle.line_module.proofs.cells.Cells.drawn.Goals as goal

pub loop-w-preserved : goal.loop-w-preserved
loop-w-preserved c =
    let w = c.loop-w.w in
    let old = c.loop-w.bytes in
    let new = c.put.new.line in
    let value = c.drawn_word-value.result in
    let eight = c.word_bytes.result in
    let is : eight ≡ to_le_bytes w64 value = c.word_bytes.ensures in
    let history = (cells_medium c.args.self.now).history in
    let place = λ (v : ℕ). 8 * c.args.line.0 + v in
    let on : word_at new w ≡ value =
    word-put (8 * w) w eight old new c.put.ensures.small c.put.ensures.bytes ∙ ap (λ b. word_over (8 * w) b w (word_at old w)) is ∙ word_over-word w value (word_at old w) c.drawn_word-value.type_inv in
    let beside : (v : ℕ) → (v ≡ w → ⊥) → word_at new v ≡ word_at old v =
    (λ v other. word-past (8 * w) v eight old new c.put.ensures.bytes (ap (λ (b : List ℕ). reaches (8 * w) (length b) v) is ∙ reaches-other_word w v (λ e. other (sym e)))) in (
      λ v below.
          elim (cases_eq v w) as (λ _. survivor_of c.args.unit (Seed c.args.seed) (place v) (history (place v)) ≡ word_at new v ∷ []) [
            | inl same ↦ ap (λ k. survivor_of c.args.unit (Seed c.args.seed) (place k) (history (place k))) same ∙ c.drawn_word-value.ensures ∙ ap (λ x. x ∷ []) (sym on) ∙ ap (λ k. word_at new k ∷ []) (sym same)
            | inr other ↦ c.loop-w.invariant.0 v (omega arith) ∙ ap (λ x. x ∷ []) (sym (beside v other))
          ],
      λ v from below. c.loop-w.invariant.1 v (omega arith) below ∙ ap (λ x. x ∷ []) (sym (beside v (λ same. absurd (omega arith)))),
    )
