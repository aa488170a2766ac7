use Rattle.std.proofs.Common.{[], ◌∷◌, ◌∙◌, ap, get_or, ◌≡◌}
use Rattle.line_device.specs.Word.{word_at}
use Rattle.line_device.proofs.WordLemmas.{below_eight}
use Rattle.nvm_model.specs.Cell.Cell.{Kept}
use Rattle.line_histories.specs.Held.{histories}
use Rattle.line_histories.proofs.HeldLemmas.{histories-durable}
use Rattle.line_histories.proofs.line.HeldLine.of_bytes.Goals as goal

pub returns : goal.returns
returns c =
    let durable = c.word_in.result ∷ c.word_in-2.result ∷ c.word_in-3.result ∷ c.word_in-4.result ∷ c.word_in-5.result ∷ c.word_in-6.result ∷ c.word_in-7.result ∷ c.word_in-8.result ∷ [] in
    ap (λ log. Kept c.args.weak (histories durable log)) c.new.ensures.items
    ∙ ap (Kept c.args.weak) (histories-durable durable (word_at c.args.bytes.now)
    (below_eight (λ k. get_or durable k 0 ≡ word_at c.args.bytes.now k)
    c.word_in.ensures
    c.word_in-2.ensures
    c.word_in-3.ensures
    c.word_in-4.ensures
    c.word_in-5.ensures
    c.word_in-6.ensures
    c.word_in-7.ensures
    c.word_in-8.ensures))
