use Rattle.std.proofs.Common.{◌≡◌, ℕ, ◌+◌, ◌*◌, ◌%◌, ◌<◌, sym, ap, ◌∙◌, arith}
use Rattle.nvm_model.specs.Cell.{cell_byte}
use Rattle.nvm_model.specs.Numbered.{list_from}
use Rattle.nvm_model.proofs.NumberedLemmas.{list_from-is}
use Rattle.file_actions.specs.Rewriting.{byte_laid}
use Rattle.cut_places.proofs.rewriting.new_bytes.Goals as goal

pub returns : goal.returns
returns c =
    let i = c.loop-i.invariant in
    let f : ℕ → ℕ = λ at. byte_laid c.args.ranges.now c.args.bytes.now at (cell_byte c.args.line.now (at % 64)) in
    list_from-is f (64 * c.args.n) c.loop-i.new
    (λ k lt.
    let within : k < 64 = omega (arith, lt, i.size) in
    let place : (64 * c.args.n + k) % 64 ≡ k = omega (arith, within) in
    i.each k (omega (arith, within, c.loop-i-test.false)) ∙ ap (λ m. byte_laid c.args.ranges.now c.args.bytes.now (64 * c.args.n + k) (cell_byte c.args.line.now m)) (sym place))
    ∙ ap (list_from f (64 * c.args.n)) i.size
