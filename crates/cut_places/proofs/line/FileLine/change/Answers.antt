-- A line of a page that is written anew.
use Rattle.std.proofs.Common.{◌≡◌, ℕ, ◌/◌, ◌%◌, Bool, true, cond, List, ap, sym, ◌∙◌}
use Rattle.nvm_base.specs.declared.units.Span.{Span}
use Rattle.nvm_model.specs.Cell.{Cell, cell_byte}
use Rattle.file_actions.specs.Rewriting.{byte_laid, durable_line, touches_any_page}
use Rattle.cut_places.specs.declared.line.FileLine.{FileLine}
use Rattle.cut_places.specs.FileChanges.{lines_of}
use Rattle.cut_places.specs.FileChanges.LinesChange.{Rewrites}
use Rattle.cut_places.specs.FilesState.{line_after}
use Rattle.cut_places.proofs.line.FileLine.change.Goals as goal

written : (line : FileLine) (ranges tested over : List Span) (bytes : List ℕ) (n : ℕ) (touched : Bool) (new : Cell) → n ≡ line.number → tested ≡ ranges → over ≡ ranges
    → touched ≡ touches_any_page tested (n / 64) → touched ≡ true → new ≡ durable_line (λ at. byte_laid over bytes at (cell_byte line.line (at % 64))) n
    → new ≡ (line_after (Rewrites ranges bytes) line).line
written line ranges tested over bytes n touched new number one other test so is =
    let byte : ℕ → ℕ = λ at. byte_laid ranges bytes at (cell_byte line.line (at % 64)) in
    let passes : touches_any_page ranges (line.number / 64) ≡ true = sym (ap (λ m. touches_any_page ranges (m / 64)) number) ∙ sym (ap (λ rs. touches_any_page rs (n / 64)) one) ∙ sym test ∙ so in
    is ∙ ap (λ rs. durable_line (λ at. byte_laid rs bytes at (cell_byte line.line (at % 64))) n) other ∙ ap (durable_line byte) number
    ∙ sym (ap (λ b. cond b (durable_line byte line.number) line.line) passes)

pub returns-then-touches_any_page : goal.returns-then-touches_any_page
returns-then-touches_any_page c =
    let line = c.args.self.now in
    ap (λ (cell : Cell). record { number = line.number; line = cell })
    (written line c.in-Rewrites.ranges.items c.deref-in-Rewrites.result.now c.deref-then-touches_any_page.result.now c.in-Rewrites.bytes.now c.from-n.result c.touches_any_page.result c.rewritten.result
    c.from-n.ensures c.deref-in-Rewrites.ensures.value c.deref-then-touches_any_page.ensures.value c.touches_any_page.ensures c.if-touches_any_page.true c.rewritten.ensures)
    ∙ sym (ap (λ ch. line_after (lines_of ch) line) c.in-Rewrites.is)
