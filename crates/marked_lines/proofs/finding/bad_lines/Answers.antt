use Rattle.std.proofs.Common.{◌+◌, ◌*◌, ◌∷◌, ◌++◌, [], ℕ, List, sym, ap, ◌∙◌}
use Rattle.nvm_base.specs.Stock.{Stock}
use Rattle.page_lines.specs.Sought.{is_bad_at}
use Rattle.file_pages.specs.Object.{file_place}
use Rattle.marked_lines.proofs.FoundLemmas.{offsets-none, offsets-one}
use Rattle.marked_lines.proofs.finding.bad_lines.Goals as goal
use Rattle.marked_lines.proofs.finding.bad_lines.Goals.{then-is_bad+in_ok-push, else-is_bad}

pub loop-k-preserved : goal.loop-k-preserved
loop-k-preserved g c =
    let m = (g.L.Lines.state c.args.dev.now).medium in
    let bad = λ (n : ℕ). is_bad_at m (file_place c.args.files.now.journal c.args.inode n) in
    elim c.if-is_bad.branch [
      | then-is_bad+in_ok-push w ↦
          ap (λ (b : Stock ℕ). b.items) w.found-is ∙ w.in_ok-push.ensures.ok
          ∙ ap (λ (xs : List ℕ). xs ++ 64 * (c.args.lines.start + c.loop-k.k) ∷ []) c.loop-k.invariant
          ∙ sym (offsets-one bad c.args.lines.start c.loop-k.k (sym c.is_bad.ensures ∙ w.if-is_bad.true))
      | else-is_bad w ↦
          ap (λ (b : Stock ℕ). b.items) w.found-is ∙ c.loop-k.invariant
          ∙ sym (offsets-none bad c.args.lines.start c.loop-k.k (sym c.is_bad.ensures ∙ w.if-is_bad.false))
    ]
