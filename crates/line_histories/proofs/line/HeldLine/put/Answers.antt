use Rattle.std.proofs.Common.{◌∙◌, ap, sym}
use Rattle.nvm_model.specs.Cell.{Cell, put_cell}
use Rattle.line_histories.specs.Held.{held}
use Rattle.line_histories.proofs.HeldLemmas.{held-put, put_over-reset}
use Rattle.line_histories.proofs.line.HeldLine.put.Goals as goal
use Rattle.line_histories.proofs.line.HeldLine.put.Goals.{then-self+then-covers_line, else-self}

pub returns-in_ok-log_line : goal.returns-in_ok-log_line
returns-in_ok-log_line c =
    let old = c.self.inside in
    let h = c.self-2.inside in
    let at = c.args.at in
    let n = c.args.n in
    let bytes = c.args.bytes.now in
    let put = λ (cell : Cell). put_cell at bytes n cell in
    let good = c.if-not-self.true in
    ap (λ b. held b h.weak h.durable c.log_line.new.log.items) good
    ∙ held-put h.weak h.durable h.log.items c.log_line.new.log.items n at bytes c.in_ok-log_line.ensures
    ∙ ap (λ b. put (held b h.weak h.durable h.log.items)) (sym good)
    ∙ ap put c.self-2.view_is
    ∙ elim c.if-self.branch [
      | then-self+then-covers_line w ↦
          ap put (w.self-is ∙ w.reset.ensures)
          ∙ put_over-reset at n bytes old.bad old.weak old.durable old.log.items c.args.self.now w.if-self.true c.self.view_is (sym w.if-covers_line.ensures)
      | else-self w ↦ ap put w.self-is
    ]
