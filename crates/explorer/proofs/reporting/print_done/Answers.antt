use Rattle.std.proofs.Common.{[], ◌∷◌, codes, decimal}
use Rattle.explorer.proofs.ReportLemmas.{three_behind}
use Rattle.explorer.proofs.ResultLemmas.{on_ok}
use Rattle.explorer.proofs.reporting.print_done.Goals as goal

pub returns : goal.returns
returns c =
    on_ok c.push.result
    (λ last. three_behind c.args.text.now.items (codes "not refused ") (decimal c.args.n) (10 ∷ []) c.extend.new.self.items c.print_number.new.out.items c.push.new.self.items
    c.in_ok-extend.ensures.ok c.in_ok-print_number.ensures.ok last) c.push.ensures.ok
