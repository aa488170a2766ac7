use Rattle.std.proofs.Common.{Ok, ap, ◌∙◌, map, refl, rules}
use Rattle.asked_reads.specs.Looking.{read_action}
use Rattle.exploration.specs.Steps.{look_line_of}
use Rattle.exploration.proofs.LookLemmas.{held-asks}
use Rattle.exploration.proofs.look.Look.take.Goals as goal

pub returns-in_ok-map_err-in-Asks : goal.returns-in_ok-map_err-in-Asks
returns-in_ok-map_err-in-Asks c = λ look is.
    let finds = c.in_ok-asking-in-Asks.ensures in
    held-asks c.args.geometry look c.args.self.now _ _ _ _ _ c.in_ok-asking-in-Asks.asking _ is (c.in_ok-read_look_line.ensures ∙ ap (λ l. Ok (look_line_of l)) c.in-Asks.is)
    (ap (map read_action) c.as_slice-reads.ensures.value) (rw c.as_slice.ensures at finds) c.push.ensures.items (search rules) refl refl refl
