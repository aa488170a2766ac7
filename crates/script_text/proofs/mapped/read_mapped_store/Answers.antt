use Rattle.std.proofs.Common.{Err, sym, subst}
use Rattle.script_text.specs.Action.{action_of}
use Rattle.script_text.specs.Action.Action.{Store}
use Rattle.script_text.specs.Operands.{data_action}
use Rattle.script_text.specs.Parsing.{ParsesAs}
use Rattle.script_text.specs.Script.{words_of}
use Rattle.script_text.proofs.OperandLemmas.{numbered_action-first}
use Rattle.script_text.proofs.mapped.read_mapped_store.Goals as goal

pub returns-in-Err : goal.returns-in-Err
returns-in-Err c =
    let asks = numbered_action-first (λ handle. data_action (Store handle)) (words_of c.args.words.now) _ _ c.in-Some-read_number.handle c.in-Some.ensures c.in-Some-read_number.ensures in
    subst (λ o. ParsesAs action_of o (Err c.in-Err.fault)) (sym asks) (c.in-Err.ensures (Store c.in-Some-read_number.handle))
