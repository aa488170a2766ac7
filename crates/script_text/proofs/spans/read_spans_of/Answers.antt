use Rattle.std.proofs.Common.{ℕ, Err, sym, subst}
use Rattle.nvm_base.specs.declared.units.Span.{Span}
use Rattle.nvm_base.specs.Stock.{Stock}
use Rattle.script_text.specs.Operands.{spans_action}
use Rattle.script_text.specs.Parsing.{ParsesAs}
use Rattle.script_text.specs.Script.{words_of}
use Rattle.script_text.proofs.OperandLemmas.{numbered_action-first}
use Rattle.script_text.proofs.spans.read_spans_of.Goals as goal

pub returns-in-Err : goal.returns-in-Err
returns-in-Err c make =
    let asks = numbered_action-first (λ handle. spans_action (make handle)) (words_of c.args.words.now) _ _ c.in-Some-read_number.handle c.in-Some.ensures c.in-Some-read_number.ensures in
    subst (λ o. ParsesAs {T = ℕ × Stock Span} (λ p. make p.0 p.1.items) o (Err c.in-Err.fault)) (sym asks) (c.in-Err.ensures (make c.in-Some-read_number.handle))
