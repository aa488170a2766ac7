use Rattle.std.proofs.Common.{ℕ, List, Err, sym, subst}
use Rattle.nvm_base.specs.declared.units.Span.{Span}
use Rattle.nvm_base.specs.Stock.{Stock}
use Rattle.script_text.specs.Operands.{ranges_action}
use Rattle.script_text.specs.Parsing.{ParsesAs}
use Rattle.script_text.specs.Script.{words_of}
use Rattle.script_text.proofs.OperandLemmas.{named_action-first}
use Rattle.script_text.proofs.writes.read_named_ranges.Goals as goal

pub returns-in-Err : goal.returns-in-Err
returns-in-Err c make =
    let asks = named_action-first (λ file. ranges_action (make file)) (words_of c.args.words.now) _ _ c.in-Some-read.name c.in-Some.ensures c.in-Some-read.ensures.value in
    subst (λ o. ParsesAs {T = List ℕ × Stock Span × Stock ℕ} (λ p. make p.0 p.1.items p.2.items) o (Err c.in-Err.fault)) (sym asks) (c.in-Err.ensures (make c.in-Some-read.name))
