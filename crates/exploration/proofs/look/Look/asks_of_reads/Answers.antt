use Rattle.std.proofs.Common.{◌≡◌, ◌==◌, ◌&&◌, true, false, not, length, ap, sym, ◌∙◌}
use Rattle.exploration.specs.Exploration.{is_asked}
use Rattle.exploration.proofs.LookLemmas.{held_reads}
use Rattle.exploration.proofs.look.Look.asks_of_reads.Goals as goal

pub returns-then-not-is_empty : goal.returns-then-not-is_empty
returns-then-not-is_empty c = λ look is.
    let some : (length look.reads == 0) ≡ false = ap (λ n. n == 0) (held_reads look c.args.self.now is ∙ sym (ap length c.as_slice.ensures.value)) ∙ sym c.if-not-is_empty.ensures in
    c.is_asked.ensures look is ∙ sym (ap (λ b. not b && is_asked look) some)

pub returns-else-not-is_empty : goal.returns-else-not-is_empty
returns-else-not-is_empty c = λ look is.
    let none : (length look.reads == 0) ≡ true = ap (λ n. n == 0) (held_reads look c.args.self.now is ∙ sym (ap length c.as_slice.ensures.value)) ∙ sym c.if-not-is_empty.ensures in
    ap (λ b. not b) (c.is_empty.ensures ∙ sym c.if-not-is_empty.ensures) ∙ sym (ap (λ b. not b && is_asked look) none)
