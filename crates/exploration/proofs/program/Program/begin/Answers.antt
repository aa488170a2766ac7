use Rattle.std.proofs.Common.{◌≡◌, ◌==◌, true, false, length, refl, ap, sym, ◌∙◌, rules}
use Rattle.std.specs.Prelude.{vec_len}
use Rattle.exploration.specs.Program.{has_begin}
use Rattle.exploration.proofs.ProgramLemmas.{held-begin, held-begun, not_false, not_true}
use Rattle.exploration.proofs.program.Program.begin.Goals as goal

pub returns-then-not-is_empty : goal.returns-then-not-is_empty
returns-then-not-is_empty c = λ before is.
    let same : length c.args.self.now.first.items ≡ vec_len c.args.self.now.first = search rules in
    let some : (length c.args.self.now.first.items == 0) ≡ false = ap (λ n. n == 0) same ∙ sym c.if-not-is_empty.ensures in
    let begun = not_false (has_begin before) (sym (held-begun before c.args.self.now is) ∙ some) in
    rw begun refl

pub returns : goal.returns
returns c = λ before is.
    let same : length c.args.self.now.first.items ≡ vec_len c.args.self.now.first = search rules in
    let none : (length c.args.self.now.first.items == 0) ≡ true = ap (λ n. n == 0) same ∙ sym c.if-not-is_empty.ensures in
    let unbegun = not_true (has_begin before) (sym (held-begun before c.args.self.now is) ∙ none) in
    let count : c.len.result ≡ length c.add.new.self.lines.items = search rules in
    rw unbegun (held-begin before c.add.new.self _ c.len.result (c.in_ok-add.ensures.line before is) unbegun count (ap (λ v. v.items) c.replace.ensures.value)
    (ap (λ v. v.items) c.replace.ensures.after ∙ c.in_ok-unasked.ensures) refl refl)
