use Rattle.std.proofs.Common.{◌≡◌, ◌+◌, ◌-◌, false, sym, subst, ◌∙◌, arith}
use Rattle.line_words.proofs.PositionLemmas.{none_found, one_found}
use Rattle.word_log.proofs.lines.bad_line_in.Goals as goal

pub returns-in-Some : goal.returns-in-Some
returns-in-Some g c =
    let m = (g.L.Lines.state c.args.dev.now).medium in
    let first = one_found m.is_bad c.args.lines.start c.args.lines.len c.in-Some.k (sym c.first_bad.ensures.line ∙ c.in-Some.is) in
    (omega arith, omega (arith, first.within), first.here)

pub returns-in-None : goal.returns-in-None
returns-in-None g c = λ line from to.
    let m = (g.L.Lines.state c.args.dev.now).medium in
    let at : c.args.lines.start + (line - c.args.lines.start) ≡ line = omega arith in
    subst (λ n. m.is_bad n ≡ false) at
    (none_found m.is_bad c.args.lines.start c.args.lines.len (line - c.args.lines.start) (sym c.first_bad.ensures.line ∙ c.in-None.is) (omega arith))
