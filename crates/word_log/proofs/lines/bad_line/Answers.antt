use Rattle.std.proofs.Common.{◌≡◌, ◌*◌, ◌/◌, inl, inr, false, arith}
use Rattle.word_log.proofs.AnswerLemmas.{match_option-then}
use Rattle.word_log.proofs.lines.bad_line.Goals as goal

pub returns-in-Some : goal.returns-in-Some
returns-in-Some g c = ((8 * c.in-Some.line.0, inl (omega (arith, c.in-Some.ensures), omega (arith, c.in-Some.ensures)), omega arith), c.in-Some.ensures.2)

pub returns : goal.returns
returns g c =
    let m = (g.L.Lines.state c.args.dev.now).medium in
    match_option-then c.bad_line_in-2.result c.bad_line_in-2.ensures
    (λ good p of. elim of as (λ _. m.is_bad (p / 8) ≡ false) [
      | inl log ↦ c.in_default.ensures (p / 8) (omega (arith, log)) (omega (arith, log))
      | inr home ↦ let at = c.home_lines.ensures.covers p home in good (p / 8) at.0 at.1
    ])
    (λ line bad. let at = c.home_lines.ensures.only line.0 bad.0 bad.1 in ((at.0, inr at.1, at.2), bad.2))
