use Rattle.std.proofs.Common.{◌≡◌, ◌+◌, ◌-◌, get_or, inl, inr, take, drop, length, length-drop, ap, sym, ◌∙◌, arith}
use Rattle.std.proofs.lemmas.Bool.{cases_lt}
use Rattle.std.proofs.lemmas.List.{get_or-drop, get_or-take, length-take}
use Rattle.page_table.proofs.judging.past_holes.Goals as goal

pub loop-next-preserved : goal.loop-next-preserved
loop-next-preserved c =
    let words = c.args.words.now in
    let next = c.loop-next.next in
    let size = next + 8 - next in
    let long : length (take size (drop next words)) ≡ 8 = omega (arith, length-take size (drop next words), length-drop next words, c.loop-next-test.true) in
    record {
      from = omega (arith, c.loop-next.invariant.from);
      within = omega (arith, c.loop-next-test.true, c.loop-next.invariant.within);
      holes = λ n from below. elim (cases_lt n next) [
        | inl before ↦ c.loop-next.invariant.holes n from before
        | inr past ↦
            let at : next + (n - next) ≡ n = omega (arith, past) in
            ap (λ k. get_or words k 0) (sym at)
            ∙ sym (get_or-drop next words (n - next) 0)
            ∙ sym (get_or-take size (drop next words) (n - next) 0 (omega (arith, below, past)))
            ∙ c.are_holes.ensures c.if-are_holes.true (n - next) (omega (arith, long, below, past))
      ];
    }
