use Rattle.std.proofs.Common.{◌+◌, ◌∙◌, get_or, sym, subst, ◌<◌, arith}
use Rattle.std.proofs.lemmas.List.Sums.{sum_by_more}
use Rattle.nvm_base.specs.declared.units.Span.{Span}
use Rattle.file_actions.proofs.DataLemmas.{laid-more}
use Rattle.file_actions.proofs.ranges.lay.Goals as goal

pub loop-range-preserved : goal.loop-range-preserved
loop-range-preserved c =
    let ranges = c.args.ranges.now in
    let k = c.loop-range.range-index in
    let at = c.loop-range.at in
    let none : Span = record { start = 0; len = 0 } in
    let before = c.loop-range.invariant in
    let more = sum_by_more (λ (r : Span). r.len) ranges k none c.loop-range-test.true in
    record {
      at = omega (arith, before.at, more);
      size = c.lay_one.ensures.length ∙ before.size;
      bytes = λ i within.
          laid-more ranges c.args.bytes.now k at none (c.args.offset + i) (get_or c.loop-range.out i 0) (get_or c.lay_one.new.out i 0) c.loop-range-test.true c.requires.disjoint
          (c.lay_one.ensures.bytes i (subst (λ n. i < n) (sym before.size) within))
          ∙ before.bytes i within;
    }
