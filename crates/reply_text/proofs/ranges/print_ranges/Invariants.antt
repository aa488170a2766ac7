use Rattle.std.proofs.Common.{◌+◌, ◌^◌, ◌<◌, drop, sum_by}
use Rattle.nvm_base.specs.declared.units.Span.{Span}
use Rattle.nvm_base.proofs.AppendLemmas.{Appended}
use Rattle.reply_text.specs.Answer.{answer_text, ranges_text}
use Rattle.reply_text.specs.Answer.Answer.{Ranges}
use Rattle.reply_text.proofs.ranges.print_ranges.Given as goal

abbrev pub invariant-loop-range : goal.invariant-loop-range
invariant-loop-range l = record {
  text : Appended (answer_text (Ranges l.ranges)) (ranges_text l.offset (drop l.range-index l.ranges)) l.fn.out l.out;
  sum : l.offset + sum_by (λ (r : Span). r.len) (drop l.range-index l.ranges) < 2 ^ 64;
}
