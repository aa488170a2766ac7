use Rattle.std.proofs.Common.{◌≡◌, ◌-◌, ◌≤◌, ◌++◌, ◌∷◌, [], Some, length, ap, rules, arith, ◌∙◌, length-append}
use Rattle.script_text.specs.Operands.{ranges_of, with_range}
use Rattle.script_text.specs.Script.{words_of}
use Rattle.script_text.proofs.RangeLemmas.{before, before-more, before-over}
use Rattle.script_text.proofs.ranges.read_all_ranges.Goals as goal

pub returns-in_err-start : goal.returns-in_err-start
returns-in_err-start c =
    let over = before-over c.loop-bytes.ranges.items c.loop-bytes.bytes.items (ranges_of (words_of c.loop-bytes.rest.now)) c.loop-bytes.invariant.0 in
    rw (c.loop-bytes.invariant.1) (search rules)

pub loop-bytes-preserved : goal.loop-bytes-preserved
loop-bytes-preserved c =
    let ranges = c.loop-bytes.ranges.items in
    let bytes = c.loop-bytes.bytes.items in
    let more = c.in-Some.data.items in
    let found : ranges_of (words_of c.loop-bytes.rest.now) ≡ with_range (Some c.in-Some.start) (Some more) (ranges_of (words_of c.in-Some.others.now)) = search rules in
    let fits : length more ≤ 65536 - length bytes = search rules in
    let pushed : c.push.new.self.items ≡ ranges ++ record { start = c.in-Some.start; len = length more } ∷ [] = search rules in
    let extended : c.extend.new.self.items ≡ bytes ++ more = search rules in
    let below = c.loop-bytes.invariant.0 in
    rw (pushed, extended) (omega (arith, length-append bytes more), c.loop-bytes.invariant.1 ∙ ap (before ranges bytes) found ∙ before-more ranges bytes more c.in-Some.start _)
