use Rattle.std.proofs.Common.{◌≡◌, ◌≤◌, length}
use Rattle.script_text.specs.Operands.{ranges_of}
use Rattle.script_text.specs.Script.{words_of}
use Rattle.script_text.proofs.RangeLemmas.{before}
use Rattle.script_text.proofs.ranges.read_all_ranges.Given as goal

abbrev pub invariant-loop-bytes : goal.invariant-loop-bytes
invariant-loop-bytes l =
    (length l.bytes.items ≤ 65536)
    × (ranges_of (words_of l.words) ≡ before l.ranges.items l.bytes.items (ranges_of (words_of l.rest)))

abbrev pub decreases-loop-bytes : goal.decreases-loop-bytes
decreases-loop-bytes l = length (words_of l.rest)
