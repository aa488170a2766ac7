use Rattle.std.proofs.Common.{◌≡◌, ◌++◌, false, flat_map, slice_index_or}
use Rattle.std.specs.List.{range_with_len}
use Rattle.witnesses.specs.Asked.{head_of, reads_in}
use Rattle.witnesses.specs.Texts.{asked_text}
use Rattle.witnesses.proofs.line_text.print_words.Given as goal

abbrev pub invariant-loop-w : goal.invariant-loop-w
invariant-loop-w l = l.out.items ≡ l.fn.out.items ++ flat_map (λ w. asked_text (head_of l.asked) (reads_in l.asked) l.n l.words w (slice_index_or l.free w false)) (range_with_len 0 l.w)
