-- One more word is told.
use Rattle.std.proofs.Common.{false, slice_index_or}
use Rattle.witnesses.specs.Asked.{head_of, reads_in}
use Rattle.witnesses.specs.Texts.{asked_text}
use Rattle.witnesses.proofs.TextLemmas.{one_more}
use Rattle.witnesses.proofs.line_text.print_words.Goals as goal

pub loop-w-preserved : goal.loop-w-preserved
loop-w-preserved c =
    one_more (λ w. asked_text (head_of c.args.asked.now) (reads_in c.args.asked.now) c.args.n c.args.words.now w (slice_index_or c.args.free.now w false)) c.loop-w.w c.args.out.now.items c.loop-w.out.items
    c.print_asked.new.out.items c.loop-w.invariant c.in_ok-print_asked.ensures
