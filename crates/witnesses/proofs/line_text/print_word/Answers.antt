use Rattle.std.proofs.Common.{[], ◌∷◌, ◌+◌, ◌*◌, ◌++◌, ap, decimal, ◌∙◌}
use Rattle.std.specs.Int.{to_le_bytes, w64}
use Rattle.nvm_base.specs.Data.{data_text}
use Rattle.witnesses.specs.Asked.{head_of}
use Rattle.witnesses.specs.Texts.{word_text}
use Rattle.witnesses.proofs.TextLemmas.{four, ok_more}
use Rattle.witnesses.proofs.line_text.print_word.Goals as goal

pub returns : goal.returns
unfolding word_text
returns c =
    ok_more c.print_bytes.result
    (λ last.
    four c.args.out.now.items c.print_head.new.out.items c.print_number.new.out.items c.push.new.self.items c.print_bytes.new.out.items (head_of c.args.asked.now) (decimal (64 * c.args.n + 8 * c.args.w)) (32 ∷ [])
    (data_text (to_le_bytes w64 c.args.value)) c.in_ok-print_head.ensures c.in_ok-print_number.ensures.ok c.in_ok-push.ensures.ok
    (last ∙ ap (λ bytes. c.push.new.self.items ++ data_text bytes) c.to_le_bytes.ensures))
    c.print_bytes.ensures.ok
