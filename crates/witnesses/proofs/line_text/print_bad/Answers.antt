use Rattle.std.proofs.Common.{◌*◌, codes, decimal}
use Rattle.witnesses.specs.Asked.{head_of}
use Rattle.witnesses.specs.Texts.{bad_text}
use Rattle.witnesses.proofs.TextLemmas.{ok_more, three}
use Rattle.witnesses.proofs.line_text.print_bad.Goals as goal

pub returns : goal.returns
unfolding bad_text
returns c =
    ok_more c.extend.result
    (three c.args.out.now.items c.print_head.new.out.items c.print_number.new.out.items c.extend.new.self.items (head_of c.args.asked.now) (decimal (64 * c.args.n)) (codes " poison")
    c.in_ok-print_head.ensures c.in_ok-print_number.ensures.ok)
    c.extend.ensures.ok
