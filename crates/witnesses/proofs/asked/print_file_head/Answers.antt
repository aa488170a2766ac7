use Rattle.std.proofs.Common.{[], ◌∷◌, ◌++◌, ap, codes, ◌∙◌}
use Rattle.witnesses.specs.Asked.{file_head}
use Rattle.witnesses.proofs.TextLemmas.{ok_more, three}
use Rattle.witnesses.proofs.asked.print_file_head.Goals as goal

pub returns : goal.returns
unfolding file_head
returns c =
    ok_more c.push.result
    (three c.args.out.now.items c.extend.new.self.items c.extend-2.new.self.items c.push.new.self.items (codes " | file ") c.args.name.now (32 ∷ []) c.in_ok-extend.ensures.ok
    (c.in_ok-extend-2.ensures.ok ∙ ap (λ text. c.extend.new.self.items ++ text) c.bytes.ensures.text))
    c.push.ensures.ok
