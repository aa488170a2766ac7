use Rattle.std.proofs.Common.{◌++◌, sym, ap, ◌∙◌}
use Rattle.witnesses.specs.Asked.{head_of, volume_head}
use Rattle.witnesses.proofs.TextLemmas.{ok_more}
use Rattle.witnesses.proofs.asked.Asked.print_head.Goals as goal

pub returns-in-OfVolume : goal.returns-in-OfVolume
unfolding volume_head
returns-in-OfVolume c = ok_more c.extend.result (λ told. told ∙ ap (λ asked. c.args.out.now.items ++ head_of asked) (sym c.in-OfVolume.is)) c.extend.ensures.ok
