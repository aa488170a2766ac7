use Rattle.std.proofs.Common.{refl}
use Rattle.exploration.proofs.LookLemmas.{look_up_to-start}
use Rattle.exploration.proofs.look.read_look.Goals as goal

pub loop-line-init : goal.loop-line-init
loop-line-init c = look_up_to-start c.args.geometry c.args.text.now c.args.first _ c.new.ensures.items refl refl c.new-2.ensures.items
