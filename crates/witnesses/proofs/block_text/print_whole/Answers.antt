use Rattle.std.proofs.Common.{codes, decimal}
use Rattle.witnesses.specs.Texts.{whole_text}
use Rattle.cut_places.specs.SightsSeen.BlockTelling.{sight_text}
use Rattle.witnesses.proofs.TextLemmas.{ok_more, three}
use Rattle.witnesses.proofs.block_text.print_whole.Goals as goal

pub returns : goal.returns
unfolding whole_text
returns c =
    ok_more c.print_sight.result
    (three c.args.out.now.items c.extend.new.self.items c.print_number.new.out.items c.print_sight.new.out.items (codes " | block ") (decimal c.args.b) (sight_text c.args.block.now)
    c.in_ok-extend.ensures.ok c.in_ok-print_number.ensures.ok)
    c.print_sight.ensures
