use Rattle.nvm_base.specs.declared.units.LineNo.{LineNo}
use Rattle.block_device.specs.Object.{blocks_of}
use Rattle.block_device.proofs.PoisonLemmas.{serves-poisoned}
use Rattle.marked_lines.specs.Refusals.{block_refusal}
use Rattle.scrub.specs.Refusals.{place_says}
use Rattle.scrub.proofs.LostLemmas.{lost-blocks, lost-on_device, lost-outside}
use Rattle.scrub.proofs.OthersLemmas.{but-refl}
use Rattle.marked_lines.proofs.ToldLemmas.{told-err, told-ok}
use Rattle.scrub.proofs.poisoning.poison_block.Goals as goal

pub returns-in_err-found-clause-refused : goal.returns-in_err-found-clause-refused
returns-in_err-found-clause-refused g c =
    let m = (g.L.Lines.state c.args.dev.now).medium in
    told-err LineNo place_says (block_refusal c.args.blocks.now.geo.blocks (blocks_of c.args.blocks.now m) c.args.block c.args.line) c.in_err-found.field-0.0 c.from_residual.result
    (c.in_err-found.ensures.refused m) c.from_residual.ensures.1

pub returns-in_err-found-clause-outside : goal.returns-in_err-found-clause-outside
returns-in_err-found-clause-outside g c = but-refl _ _

pub poison-requires : goal.poison-requires
poison-requires g c = lost-on_device c.args.blocks.now (g.L.Lines.state c.args.dev.now).medium c.args.block c.args.line c.in_ok-found.found.0 c.requires.serves c.in_ok-found.ensures.place.0 c.in_ok-found.ensures.place.1

pub returns-clause-refused : goal.returns-clause-refused
returns-clause-refused g c =
    let m = (g.L.Lines.state c.args.dev.now).medium in
    told-ok place_says (block_refusal c.args.blocks.now.geo.blocks (blocks_of c.args.blocks.now m) c.args.block c.args.line) c.in_ok-found.found tt (c.in_ok-found.ensures.refused m)

pub returns-clause-ok : goal.returns-clause-ok
returns-clause-ok g c = lost-blocks c.args.blocks.now (g.L.Lines.state c.args.dev.now).medium (g.L.Lines.state c.poison.new.self).medium c.args.block c.args.line c.in_ok-found.found.0 c.requires.serves c.in_ok-found.ensures.place.0 c.in_ok-found.ensures.place.1 c.poison.ensures.lines

pub returns-clause-outside : goal.returns-clause-outside
returns-clause-outside g c = lost-outside c.args.blocks.now (g.L.Lines.state c.args.dev.now).medium (g.L.Lines.state c.poison.new.self).medium c.args.block c.args.line c.in_ok-found.found.0 c.requires.serves c.in_ok-found.ensures.place.0 c.in_ok-found.ensures.place.1 c.poison.ensures.lines

pub returns-clause-serves : goal.returns-clause-serves
returns-clause-serves g c = serves-poisoned c.args.blocks.now (g.L.Lines.state c.args.dev.now).medium (g.L.Lines.state c.poison.new.self).medium c.in_ok-found.found.0 c.poison.ensures.lines c.requires.serves
