use Rattle.std.proofs.Common.{◌/◌, true, false, [], Ok}
use Rattle.nvm_model.specs.Cell.{lose_cell}
use Rattle.scrub.specs.Refusals.{place_says}
use Rattle.scrub.proofs.LineLemmas.{changes-poisoned}
use Rattle.scrub.proofs.MarkLemmas.{marked_volume, says_same, unmarked_volume}
use Rattle.scrub.proofs.OthersLemmas.{but-renewed}
use Rattle.scrub.proofs.PlacedLemmas.{on_device}
use Rattle.scrub.proofs.poisoning.poison_volume.Goals as goal

pub line_of_byte-requires : goal.line_of_byte-requires
line_of_byte-requires g c = c.requires.serves.all

pub returns-in_err-line : goal.returns-in_err-line
returns-in_err-line g c =
    let fault = c.in_err-line.field-0.0 in
    record {
      marks = unmarked_volume g.L.Lines.state c.args.volume.now c.args.dev.now place_says lose_cell c.args.offset c.requires.serves fault c.in_err-line.ensures.refused
          c.from_residual.result (says_same place_says fault c.from_residual.result c.from_residual.ensures.1);
    }

pub poison-requires : goal.poison-requires
poison-requires g c = on_device c.args.volume.now (g.L.Lines.state c.args.dev.now).medium (c.args.offset / 64) _ c.requires.serves c.in_ok-line.ensures.place

pub returns : goal.returns
returns g c =
    let old = (g.L.Lines.state c.args.dev.now).medium in
    let new = (g.L.Lines.state c.poison.new.self).medium in
    let line = c.in_ok-line.line in
    record {
      marks = marked_volume g.L.Lines.state c.args.volume.now c.args.dev.now place_says lose_cell c.args.offset c.requires.serves line c.in_ok-line.ensures.refused c.in_ok-line.ensures.place c.poison.new.self
          (but-renewed old new line.0 true false (λ _. []) c.poison.ensures.lines) c.poison.ensures.panel (Ok tt) (changes-poisoned old new line.0 c.poison.ensures.lines);
    }
