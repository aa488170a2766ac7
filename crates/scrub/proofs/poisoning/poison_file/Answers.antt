use Rattle.std.proofs.Common.{◌/◌, true, false, [], Ok}
use Rattle.nvm_model.specs.Cell.{lose_cell}
use Rattle.marked_lines.proofs.ApartLemmas.{file_apart}
use Rattle.scrub.specs.Refusals.{place_says}
use Rattle.scrub.proofs.LineLemmas.{changes-poisoned}
use Rattle.scrub.proofs.MarkLemmas.{marked_file, says_same, unmarked_file}
use Rattle.scrub.proofs.OthersLemmas.{but-renewed}
use Rattle.scrub.proofs.poisoning.poison_file.Goals as goal

pub returns-in_err-line : goal.returns-in_err-line
returns-in_err-line g c =
    let fault = c.in_err-line.field-0.0 in
    record {
      marks = unmarked_file g.L.Lines.state c.args.files.now c.args.dev.now place_says lose_cell c.args.inode c.args.offset c.requires.inode c.requires.serves fault c.in_err-line.ensures.refused
          c.from_residual.result (says_same place_says fault c.from_residual.result c.from_residual.ensures.1);
    }

pub poison-requires : goal.poison-requires
poison-requires g c =
    (file_apart c.args.files.now.journal (g.L.Lines.state c.args.dev.now).medium c.args.inode c.in_ok-line.ensures.tables c.requires.inode c.requires.serves).on (c.args.offset / 64) c.in_ok-line.line.0
    c.in_ok-line.ensures.place

pub returns : goal.returns
returns g c =
    let old = (g.L.Lines.state c.args.dev.now).medium in
    let new = (g.L.Lines.state c.poison.new.self).medium in
    let line = c.in_ok-line.line in
    let found = c.in_ok-line.ensures in
    record {
      marks = marked_file g.L.Lines.state c.args.files.now c.args.dev.now place_says lose_cell c.args.inode c.args.offset c.requires.inode c.requires.serves line found.refused found.place found.valid found.tables c.poison.new.self
          (but-renewed old new line.0 true false (λ _. []) c.poison.ensures.lines) c.poison.ensures.panel (Ok tt) (changes-poisoned old new line.0 c.poison.ensures.lines);
    }
