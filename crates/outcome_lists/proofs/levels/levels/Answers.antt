use Rattle.std.proofs.Common.{◌++◌, [], ◌∷◌, Bor, None, ap, drop, option_map, rules, ◌∙◌}
use Rattle.std.proofs.lemmas.List.{map-append}
use Rattle.explorer.specs.AskedReads.declared.read.Read.{Read}
use Rattle.explorer.specs.AskedReads.Program.{inputs_of_lines}
use Rattle.outcome_walk.specs.declared.level.Level.{Level}
use Rattle.outcome_walk.specs.Holding.{part_held, parts_held}
use Rattle.explorer.specs.SightsSeen.Units.{block_numbers, line_numbers}
use Rattle.outcome_lists.specs.Asking.{choices_held}
use Rattle.outcome_lists.specs.Choices.{states}
use Rattle.outcome_lists.specs.Levels.{levels}
use Rattle.outcome_lists.proofs.LevelLemmas.{blocks_later, files_later, level_held, levels_last, levels_next, lines_later, part_here, parts_later, placed}
use Rattle.outcome_lists.proofs.levels.levels.Goals as goal

pub loop-part-init : goal.loop-part-init
loop-part-init c =
    let sight = c.args.course.now.sight.now in
    record {
      lines = ap (λ n. drop n (line_numbers sight.lines.items)) c.none-passed.ensures.lines ∙ c.requires.looks.lines;
      blocks = ap (λ n. drop n (block_numbers sight.blocks.items)) c.none-passed.ensures.blocks ∙ c.requires.looks.blocks;
      files = c.requires.looks.files;
      parts = c.requires.parts;
      found = λ h from.
          ap (λ ls. parts_held ls ++ levels c.args.places.now (states h (inputs_of_lines c.args.course.now.program.now)) None c.args.parts.now) c.new-found.ensures.items;
    }

pub choices_of-requires-clause-part : goal.choices_of-requires-clause-part
choices_of-requires-clause-part c =
    part_here c.args.course.now.sight.now c.args.course.now.geometry c.args.parts.now c.loop-part.part-index c.loop-part-test.true c.part-item.result c.part-item.is
    c.loop-part.invariant.parts

pub choices_of-requires-clause-at : goal.choices_of-requires-clause-at
choices_of-requires-clause-at c =
    let sight = c.args.course.now.sight.now in
    let geo = c.args.course.now.geometry in
    let i = c.loop-part.invariant in
    let is = part_here sight geo c.args.parts.now c.loop-part.part-index c.loop-part-test.true c.part-item.result c.part-item.is i.parts in
    placed sight geo c.args.parts.now c.loop-part.part-index c.loop-part-test.true c.part-item.result c.part-item.is is.taken c.loop-part.passed.lines c.loop-part.passed.blocks
    i.lines i.blocks i.files

pub pass-requires-clause-part : goal.pass-requires-clause-part
pass-requires-clause-part c = (
  c.args.course.now.geometry,
  part_here c.args.course.now.sight.now c.args.course.now.geometry c.args.parts.now c.loop-part.part-index c.loop-part-test.true c.part-item.result c.part-item.is
      c.loop-part.invariant.parts,
)

pub pass-requires-clause-at : goal.pass-requires-clause-at
pass-requires-clause-at c =
    let sight = c.args.course.now.sight.now in
    let geo = c.args.course.now.geometry in
    let i = c.loop-part.invariant in
    let is = part_here sight geo c.args.parts.now c.loop-part.part-index c.loop-part-test.true c.part-item.result c.part-item.is i.parts in (
      sight,
      placed sight geo c.args.parts.now c.loop-part.part-index c.loop-part-test.true c.part-item.result c.part-item.is is.taken c.loop-part.passed.lines c.loop-part.passed.blocks
          i.lines i.blocks i.files,
      search rules,
      search rules,
    )

pub loop-part-preserved : goal.loop-part-preserved
loop-part-preserved c =
    let sight = c.args.course.now.sight.now in
    let geo = c.args.course.now.geometry in
    let parts = c.args.parts.now in
    let places = c.args.places.now in
    let i = c.loop-part.part-index in
    let lt = c.loop-part-test.true in
    let part = c.part-item.result in
    let at = c.part-item.is in
    let were = c.loop-part.invariant in
    let is = part_here sight geo parts i lt part at were.parts in
    record {
      lines = lines_later sight geo parts i lt part at is.taken c.loop-part.passed.lines c.pass.new.self.lines were.lines c.pass.ensures.lines;
      blocks = blocks_later sight geo parts i lt part at is.taken c.loop-part.passed.blocks c.pass.new.self.blocks were.blocks c.pass.ensures.blocks;
      files = files_later sight geo parts i lt part at were.files;
      parts = parts_later sight geo parts i lt part at were.parts;
      found = λ h from.
          let hs = states h (inputs_of_lines c.args.course.now.program.now) in
          let before = option_map (λ (read : Bor Read). read.now) c.loop-part.before in
          let one : Level = record { links = c.in_ok-links.field-0; choices = c.in_ok-fitted.field-0 } in
          levels_next sight geo parts i lt part at places hs before (parts_held c.loop-part.found.items) (parts_held c.push.new.self.items) _ (part_held one)
          (ap parts_held c.in_ok-push.ensures.items ∙ map-append part_held c.loop-part.found.items (one ∷ []))
          (level_held sight geo parts i lt part at places hs before one (choices_held c.deref.result.now) c.in_ok-links.ensures (c.in_ok-fitted.ensures h from)
          (ap choices_held c.deref.ensures.value ∙ c.in_ok-choices.ensures.choices h from))
          (were.found h from);
    }

pub returns : goal.returns
returns c = λ h from.
    levels_last c.args.places.now (states h (inputs_of_lines c.args.course.now.program.now)) (option_map (λ read. read.now) c.loop-part.before) c.args.parts.now
    c.loop-part.part-index
    (parts_held c.loop-part.found.items) _ c.loop-part-test.false (c.loop-part.invariant.found h from)
