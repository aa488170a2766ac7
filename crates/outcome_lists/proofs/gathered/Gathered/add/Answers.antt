use Rattle.std.proofs.Common.{◌/◌, ◌%◌, ◌==◌, [], ◌∷◌, ap, sym, ◌∙◌}
use Rattle.block_sights.specs.Sights.{sight}
use Rattle.nvm_model.specs.Blocks.{nth}
use Rattle.explorer.specs.SightsSeen.BlockTelling.{same_sight}
use Rattle.explorer.specs.SightsSeen.Seeing.{seen}
use Rattle.explorer.specs.ValueTables.Sides.{side_at}
use Rattle.explorer.specs.ValueTables.Values.{cells_of, history_of, values_with, with_all, with_one}
use Rattle.outcome_lists.specs.Choices.{sights_through, values_through}
use Rattle.outcome_lists.proofs.PartSeenLemmas.{first_block, first_line, gone, held_of_word, no_block, no_line, numbers_of_block, numbers_of_word, side_is, there}
use Rattle.explorer.proofs.ResultLemmas.{on_ok}
use Rattle.outcome_lists.proofs.gathered.Gathered.add.Goals as goal

pub returns-in-Some-clause-values : goal.returns-in-Some-clause-values
returns-in-Some-clause-values c = λ geo h follows taken of.
    let start = c.in-Volume.start in
    let now = c.args.sight.now in
    let numbers = numbers_of_word now geo start c.in-Volume.len (rw c.in-Volume.is at taken) (rw c.in-Volume.is at of) in
    let lines = there now.lines.items c.deref.result.now c.first.result c.in-Some.seen c.deref.ensures.value c.first.ensures.value c.in-Some.is in
    let line = first_line (seen h.volume) now.lines.items c.in-Some.seen.now (start / 64) lines.0 numbers.0 lines.1 numbers.1 follows.sees.lines in
    on_ok c.add.result
    (λ added. added ∙ ap (λ cell. with_all (λ a b. a == b) c.args.self.now.word.word.values.items (history_of (start / 8 % 8) cell)) line
    ∙ ap (λ part. values_through part c.args.self.now.word.word.values.items (h ∷ [])) (sym c.in-Volume.is))
    c.add.ensures.values

pub returns-in-None-clause-values : goal.returns-in-None-clause-values
returns-in-None-clause-values c = λ geo h follows taken of.
    let numbers = numbers_of_word c.args.sight.now geo c.in-Volume.start c.in-Volume.len (rw c.in-Volume.is at taken) (rw c.in-Volume.is at of) in
    absurd (no_line c.args.sight.now.lines.items (c.in-Volume.start / 64) numbers.0
    (gone c.args.sight.now.lines.items c.deref.result.now c.first.result c.deref.ensures.value c.first.ensures.value c.in-None.is) numbers.1)

pub returns-in-Some-first-clause-blocks : goal.returns-in-Some-first-clause-blocks
returns-in-Some-first-clause-blocks c = λ geo h follows taken of.
    let first = c.in-Blocks.first in
    let now = c.args.sight.now in
    let numbers = numbers_of_block now geo first c.in-Blocks.count (rw c.in-Blocks.is at taken) (rw c.in-Blocks.is at of) in
    let blocks = there now.blocks.items c.deref-in-Blocks.result.now c.first-in-Blocks.result c.in-Some-first.seen c.deref-in-Blocks.ensures.value c.first-in-Blocks.ensures.value
    c.in-Some-first.is in
    let block = first_block (λ b. sight (nth h.blocks b)) now.blocks.items c.in-Some-first.seen.now first blocks.0 numbers.0 blocks.1 numbers.1 follows.sees.blocks in
    on_ok c.add_block.result
    (λ added. added ∙ ap (with_one same_sight c.args.self.now.blocks.items) block
    ∙ ap (λ part. sights_through part c.args.self.now.blocks.items (h ∷ [])) (sym c.in-Blocks.is))
    c.add_block.ensures.blocks

pub returns-in-None-first-clause-blocks : goal.returns-in-None-first-clause-blocks
returns-in-None-first-clause-blocks c = λ geo h follows taken of.
    let numbers = numbers_of_block c.args.sight.now geo c.in-Blocks.first c.in-Blocks.count (rw c.in-Blocks.is at taken) (rw c.in-Blocks.is at of) in
    absurd (no_block c.args.sight.now.blocks.items c.in-Blocks.first numbers.0
    (gone c.args.sight.now.blocks.items c.deref-in-Blocks.result.now c.first-in-Blocks.result c.deref-in-Blocks.ensures.value c.first-in-Blocks.ensures.value c.in-None-first.is)
    numbers.1)

pub returns-in-File-clause-values : goal.returns-in-File-clause-values
returns-in-File-clause-values c = λ geo h follows taken of.
    let now = c.args.sight.now in
    let start = c.in-File.start in
    let name = c.in-File.name in
    let old = c.args.self.now.word.word.values.items in
    let held = held_of_word now geo name start c.in-File.len (rw c.in-File.is at taken) (rw c.in-File.is at of) in
    on_ok c.add-in-File.result
    (λ added. added.values
    ∙ ap (λ at. values_with (at / 8 % 8) old (cells_of (side_at now.files name (at / 8)))) c.from.ensures
    ∙ ap (λ sides. values_with (start / 8 % 8) old (cells_of sides)) (side_is now geo h name (start / 8) follows held)
    ∙ ap (λ part. values_through part old (h ∷ [])) (sym c.in-File.is))
    c.add-in-File.ensures
