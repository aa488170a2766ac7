use Rattle.std.proofs.Common.{◌+◌, ◌-◌, ◌*◌, ◌/◌, ◌++◌, length, map, ap, subst, sym, ◌∙◌, arith}
use Rattle.std.specs.List.{range_with_len}
use Rattle.std.proofs.lemmas.List.FromFn.{length-range_with_len}
use Rattle.nvm_base.specs.declared.units.Span.{Span}
use Rattle.cut_places.proofs.MachineModel.RefusalLemmas.{read_within}
use Rattle.cut_places.specs.SightsSeen.Units.{block_numbers, line_numbers}
use Rattle.value_tables.specs.declared.shown.Shown.TheVariants.{Block}
use Rattle.value_tables.specs.Looking.{blocks_touched, lines_touched}
use Rattle.value_tables.specs.Rows.{read_refusal, row_text, touched}
use Rattle.value_tables.specs.Sides.{HasRun, texts}
use Rattle.value_tables.proofs.RowLemmas.{block_count, line_count, run_fits}
use Rattle.value_tables.proofs.touched.add_touched.Goals as goal

pub overflow_add-passed : goal.overflow_add-passed
overflow_add-passed c =
    let now = c.args.sides.now.lines.now in
    let start = c.in-Volume.start in
    let len = c.in-Volume.len in
    let some = (read_within 65536 (4096 * c.args.geometry.vpages) start len (ap (read_refusal c.args.geometry) (sym c.in-Volume.is) ∙ c.requires.taken)).0 in
    let run = subst (λ r. HasRun (line_numbers now) c.args.passed.now.lines (lines_touched r)) c.in-Volume.is c.requires.lines in
    let within = run_fits (line_numbers now) c.args.passed.now.lines (start / 64) ((start + len - 1) / 64 + 1 - start / 64) run (omega (arith, some)) in
    let count = line_count now in
    let fits = c.requires.lines_fit in
    let is = ap (λ (span : Span). span.len) c.lines_of-lines.ensures.value in
    omega (arith, within, count, fits, is)

pub overflow_add-passed-in-Blocks : goal.overflow_add-passed-in-Blocks
overflow_add-passed-in-Blocks c =
    let now = c.args.sides.now.blocks.now in
    let first = c.in-Blocks.first in
    let number = c.in-Blocks.count in
    let some = (read_within 128 c.args.geometry.blocks first number (ap (read_refusal c.args.geometry) (sym c.in-Blocks.is) ∙ c.requires.taken)).0 in
    let run = subst (λ r. HasRun (block_numbers now) c.args.passed.now.blocks (blocks_touched r)) c.in-Blocks.is c.requires.blocks in
    let within = run_fits (block_numbers now) c.args.passed.now.blocks first number run (omega (arith, some)) in
    let count = block_count now in
    let fits = c.requires.blocks_fit in
    omega (arith, within, count, fits)

pub returns-in_ok-add_words-in-Volume-clause-text : goal.returns-in_ok-add_words-in-Volume-clause-text
returns-in_ok-add_words-in-Volume-clause-text c = λ may are others files.
    c.in_ok-add_words-in-Volume.ensures may are
    ∙ ap (λ r. texts c.args.rows.now.items ++ map (row_text may c.args.k) (touched r)) (sym c.in-Volume.is)

pub returns-in_ok-add_words-in-Volume-clause-lines : goal.returns-in_ok-add_words-in-Volume-clause-lines
returns-in_ok-add_words-in-Volume-clause-lines c =
    let start = c.in-Volume.start in
    let len = c.in-Volume.len in
    ap (λ n. c.args.passed.now.lines + n)
    (ap (λ (span : Span). span.len) c.lines_of-lines.ensures.value ∙ sym (length-range_with_len (start / 64) ((start + len - 1) / 64 + 1 - start / 64))
    ∙ ap (λ r. length (lines_touched r)) (sym c.in-Volume.is))

pub returns-in_ok-add_blocks-in-Blocks-clause-text : goal.returns-in_ok-add_blocks-in-Blocks-clause-text
returns-in_ok-add_blocks-in-Blocks-clause-text c = λ may others are files.
    c.in_ok-add_blocks-in-Blocks.ensures may are
    ∙ ap (λ n. texts c.args.rows.now.items ++ map (row_text may c.args.k) (map (λ b. Block b) (range_with_len n c.in-Blocks.count))) c.from.ensures
    ∙ ap (λ r. texts c.args.rows.now.items ++ map (row_text may c.args.k) (touched r)) (sym c.in-Blocks.is)

pub returns-in_ok-add_blocks-in-Blocks-clause-blocks : goal.returns-in_ok-add_blocks-in-Blocks-clause-blocks
returns-in_ok-add_blocks-in-Blocks-clause-blocks c =
    ap (λ n. c.args.passed.now.blocks + n)
    (sym (length-range_with_len c.in-Blocks.first c.in-Blocks.count) ∙ ap (λ r. length (blocks_touched r)) (sym c.in-Blocks.is))
