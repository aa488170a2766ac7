use Rattle.std.proofs.Common.{◌∙◌, sym, ap, option_map, slice_index}
use Rattle.word_log.specs.Mount.Finding.{wrong_word}
use Rattle.recovery.proofs.WordLemmas.{at_mark, at_layout, at_blocks, at_vpages, at_fpages, at_meta, at_total, at_lines, at_bytes, at_end}
use Rattle.recovery.proofs.superblock.check_words.Goals as goal
use Rattle.recovery.proofs.superblock.check_words.Goals.{then-words-total_lines-via-then-words-total_lines, then-words-total_lines-via-else-words-total_lines+then-words-lines}

pub returns-then-words-ne-MARK-clause-finds : goal.returns-then-words-ne-MARK-clause-finds
returns-then-words-ne-MARK-clause-finds c = ap (option_map wrong_word) (at_mark c.args.lines (slice_index c.args.words.now) c.if-words-ne-MARK.true)

pub returns-then-words-ne-LAYOUT-clause-finds : goal.returns-then-words-ne-LAYOUT-clause-finds
returns-then-words-ne-LAYOUT-clause-finds c =
    ap (option_map wrong_word) (at_layout c.args.lines (slice_index c.args.words.now) c.if-words-ne-MARK.false c.if-words-ne-LAYOUT.true)

pub returns-then-not-are_blocks-clause-finds : goal.returns-then-not-are_blocks-clause-finds
returns-then-not-are_blocks-clause-finds c =
    ap (option_map wrong_word)
    (at_blocks c.args.lines (slice_index c.args.words.now) c.if-words-ne-MARK.false c.if-words-ne-LAYOUT.false (sym c.are_blocks.ensures ∙ c.if-not-are_blocks.true))

pub returns-then-not-is_within-clause-finds : goal.returns-then-not-is_within-clause-finds
returns-then-not-is_within-clause-finds c =
    ap (option_map wrong_word)
    (at_vpages c.args.lines (slice_index c.args.words.now) c.if-words-ne-MARK.false c.if-words-ne-LAYOUT.false (sym c.are_blocks.ensures ∙ c.if-not-are_blocks.false)
    (sym c.is_within.ensures ∙ c.if-not-is_within.true))

pub returns-then-not-is_within-2-clause-finds : goal.returns-then-not-is_within-2-clause-finds
returns-then-not-is_within-2-clause-finds c =
    ap (option_map wrong_word)
    (at_fpages c.args.lines (slice_index c.args.words.now) c.if-words-ne-MARK.false c.if-words-ne-LAYOUT.false (sym c.are_blocks.ensures ∙ c.if-not-are_blocks.false)
    (sym c.is_within.ensures ∙ c.if-not-is_within.false)
    (sym c.is_within-2.ensures ∙ c.if-not-is_within-2.true))

pub returns-then-words-meta_lines-clause-finds : goal.returns-then-words-meta_lines-clause-finds
returns-then-words-meta_lines-clause-finds c =
    ap (option_map wrong_word)
    (at_meta c.args.lines (slice_index c.args.words.now) c.if-words-ne-MARK.false c.if-words-ne-LAYOUT.false (sym c.are_blocks.ensures ∙ c.if-not-are_blocks.false)
    (sym c.is_within.ensures ∙ c.if-not-is_within.false)
    (sym c.is_within-2.ensures ∙ c.if-not-is_within-2.false)
    (λ same. c.if-words-meta_lines.true (same ∙ sym c.meta_lines.ensures.lines)))

pub returns-then-words-total_lines-clause-finds : goal.returns-then-words-total_lines-clause-finds
returns-then-words-total_lines-clause-finds c =
    let upto =
    at_total c.args.lines (slice_index c.args.words.now) c.if-words-ne-MARK.false c.if-words-ne-LAYOUT.false (sym c.are_blocks.ensures ∙ c.if-not-are_blocks.false)
    (sym c.is_within.ensures ∙ c.if-not-is_within.false)
    (sym c.is_within-2.ensures ∙ c.if-not-is_within-2.false)
    (c.if-words-meta_lines.false ∙ c.meta_lines.ensures.lines) in
    let count =
    at_lines c.args.lines (slice_index c.args.words.now) c.if-words-ne-MARK.false c.if-words-ne-LAYOUT.false (sym c.are_blocks.ensures ∙ c.if-not-are_blocks.false)
    (sym c.is_within.ensures ∙ c.if-not-is_within.false)
    (sym c.is_within-2.ensures ∙ c.if-not-is_within-2.false)
    (c.if-words-meta_lines.false ∙ c.meta_lines.ensures.lines) in
    ap (option_map wrong_word)
    (elim c.then-words-total_lines.branch [
      | then-words-total_lines-via-then-words-total_lines w ↦ upto (λ same. w.if-words-total_lines.true (same ∙ sym c.total_lines.ensures.lines))
      | then-words-total_lines-via-else-words-total_lines+then-words-lines w ↦ count w.if-words-lines.true
    ])

pub returns-then-words-ne-WORD_BYTES-clause-finds : goal.returns-then-words-ne-WORD_BYTES-clause-finds
returns-then-words-ne-WORD_BYTES-clause-finds c =
    ap (option_map wrong_word)
    (at_bytes c.args.lines (slice_index c.args.words.now) c.if-words-ne-MARK.false c.if-words-ne-LAYOUT.false (sym c.are_blocks.ensures ∙ c.if-not-are_blocks.false)
    (sym c.is_within.ensures ∙ c.if-not-is_within.false)
    (sym c.is_within-2.ensures ∙ c.if-not-is_within-2.false)
    (c.if-words-meta_lines.false ∙ c.meta_lines.ensures.lines)
    (c.if-words-total_lines.false ∙ c.total_lines.ensures.lines)
    c.if-words-lines.false
    c.if-words-ne-WORD_BYTES.true)

pub returns-clause-finds : goal.returns-clause-finds
returns-clause-finds c =
    ap (option_map wrong_word)
    (at_end c.args.lines (slice_index c.args.words.now) c.if-words-ne-MARK.false c.if-words-ne-LAYOUT.false (sym c.are_blocks.ensures ∙ c.if-not-are_blocks.false)
    (sym c.is_within.ensures ∙ c.if-not-is_within.false)
    (sym c.is_within-2.ensures ∙ c.if-not-is_within-2.false)
    (c.if-words-meta_lines.false ∙ c.meta_lines.ensures.lines)
    (c.if-words-total_lines.false ∙ c.total_lines.ensures.lines)
    c.if-words-lines.false
    c.if-words-ne-WORD_BYTES.false)
