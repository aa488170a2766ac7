use Rattle.std.proofs.Common.{◌∙◌, sym}
use Rattle.line_device.proofs.WriteBackLemmas.{write_back-refl}
use Rattle.recovery.proofs.FindingLemmas.{superblock_checked}
use Rattle.recovery.proofs.superblock.read_superblock.Goals as goal

pub returns-then-is_bad-clause-lines : goal.returns-then-is_bad-clause-lines
returns-then-is_bad-clause-lines g c = write_back-refl _

pub returns-clause-finds : goal.returns-clause-finds
returns-clause-finds g c =
    let m = (g.L.Lines.state c.args.dev.now).medium in
    superblock_checked m c.lines.result c.in_ok-words.words c.check_words.result (sym c.if-is_bad.ensures) (c.lines.ensures ∙ c.in_ok-words.ensures.lines.count) c.in_ok-words.ensures.size c.in_ok-words.ensures.words
    c.check_words.ensures.finds
